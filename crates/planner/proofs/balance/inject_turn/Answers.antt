-- `planner::balance::inject_turn` meets its contract: it fills the child that is chosen, if one is (the laws are in Settle).
use mathlib.Core.Bool.{Bool}
use mathlib.Core.List.{List}
use Prim.Native.Nat.{ℕ}
use Rattle.model.specs.Yard.{Yard}
use Rattle.serve.specs.declared.state.State.{State}
use Rattle.serve.specs.declared.tree.Children.{Children}
use Rattle.serve.specs.Serving.{Sees}
use Rattle.planner.specs.Balancing.{AskedTurn}
use Rattle.serve.proofs.Serving.{half_first, half_sees}
use Rattle.planner.proofs.Settle.{taken_none, turn_asked, taken_some}
use Rattle.planner.proofs.balance.inject_turn.Goals as goal

-- what the choice looks at
looks : {b : Bool} {y : Yard} {t : Children} {s : State} {plan : List ℕ} {u : ℕ} → AskedTurn b y t s plan u → Sees y t s u
looks {u = u} a = half_sees (half_first u a.asked.described) a.asked.node

pub returns-then-c-u : goal.returns-then-c-u
returns-then-c-u c y a = taken_none a (c.pick-c.ensures.value y (looks a)) c.pick-c.ensures.picks c.if-c-u.true

pub fill_child-requires : goal.fill_child-requires
fill_child-requires c =
    let p = c.requires in
    (p.0, _, turn_asked p.1 (c.pick-c.ensures.value p.0 (looks p.1)) c.pick-c.ensures.picks c.if-c-u.false)

pub returns : goal.returns
returns c y a =
    let q = c.pick-c.ensures.value y (looks a) in
    let p = c.pick-c.ensures.picks in
    taken_some a q p c.if-c-u.false (c.fill_child.ensures y _ (turn_asked a q p c.if-c-u.false))

-- `test_event` is refused as the yard is, then for the list's length, for the node, if the event cannot happen by the counts there, and
-- where the list first differs from the demands.
use native.Mathlib.Omega.{arith}
use mathlib.Core.Path.{◌≡◌, sym, ◌∙◌}
use mathlib.Core.Bool.{Bool, true}
use mathlib.Core.List.{List}
use mathlib.Core.Option.{none}
use Prim.Native.Nat.{ℕ, ◌≤◌, ◌<◌}
use lib.ListN.{length}
use lib.IntN.{ℤ}
use lib.Seq.{length-take-le}
use Rattle.model.specs.Given.{listed}
use Rattle.model.specs.declared.Event.{Event}
use Rattle.model.specs.Yard.{Yard, size, pebble, target, capacity}
use Rattle.model.specs.Judge.{first_of, Tree}
use Rattle.model.specs.Calls.Events.{ready_tests}
use Rattle.laws.proofs.Judged.{facts}
use Rattle.laws.proofs.Refused.{passed_on}
use Rattle.laws.proofs.EventRuns.{ready_judge, ready_length, ready_node, ready_already, ready_none, event_refused}
use Rattle.demand.proofs.Answers.{then_front}
use Rattle.event.specs.Change.{can}
use Rattle.event.proofs.Steps.{possible_can}
use Rattle.event.proofs.Happened.{stale_refused, stale_passed}
use Rattle.event.proofs.call.test_event.Goals as goal

-- the fresh demands have an entry for each node
room : (y : Yard) → Tree y → (n : ℕ) → n ≡ 256 → size y ≤ n
room y t n e = omega (arith, (facts y t).few)

-- where the tests before 23 are passed
ready : (y : Yard) (list : List ℤ) (e : Event) (v : ℕ) → Tree y → length list ≡ size y → v < size y
    → (b : Bool) → b ≡ can e (pebble y v) (target y v) (capacity y v) → b ≡ true → first_of (ready_tests y list e v) ≡ none
ready y list e v t k l b told q = ready_none y list e v t k l (sym (possible_can y e v) ∙ sym told ∙ q)

pub returns-in_err-tree_demands : goal.returns-in_err-tree_demands
returns-in_err-tree_demands c =
    let a = c.args in
    let y = listed a.yard.now in
    let judged = (sym c.in_err-tree_demands.ensures.result_value) in
    passed_on _ _ c.from_residual.ensures.1 (sym (event_refused y a.list.now a.event a.node (ready_judge y a.list.now a.event a.node judged)))

pub returns-then-list-n : goal.returns-then-list-n
returns-then-list-n c =
    let a = c.args in
    let y = listed a.yard.now in
    let t = (sym c.in_ok-tree_demands.ensures.result_value) in
    sym (event_refused y a.list.now a.event a.node (ready_length y a.list.now a.event a.node t c.if-list-n.true))

pub returns-then-node-n : goal.returns-then-node-n
returns-then-node-n c =
    let a = c.args in
    let y = listed a.yard.now in
    let t = (sym c.in_ok-tree_demands.ensures.result_value) in
    sym (event_refused y a.list.now a.event a.node (ready_node y a.list.now a.event a.node t c.if-list-n.false c.if-node-n.true))

pub bounds-yard-node : goal.bounds-yard-node
bounds-yard-node c =
    let a = c.args in
    let y = listed a.yard.now in
    omega (arith, (facts y (sym c.in_ok-tree_demands.ensures.result_value)).pebbles_size)

pub bounds-yard-node-2 : goal.bounds-yard-node-2
bounds-yard-node-2 c =
    let a = c.args in
    let y = listed a.yard.now in
    omega (arith, (facts y (sym c.in_ok-tree_demands.ensures.result_value)).targets_size)

pub bounds-yard-node-3 : goal.bounds-yard-node-3
bounds-yard-node-3 c =
    let a = c.args in
    let y = listed a.yard.now in
    omega (arith, (facts y (sym c.in_ok-tree_demands.ensures.result_value)).depths_size)

pub returns-then-not-can_happen : goal.returns-then-not-can_happen
returns-then-not-can_happen c =
    let a = c.args in
    let y = listed a.yard.now in
    let t = (sym c.in_ok-tree_demands.ensures.result_value) in
    let l : a.node < size y = omega (arith, c.if-node-n.false) in
    let told = sym (possible_can y a.event a.node) ∙ sym c.can_happen.ensures ∙ c.if-not-can_happen.true in
    sym (event_refused y a.list.now a.event a.node (ready_already y a.list.now a.event a.node t c.if-list-n.false l told))

pub slice_bounds-fresh-end : goal.slice_bounds-fresh-end
slice_bounds-fresh-end c =
    let a = c.args in
    let y = listed a.yard.now in
    room y (sym c.in_ok-tree_demands.ensures.result_value) _ (omega arith)

pub slice_bounds-first_difference-end : goal.slice_bounds-first_difference-end
slice_bounds-first_difference-end c =
    let a = c.args in
    let y = listed a.yard.now in
    sym (length-take-le _ _ (room y (sym c.in_ok-tree_demands.ensures.result_value) _ (omega arith)))

pub first_difference-requires : goal.first_difference-requires
first_difference-requires c =
    let a = c.args in
    let y = listed a.yard.now in
    let t = (sym c.in_ok-tree_demands.ensures.result_value) in
    (c.if-list-n.false ∙ sym (length-take-le _ _ (room y t _ (omega arith))), omega (arith, c.if-list-n.false, (facts y t).few))

pub returns-in-Some : goal.returns-in-Some
returns-in-Some c =
    let a = c.args in
    let y = listed a.yard.now in
    let t = (sym c.in_ok-tree_demands.ensures.result_value) in
    let r = ready y a.list.now a.event a.node t c.if-list-n.false (omega arith) _ c.can_happen.ensures c.if-not-can_happen.false in
    let d = then_front y _ c.tree_demands.ensures.list_value t in
    sym (stale_refused y a.list.now a.event a.node r d c.in-Some.ensures)

pub returns : goal.returns
returns c =
    let a = c.args in
    let y = listed a.yard.now in
    let t = (sym c.in_ok-tree_demands.ensures.result_value) in
    let r = ready y a.list.now a.event a.node t c.if-list-n.false (omega arith) _ c.can_happen.ensures c.if-not-can_happen.false in
    let d = then_front y _ c.tree_demands.ensures.list_value t in
    sym (stale_passed y a.list.now a.event a.node r d c.in_default.ensures)

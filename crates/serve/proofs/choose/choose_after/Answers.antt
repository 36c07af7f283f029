-- `serve::choose::choose_after` meets its contract: behind the child served last the first that needs more than it does is the choice, else the first of all that
-- needs as much (the laws are in Looking).
use native.Mathlib.Omega.{arith}
use mathlib.Core.Bool.{Bool}
use Prim.Native.Nat.{ℕ, ◌+◌, ◌<◌}
use lib.ListN.{get_or}
use lib.IntN.{pos}
use mir.Syntax.{w16}
use mir.Val.{to_z, of_z}
use Rattle.model.specs.Yard.{Yard, demand}
use Rattle.serve.specs.declared.state.State.{State}
use Rattle.serve.specs.declared.tree.Children.{Children}
use Rattle.serve.specs.Serving.{NextBeyond, AskedAfter}
use Rattle.serve.proofs.Numbers.{next_back}
use Rattle.serve.proofs.Siblings.{next_is}
use Rattle.serve.proofs.Looking.{seen_small, in_range, demand_back, zero_demand, last_next, last_none, last_round}
use Rattle.serve.proofs.choose.choose_after.Goals as goal

module _ {b : Bool} {y : Yard} {t : Children} {s : State} {u last : ℕ} (a : AskedAfter b y t s u last) where
  -- the child served last is a node, and u
  node : (last < 256) × (u < 256)
  node = (seen_small a.sees a.last.child.lt, seen_small a.sees a.sees.node)

  next : {c : ℕ} → NextBeyond b y u (last + 1) (to_z w16 (of_z w16 (get_or s.demands last (pos 0)))) c
      → NextBeyond b y u (last + 1) (demand y last) c
  next n = let m = a.last.child in rw (demand_back a.sees m, a.sees.demands _ m) at n

pub bounds-t-last : goal.bounds-t-last
bounds-t-last c = omega (arith, node c.requires.1)

pub offset_bounds-s-last : goal.offset_bounds-s-last
offset_bounds-s-last c = omega (arith, node c.requires.1)

pub bounds-s-last : goal.bounds-s-last
bounds-s-last c = omega (arith, node c.requires.1)

pub returns-then-c-u : goal.returns-then-c-u
returns-then-c-u c y a = last_next a.last (next a (c.next_beyond-c.ensures y a.sees _ (next_is a.sees.tables a.last.child))) c.if-c-u.true

pub offset_bounds-s-last-2 : goal.offset_bounds-s-last-2
offset_bounds-s-last-2 c = omega (arith, node c.requires.1)

pub bounds-s-last-2 : goal.bounds-s-last-2
bounds-s-last-2 c = omega (arith, node c.requires.1)

pub returns-then-s-last-eq0 : goal.returns-then-s-last-eq0
returns-then-s-last-eq0 c y a =
    let n = next a (c.next_beyond-c.ensures y a.sees _ (next_is a.sees.tables a.last.child)) in
    last_none a.last n c.if-c-u.false ((zero_demand a.sees a.last.child).0 c.if-s-last-eq0.true)

pub bounds-t-u : goal.bounds-t-u
bounds-t-u c = omega (arith, node c.requires.1)

pub nearer-requires : goal.nearer-requires
nearer-requires c = let p = c.requires.1 in rw (demand_back p.sees p.last.child) (in_range p.sees p.last.child)

pub returns : goal.returns
returns c y a =
    let m = a.last.child in
    let s = c.args in
    let n = next a (c.next_beyond-c.ensures y a.sees _ (next_is a.sees.tables a.last.child)) in
    let level = next_back s.away (get_or s.s.now.demands s.last (pos 0)) (in_range a.sees m) in
    let r = c.next_beyond.ensures y a.sees 0 (a.sees.tables.first _ a.sees.node) in
    last_round a.last n c.if-c-u.false (λ q. c.if-s-last-eq0.false ((zero_demand a.sees m).1 q))
    (rw (c.nearer.ensures, demand_back a.sees m, level, a.sees.demands _ m) at r)

-- `planner::balance::balance_subtrees` meets its contract: the loop at u, then u's children one after another, each behind the moves before; a child
-- has fewer nodes inside, so the height that bounds them falls (the laws are in Stretches, Siblings and Children).
use mathlib.Core.Path.{◌≡◌, sym, ◌∙◌}
use mathlib.Core.Logic.{◌≢◌}
use mathlib.Core.Bool.{Bool, and-eq-true_iff}
use mathlib.Core.List.{List}
use Prim.Native.Nat.{ℕ, ◌*◌, ◌≤◌, ◌<◌}
use native.Mathlib.Omega.{arith}
use lib.ListN.{length, get_or}
use Rattle.model.specs.Yard.{Yard}
use Rattle.serve.specs.declared.state.State.{State}
use Rattle.serve.specs.declared.tree.Children.{Children}
use Rattle.planner.specs.Balancing.{AskedEven, Settled}
use Rattle.serve.proofs.Looking.{node_small}
use Rattle.serve.proofs.Stretches.{made_length}
use Rattle.serve.proofs.Siblings.{next_is, ahead, ahead_falls}
use Rattle.planner.proofs.Children.{ChildrenLeft, LoopEnded, child_lower, child_asked, left_next, LeftFrom, left_first, left_last, left_child, left_here, left_behind, left_passed}
use Rattle.planner.proofs.balance.+balance_subtrees.Goals as goal

module _ {y : Yard} {t : Children} {s₀ s : State} {before plan : List ℕ} {k u : ℕ} (a : AskedEven y t s₀ before u) where
  -- the loop at u has ended
  ended : Settled y u s before plan k → LoopEnded y before t s plan k u
  ended v = record { entry = s₀; asked = a; loop = v }

  -- what was used of the list
  taken : {p : ℕ → Bool} {cs : List ℕ} → ChildrenLeft p y u s before plan k cs → (length plan ≡ length before) × (2 * k ≤ length before)
  taken l = let b = l.begun in made_length b.good a.room b.made

  module _ {p : ℕ → Bool} {c : ℕ} (l : LeftFrom p y u s before plan k c) where
    used : (length plan ≡ length before) × (2 * k ≤ length before)
    used = taken l.left

    -- the child at hand, and the next one behind it
    module _ (d : c ≢ u) where
      small : c < 256
      small = node_small a.described (left_child a l d).lt

      falls_on : ahead u (get_or t.next c 0) < ahead u c
      falls_on = ahead_falls d small (next_is a.described.tables (left_child a l d))

pub bounds-t-u : goal.bounds-t-u
bounds-t-u t c = let a = c.requires.1 in omega (arith, node_small a.described a.node)

pub loop-c-init : goal.loop-c-init
loop-c-init t c y before a = left_first a.asked a.loop

pub bounds-t-v : goal.bounds-t-v
bounds-t-v t c =
    let p = c.requires in
    omega (arith, small p.1 (c.loop-c.invariant p.0 _ (ended p.1 (c.settle-k.ensures p.0 p.1))) c.loop-c-test.true)

pub enters-requires : goal.enters-requires
enters-requires t c =
    let p = c.requires in
    let l = c.loop-c.invariant p.0 _ (ended p.1 (c.settle-k.ensures p.0 p.1)) in
    let d = c.loop-c-test.true in
    (small p.1 l d, omega (arith, (left_child p.1 l d).lt, p.3))

pub overflow_mul-k : goal.overflow_mul-k
overflow_mul-k t c =
    let p = c.requires in
    omega (arith, used p.1 (c.loop-c.invariant p.0 _ (ended p.1 (c.settle-k.ensures p.0 p.1))), c.well_formed)

pub slice_bounds-balance_subtrees-count : goal.slice_bounds-balance_subtrees-count
slice_bounds-balance_subtrees-count t c =
    let p = c.requires in
    omega (arith, used p.1 (c.loop-c.invariant p.0 _ (ended p.1 (c.settle-k.ensures p.0 p.1))))

pub slice_bounds-balance_subtrees-start : goal.slice_bounds-balance_subtrees-start
slice_bounds-balance_subtrees-start t c =
    let p = c.requires in
    omega (arith, used p.1 (c.loop-c.invariant p.0 _ (ended p.1 (c.settle-k.ensures p.0 p.1))))

pub overflow_sub-height : goal.overflow_sub-height
overflow_sub-height t c =
    let p = c.requires in
    let l = c.loop-c.invariant p.0 _ (ended p.1 (c.settle-k.ensures p.0 p.1)) in
    omega (arith, p.2, child_lower p.1 (left_child p.1 l c.loop-c-test.true))

pub balance_subtrees-m-requires : goal.balance_subtrees-m-requires
balance_subtrees-m-requires t c =
    let p = c.requires in
    let l = c.loop-c.invariant p.0 _ (ended p.1 (c.settle-k.ensures p.0 p.1)) in
    let d = c.loop-c-test.true in
    let k = left_child p.1 l d in
    let f = child_lower p.1 k in
    (omega (arith, c.decreases, p.2, f), (_, child_asked p.1 k (left_here p.1 l d), omega (arith, p.2, f), p.3))

pub overflow_add-k : goal.overflow_add-k
overflow_add-k t c =
    let p = c.requires in
    let l = c.loop-c.invariant p.0 _ (ended p.1 (c.settle-k.ensures p.0 p.1)) in
    let d = c.loop-c-test.true in
    let k = left_child p.1 l d in
    let h = left_here p.1 l d in
    let q = ((and-eq-true_iff _ _).0 (sym c.enters.ensures ∙ c.if-enters.true)).0 in
    let b = left_next p.1 k h q (c.balance_subtrees-m.ensures _ (child_asked p.1 k h)) in
    omega (arith, taken p.1 b, c.well_formed)

pub loop-c-smaller-then-enters : goal.loop-c-smaller-then-enters
loop-c-smaller-then-enters t c =
    let p = c.requires in
    falls_on p.1 (c.loop-c.invariant p.0 _ (ended p.1 (c.settle-k.ensures p.0 p.1))) c.loop-c-test.true

pub loop-c-preserved-then-enters : goal.loop-c-preserved-then-enters
loop-c-preserved-then-enters t c y before a =
    let l = c.loop-c.invariant y before a in
    let d = c.loop-c-test.true in
    let k = left_child a.asked l d in
    let h = left_here a.asked l d in
    let q = ((and-eq-true_iff _ _).0 (sym c.enters.ensures ∙ c.if-enters.true)).0 in
    let n = left_next a.asked k h q (c.balance_subtrees-m.ensures _ (child_asked a.asked k h)) in
    left_behind a.asked l d n

pub loop-c-smaller : goal.loop-c-smaller
loop-c-smaller t c =
    let p = c.requires in
    falls_on p.1 (c.loop-c.invariant p.0 _ (ended p.1 (c.settle-k.ensures p.0 p.1))) c.loop-c-test.true

pub loop-c-preserved : goal.loop-c-preserved
loop-c-preserved t c y before a =
    let l = c.loop-c.invariant y before a in
    left_passed a.asked l c.loop-c-test.true (sym c.enters.ensures ∙ c.if-enters.false)

pub returns : goal.returns
returns t c y a = left_last a (c.loop-c.invariant y _ (ended a (c.settle-k.ensures y a))) c.loop-c-test.false

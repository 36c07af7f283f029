-- `list_children`: from child to child, each opening is written behind those before (the laws are in Listing).
use mathlib.Core.Logic.{◌≢◌}
use mathlib.Core.List.{List}
use Prim.Native.Nat.{ℕ, ◌<◌}
use native.Mathlib.Omega.{arith}
use Rattle.model.specs.Yard.{Yard}
use Rattle.laws.proofs.Judged.{facts}
use Rattle.openings.specs.declared.edges.Marks.{Marks}
use Rattle.openings.specs.Listing.{AskedChildren}
use Rattle.openings.proofs.Listing.{falls, Walking, walk_end, walk_child, walk_past, walk_room, next_child, walk_next}
use Rattle.openings.proofs.list.list_children.Goals as goal

-- at a child
module _ {y : Yard} {t : Marks} {old list : List ℕ} {a i from end count c k : ℕ}
    (h : AskedChildren y t old a i from end count) (w : Walking y list a c end k) (d : c ≢ a) where
  small : (c < 256) × (a < 256)
  small = let f = (facts y h.sees.tree).few.1 in (omega (arith, (walk_child w d).lt, f), omega (arith, h.node, f))

  -- there is room for one more
  room : c < end → k < 256
  room l = walk_room w d h.sees h.node l h.high

pub returns-then-c-end : goal.returns-then-c-end
returns-then-c-end c y i h = walk_past (c.loop-c.invariant y i h) c.loop-c-test.true c.if-c-end.true

pub record_move-requires : goal.record_move-requires
record_move-requires c =
    let h = c.requires.2 in
    let w = c.loop-c.invariant c.requires.0 c.requires.1 h in
    let s = small h w c.loop-c-test.true in
    (s.1, s.0, omega (arith, room h w c.loop-c-test.true c.if-c-end.false, w.holds.room))

pub overflow_add-k : goal.overflow_add-k
overflow_add-k c =
    let h = c.requires.2 in
    omega (arith, room h (c.loop-c.invariant c.requires.0 c.requires.1 h) c.loop-c-test.true c.if-c-end.false)

pub bounds-t-c : goal.bounds-t-c
bounds-t-c c = let h = c.requires.2 in omega (arith, small h (c.loop-c.invariant c.requires.0 c.requires.1 h) c.loop-c-test.true)

pub loop-c-smaller : goal.loop-c-smaller
loop-c-smaller c =
    let h = c.requires.2 in
    let w = c.loop-c.invariant c.requires.0 c.requires.1 h in
    let d = c.loop-c-test.true in
    (falls d (small h w d).0 (next_child w d h.sees h.node c.if-c-end.false h.high))

pub loop-c-preserved : goal.loop-c-preserved
loop-c-preserved c y i h =
    let w = c.loop-c.invariant y i h in
    (walk_next w c.loop-c-test.true h.sees h.node c.if-c-end.false h.high c.record_move.ensures)

pub returns : goal.returns
returns c y i h = walk_end (c.loop-c.invariant y i h) c.loop-c-test.false h.high

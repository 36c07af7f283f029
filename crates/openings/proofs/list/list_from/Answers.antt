-- `list_from`: all children at once, or those below the parent, the parent and the others (the laws are in Listing).
use mathlib.Core.Path.{refl}
use mathlib.Core.List.{List}
use Prim.Native.Nat.{ℕ, ◌<◌}
use native.Mathlib.Omega.{arith}
use Rattle.model.specs.Yard.{Yard}
use Rattle.laws.proofs.Judged.{facts}
use Rattle.openings.specs.declared.edges.Marks.{Marks}
use Rattle.openings.specs.Listing.{AskedFrom}
use Rattle.openings.proofs.Marking.{ne_false, ne_true}
use Rattle.openings.proofs.Listing.{asked_all, listed_all, asked_lower, upper_room, asked_higher}
use Rattle.openings.proofs.list.list_from.Goals as goal

module _ {y : Yard} {t : Marks} {parents list : List ℕ} {a n k : ℕ} (h : AskedFrom y t parents list a n k) where
  -- the node
  small : a < 256
  small = omega (arith, h.node, (facts y h.sees.tree).few)

pub bounds-t-a : goal.bounds-t-a
bounds-t-a c = omega (arith, small c.requires.1)

pub bounds-t-a-2 : goal.bounds-t-a-2
bounds-t-a-2 c = omega (arith, small c.requires.1)

-- no opening goes to the parent
pub list_children-all-requires : goal.list_children-all-requires
list_children-all-requires c = (c.requires.0, 0, asked_all c.requires.1 (ne_true c.ne.ensures c.if-ne.true))

pub returns-then-ne : goal.returns-then-ne
returns-then-ne c y h = listed_all h (c.list_children-all.ensures y 0 (asked_all h (ne_true c.ne.ensures c.if-ne.true)))

-- one does: the children below it
pub list_children-lower-requires : goal.list_children-lower-requires
list_children-lower-requires c = (c.requires.0, 0, asked_lower c.requires.1 (ne_false c.ne.ensures c.if-ne.false))

pub record_move-requires : goal.record_move-requires
record_move-requires c =
    let h = c.requires.1 in
    let r = c.list_children-lower.ensures _ 0 (asked_lower h (ne_false c.ne.ensures c.if-ne.false)) in
    ((c.type_inv.parents c.args.a).fits, small h, omega (arith, upper_room h (ne_false c.ne.ensures c.if-ne.false) r, r.holds.room))

pub overflow_add-k : goal.overflow_add-k
overflow_add-k c =
    let h = c.requires.1 in
    let r = c.list_children-lower.ensures _ 0 (asked_lower h (ne_false c.ne.ensures c.if-ne.false)) in
    omega (arith, upper_room h (ne_false c.ne.ensures c.if-ne.false) r)

-- the parent is listed: the others
pub list_children-higher-requires : goal.list_children-higher-requires
list_children-higher-requires c =
    let h = c.requires.1 in
    let u = ne_false c.ne.ensures c.if-ne.false in
    let r = c.list_children-lower.ensures _ 0 (asked_lower h u) in
    (c.requires.0, _, asked_higher h u r refl c.record_move.ensures)

pub returns : goal.returns
returns c y h =
    let u = ne_false c.ne.ensures c.if-ne.false in
    let r = c.list_children-lower.ensures y 0 (asked_lower h u) in
    listed_all h (c.list_children-higher.ensures y _ (asked_higher h u r refl c.record_move.ensures))

-- `mark_edges`: from the highest node down each edge is marked by its demand and counts, which tell its opening, and linked if one comes
-- down (the laws are in Marking).
use mathlib.Core.Path.{◌≡◌, refl, sym, ◌∙◌}
use Prim.Native.Nat.{ℕ, ◌+◌, ◌-◌, ◌<◌}
use native.Mathlib.Omega.{arith}
use lib.ListN.{length}
use Rattle.model.specs.Given.{listed}
use Rattle.model.specs.Yard.{Yard}
use Rattle.laws.proofs.Judged.{facts, wood}
use Rattle.openings.specs.declared.edges.Marks.{Marks}
use Rattle.openings.specs.Listing.{Marked}
use Rattle.openings.proofs.Marking.{is_way, no_way, way_marked, marked_none, marked_other, marked_linked}
use Rattle.openings.proofs.edges.mark_edges.Goals as goal

-- those above the node at hand are marked
higher : {y : Yard} {t : Marks} {v : ℕ} → 0 < v → Marked v y t → Marked (v - 1 + 1) y t
higher {y} {t} {v} l f = let e : v - 1 + 1 ≡ v = omega arith in rw e f

pub unlinked-requires : goal.unlinked-requires
unlinked-requires c = (facts _ c.args.yard.now.tree).few.1

pub loop-v-init : goal.loop-v-init
loop-v-init c = marked_none refl c.unlinked.ensures

pub bounds-yard-v-in-loop-v : goal.bounds-yard-v-in-loop-v
bounds-yard-v-in-loop-v c = omega (arith, (facts _ c.args.yard.now.tree).pebbles_size)

pub bounds-yard-v-in-loop-v-2 : goal.bounds-yard-v-in-loop-v-2
bounds-yard-v-in-loop-v-2 c = omega (arith, (facts _ c.args.yard.now.tree).depths_size)

-- and its parent
pub bounds-yard-p : goal.bounds-yard-p
bounds-yard-p c =
    let t = c.args.yard.now.tree in
    let l : c.loop-v.v - 1 < length c.args.yard.now.lists.parents.now = omega arith in
    omega (arith, (wood _ t).parent_lt _ l, (facts _ t).pebbles_size)

pub bounds-yard-p-in-loop-v : goal.bounds-yard-p-in-loop-v
bounds-yard-p-in-loop-v c =
    let t = c.args.yard.now.tree in
    let l : c.loop-v.v - 1 < length c.args.yard.now.lists.parents.now = omega arith in
    omega (arith, (wood _ t).parent_lt _ l, (facts _ t).depths_size)

-- it is marked by its opening
pub loop-v-preserved-then-eq : goal.loop-v-preserved-then-eq
loop-v-preserved-then-eq c =
    let t = c.args.yard.now.tree in
    let p = c.requires in
    let s = c.args in
    let y = listed s.yard.now.lists in
    let l : c.loop-v.v - 1 < length s.yard.now.lists.parents.now = omega arith in
    let m = c.way_over-way.ensures ∙ way_marked y t p.0 _ l _ _ (p.1.1 _ l) refl in
    let h = higher {y = y} c.loop-v-test.true c.loop-v.invariant in
    (marked_linked t p.0 _ h l m (is_way (sym c.eq.ensures ∙ c.if-eq.true)) refl c.link.ensures)

pub loop-v-preserved : goal.loop-v-preserved
loop-v-preserved c =
    let t = c.args.yard.now.tree in
    let p = c.requires in
    let s = c.args in
    let y = listed s.yard.now.lists in
    let l : c.loop-v.v - 1 < length s.yard.now.lists.parents.now = omega arith in
    let m = c.way_over-way.ensures ∙ way_marked y t p.0 _ l _ _ (p.1.1 _ l) refl in
    (marked_other t p.0 _ (higher {y = y} c.loop-v-test.true c.loop-v.invariant) l m (no_way (sym c.eq.ensures ∙ c.if-eq.false)))

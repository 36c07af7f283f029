-- `climb` steps the entries of the nodes on the way: when it has come to w, those below w are stepped (`Climbed`). The way from w is one
-- node shorter with each turn, and at the root one entry is left.
use mathlib.Core.Path.{◌≡◌, ap, ◌∙◌}
use Prim.Native.Nat.{◌≤◌}
use native.Mathlib.Omega.{arith}
use lib.IntN.{ℤ, pos, nat_abs, ◌+ℤ◌}
use mir.Syntax.{w16}
use mir.Val.{to_z, of_z}
use mir.ValLaws.{to_z-of_z}
use Rattle.model.specs.Yard.{max_demand}
use Rattle.laws.proofs.Signed.{size_add}
use Rattle.laws.proofs.Way.{way_length_parent, climb_start, climb_entry, climb_next, climb_end}
use Rattle.event.specs.Change.{stepped_after}
use Rattle.event.proofs.Steps.{rails, fits}
use Rattle.event.proofs.update.climb.Goals as goal

held : (z : ℤ) → nat_abs z ≤ 4_000 → to_z w16 (of_z w16 z) ≡ z
held z h = to_z-of_z w16 z (fits z h)

-- what an entry is written as, where it was `old`: the sum fits, as a demand is small
written : (old now by : ℤ) → now ≡ old → nat_abs old ≤ max_demand → nat_abs by ≤ 1
    → to_z w16 (of_z w16 (to_z w16 (of_z w16 now) +ℤ to_z w16 (of_z w16 by))) ≡ old +ℤ to_z w16 (of_z w16 by)
written old now by e h g = rw (e, held old (omega arith), held by (omega arith)) (held (old +ℤ by) (omega (arith, size_add old by)))

pub loop-w-init : goal.loop-w-init
loop-w-init c = climb_start (rails c.requires.0).1 _ (pos 0) c.args.node c.requires.2 c.args.list.now c.requires.1

pub loop-w-smaller : goal.loop-w-smaller
loop-w-smaller c =
    let t = rails c.requires.0 in
    omega (arith, way_length_parent t.1 c.loop-w.w c.loop-w.invariant.node_lt (λ e. c.loop-w-test.true (rw e t.1.root_parent)))

pub loop-w-preserved : goal.loop-w-preserved
loop-w-preserved c =
    let a = c.args in
    let l = c.loop-w in
    let t = rails c.requires.0 in
    let now = climb_entry t.1 _ (pos 0) a.node c.requires.2 a.list.now l.list l.w l.invariant in
    rw (written _ _ a.by now (c.requires.4 l.w) c.requires.3)
    (climb_next t.1 _ (pos 0) a.node c.requires.2 a.list.now l.list l.w l.invariant (λ e. c.loop-w-test.true (rw e t.1.root_parent)))

pub returns : goal.returns
unfolding stepped_after
returns c =
    let a = c.args in
    let l = c.loop-w in
    let t = rails c.requires.0 in
    let now = climb_entry t.1 _ (pos 0) a.node c.requires.2 a.list.now l.list l.w l.invariant in
    rw (written _ _ a.by now (c.requires.4 l.w) c.requires.3)
    (climb_end t.1 _ (pos 0) a.node c.requires.2 a.list.now l.list l.w l.invariant (t.1.root_only l.w l.invariant.node_lt
    c.loop-w-test.false)
    ∙ ap (λ (b : ℤ). stepped_after a.parents.now b a.node a.list.now) (held a.by (omega (arith, c.requires.3))))

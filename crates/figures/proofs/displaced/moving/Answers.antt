-- `moving` is the sum: the count is that of the nodes below v. Each adds at most 255, and there
-- are at most 256, so it fits.
use borrow.Author.Rules.{rules}
use native.Mathlib.Omega.{arith}
use native.Mathlib.Numerals.{add-one}
use Prim.Native.Nat.{ℕ, ◌-◌}
use mathlib.Core.Path.{◌≡◌, ap, ◌∙◌}
use lib.ListN.{get_or}
use lib.IntN.{ℤ}
use mir.Syntax.{w16}
use mir.ValLaws.{to_z-of_z}
use Rattle.model.specs.Yard.{sum, entry}
use Rattle.demand.proofs.Numbers.{small_fits}
use Rattle.figures.specs.Leaving.{staying_of, moving_at}
use Rattle.figures.proofs.displaced.moving.Goals as goal

pub loop-v-init : goal.loop-v-init
unfolding sum
loop-v-init c = search rules

pub loop-v-preserved : goal.loop-v-preserved
unfolding sum
loop-v-preserved c =
    let a = c.args in
    let v = c.loop-v.v in
    let d = entry a.demands.now v in
    let p = get_or a.pebbles.now v 0 in
    let f = λ (z : ℤ). staying_of (get_or a.depths.now v 0) p z (get_or a.out.now v 0) in
    let stays : c.staying.result ≡ f d = c.staying.ensures ∙ ap f (to_z-of_z w16 d (small_fits d (c.requires.by_index v))) in
    let adds : p - c.staying.result ≡ moving_at a.pebbles.now a.depths.now a.demands.now a.out.now v
    = ap (λ (x : ℕ). p - x) stays in
    (rw add-one (omega (arith, adds)), omega (arith, (c.type_inv.pebbles v).fits))

-- `source` goes by the demand's sign.
use mathlib.Core.Path.{◌≡◌, refl}
use mathlib.Core.Bool.{true, false}
use Prim.Native.Nat.{ℕ, zero, suc}
use native.Mathlib.Omega.{arith}
use lib.IntN.{ℤ, pos, negsuc}
use lib.Signed.{lt_z}
use borrow.Author.Tests.{ltb-true, ltb-false}
use mir.Syntax.{w16}
use mir.ValLaws.{to_z-of_z}
use Rattle.figures.specs.Leaving.{source_or}
use Rattle.figures.proofs.displaced.source.Goals as goal

below : (z : ℤ) (v p other : ℕ) → lt_z z (pos 0) ≡ true → v ≡ source_or other z v p
unfolding source_or
below (negsuc n) v p other h = refl
below (pos n) v p other h = absurd (omega (arith, ltb-true n 0 h))

above : (z : ℤ) (v p other : ℕ) → lt_z (pos 0) z ≡ true → p ≡ source_or other z v p
unfolding source_or
above (negsuc n) v p other h = let no : ◌≡◌ {A = ℕ} 0 1 = cc in absurd (omega arith)
above (pos zero) v p other h = absurd (omega (arith, ltb-true 0 0 h))
above (pos (suc n)) v p other h = refl

neither : (z : ℤ) (v p other : ℕ) → lt_z z (pos 0) ≡ false → lt_z (pos 0) z ≡ false → other ≡ source_or other z v p
unfolding source_or
neither (negsuc n) v p other h k = let no : ◌≡◌ {A = ℕ} 0 1 = cc in absurd (omega arith)
neither (pos zero) v p other h k = refl
neither (pos (suc n)) v p other h k = absurd (omega (arith, ltb-false 0 (suc n) k))

pub returns-then-demand-lt0 : goal.returns-then-demand-lt0
returns-then-demand-lt0 c = λ other. below _ _ _ other (rw (to_z-of_z w16 c.args.demand c.ranges.demand) at c.if-demand-lt0.true)

pub returns-then-demand-gt0 : goal.returns-then-demand-gt0
returns-then-demand-gt0 c = λ other. above _ _ _ other (rw (to_z-of_z w16 c.args.demand c.ranges.demand) at c.if-demand-gt0.true)

pub returns : goal.returns
returns c = λ other.
    let held = to_z-of_z w16 c.args.demand c.ranges.demand in
    neither _ _ _ other (rw held at c.if-demand-lt0.false) (rw held at c.if-demand-gt0.false)

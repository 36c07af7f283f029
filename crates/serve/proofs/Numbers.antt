-- Demands in 16 bits: numbers from −2,048 to 2,048 and one more or less fit, and a passage through the bits gives them back.
use mathlib.Core.Path.{◌≡◌, ap, ◌∙◌}
use mathlib.Core.Bool.{Bool, true, false}
use Prim.Native.Nat.{zero, suc, ◌≤◌}
use native.Mathlib.Omega.{arith}
use lib.IntN.{ℤ, pos, negsuc, nat_abs, ◌+ℤ◌, ◌-ℤ◌, +ℤ_one, -ℤ_one}
use mir.Syntax.{w16}
use mir.Val.{SFits, to_z, of_z}
use mir.ValLaws.{to_z-of_z}
use Rattle.laws.proofs.Signed.{nextℤ}
use Rattle.demand.proofs.Numbers.{small_fits}

pub small_back : (k : ℤ) → nat_abs k ≤ 2_048 → to_z w16 (of_z w16 k) ≡ k
small_back k h = to_z-of_z w16 k (small_fits k h)

next_fits : (b : Bool) (k : ℤ) → nat_abs k ≤ 2_048 → SFits w16 (nextℤ b k)
next_fits true (pos zero) h = record { sfits = omega arith }
next_fits true (pos (suc n)) h = record { sfits = omega arith }
next_fits true (negsuc n) h = record { sfits = omega arith }
next_fits false (pos n) h = record { sfits = omega arith }
next_fits false (negsuc zero) h = record { sfits = omega arith }
next_fits false (negsuc (suc n)) h = record { sfits = omega arith }

pub next_back : (b : Bool) (k : ℤ) → nat_abs k ≤ 2_048 → to_z w16 (of_z w16 (nextℤ b k)) ≡ nextℤ b k
next_back b k h = to_z-of_z w16 (nextℤ b k) (next_fits b k h)

module _ (k : ℤ) (h : nat_abs k ≤ 2_048) where
  less : to_z w16 (of_z w16 k) -ℤ pos 1 ≡ nextℤ true k
  less = ap (λ (z : ℤ). z -ℤ pos 1) (small_back k h) ∙ -ℤ_one k

  more : to_z w16 (of_z w16 k) +ℤ pos 1 ≡ nextℤ false k
  more = ap (λ (z : ℤ). z +ℤ pos 1) (small_back k h) ∙ +ℤ_one k

  pub less_fits : SFits w16 (to_z w16 (of_z w16 k) -ℤ pos 1)
  less_fits = rw less (next_fits true k h)

  pub more_fits : SFits w16 (to_z w16 (of_z w16 k) +ℤ pos 1)
  more_fits = rw more (next_fits false k h)

  pub less_back : to_z w16 (of_z w16 (to_z w16 (of_z w16 k) -ℤ pos 1)) ≡ nextℤ true k
  less_back = rw less (next_back true k h)

  pub more_back : to_z w16 (of_z w16 (to_z w16 (of_z w16 k) +ℤ pos 1)) ≡ nextℤ false k
  more_back = rw more (next_back false k h)

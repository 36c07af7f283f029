-- Demands as i16: numbers of size 2,048 at most fit, also taken from 0, and so do differences of
-- two bytes; a number below 0 taken from 0, and any other as it is, is its size. By cases on the
-- sign.
use mathlib.Core.Path.{◌≡◌, refl, ap}
use mathlib.Core.Bool.{Bool, true, false}
use Prim.Native.Nat.{ℕ, zero, suc, ◌≤◌, ◌<◌}
use native.Mathlib.Omega.{arith}
use lib.IntN.{ℤ, pos, negsuc, nat_abs, sub_ℕ, ◌-ℤ◌, +ℤ_idl}
use lib.Dec.{T, ltb}
use lib.Signed.{non_neg, lt_z}
use borrow.Author.Tests.{ltb-true, le-ltb}
use mir.Syntax.{w16, w64}
use mir.Val.{SFits, Fits, to_z}
use mir.ValLaws.{to_z_pos}
use Rattle.model.specs.Yard.{max_demand}

pub small_fits : (z : ℤ) → nat_abs z ≤ max_demand → SFits w16 z
small_fits (pos n) h = record { sfits = omega arith }
small_fits (negsuc n) h = record { sfits = omega arith }

pub sub_small : (a b : ℕ) → a ≤ max_demand → b ≤ max_demand → nat_abs (sub_ℕ a b) ≤ max_demand
sub_small a b h k = go (ltb a b) refl
  where
    go : (c : Bool) → ltb a b ≡ c → nat_abs (sub_ℕ a b) ≤ max_demand
    go true e = rw e (omega (arith, ltb-true a b e))
    go false e = rw e (omega arith)

-- a number taken from 0
pub neg_fits : (z : ℤ) → nat_abs z ≤ max_demand → SFits w16 (pos 0 -ℤ z)
neg_fits (pos zero) h = record { sfits = omega arith }
neg_fits (pos (suc n)) h = small_fits (sub_ℕ 0 (suc n)) (sub_small 0 (suc n) (omega arith) h)
neg_fits (negsuc n) h = record { sfits = omega arith }

-- the difference of two numbers that fit, and of two bytes
pub held_minus : {x y : ℕ} (a b : ℕ) → SFits w16 (pos x) → SFits w16 (pos y) → x ≡ a → y ≡ b
    → to_z w16 x -ℤ to_z w16 y ≡ sub_ℕ a b
held_minus {x} {y} a b h k e f = rw (to_z_pos w16 x h.sfits, to_z_pos w16 y k.sfits, e, f) (minus b)
  where
    minus : (b : ℕ) → pos a -ℤ pos b ≡ sub_ℕ a b
    minus zero = rw (le-ltb a 0 (omega arith)) (ap pos (omega arith))
    minus (suc b) = refl

pub bytes_fit : (a b : ℕ) → a < 256 → b < 256 → SFits w16 (to_z w16 a -ℤ to_z w16 b)
bytes_fit a b h k =
    rw (held_minus a b (small_fits (pos a) (omega arith)) (small_fits (pos b) (omega arith)) refl refl)
    (small_fits (sub_ℕ a b) (sub_small a b (omega arith) (omega arith)))

-- what is below 0 is, taken from 0, its size, and any other number is its size
pub turned : (z : ℤ) → lt_z z (pos 0) ≡ true → pos 0 -ℤ z ≡ pos (nat_abs z)
turned (pos n) h = absurd (omega (arith, ltb-true n 0 h))
turned (negsuc n) h = +ℤ_idl (pos (suc n))

pub kept : (z : ℤ) → lt_z z (pos 0) ≡ false → z ≡ pos (nat_abs z)
kept (pos n) h = refl
kept (negsuc n) h = let no : ◌≡◌ {A = ℕ} 0 1 = cc in absurd (omega arith)

-- a number that is n goes to a `usize`
pub as_usize : (z : ℤ) (n : ℕ) → z ≡ pos n → n ≤ max_demand → T (non_neg z) × Fits w64 (nat_abs z)
as_usize z n e h = rw e (tt, record { fits = omega arith })

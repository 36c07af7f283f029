-- The flags as bits of a byte: bit 0 or bit 1 set, and one of them shared by flags and mask.
use mathlib.Core.Path.{◌≡◌, refl, ap, ◌∙◌}
use Prim.Native.Nat.{ℕ, zero, suc, ◌+◌, ◌*◌, ◌/◌, ◌%◌, ◌<◌}
use native.Mathlib.Omega.{arith}
use lib.Bits.{bit_and, bit_or}
use lib.Dec.{eqb}
use mathlib.Core.Bool.{not, ◌&&◌, ◌||◌}
use Rattle.std.proofs.lemmas.Nat.{or_block, and_block, and_mask, and_mod}
use Rattle.std.specs.Int.Bits.{or_zero_r}

-- one bit, set
low_set : (r : ℕ) → r < 2 → bit_or r 1 ≡ 1
low_set zero h = refl
low_set (suc zero) h = refl
low_set (suc (suc r)) h = absurd (omega (arith, h))

-- the number with bit 0 set, and with bit 1 set
pub or_one : (n : ℕ) → bit_or n 1 ≡ 1 + 2 * (n / 2)
or_one n =
    let split : n ≡ (n / 2) * 2 + n % 2 = omega arith in
    let low : n % 2 < 2 = omega arith in
    let parts = or_block 1 (n / 2) 0 (n % 2) 1 low (omega arith) in
    ap (λ (k : ℕ). bit_or k 1) split ∙ parts ∙ rw (or_zero_r (n / 2), low_set (n % 2) low) (omega arith)

pub or_two : (n : ℕ) → bit_or n 2 ≡ n % 2 + 2 * (1 + 2 * (n / 2 / 2))
or_two n =
    let split : n ≡ (n / 2) * 2 + n % 2 = omega arith in
    let low : n % 2 < 2 = omega arith in
    let parts = or_block 1 (n / 2) 1 (n % 2) 0 low (omega arith) in
    ap (λ (k : ℕ). bit_or k 2) split ∙ parts ∙ rw (or_one (n / 2), or_zero_r (n % 2)) (omega arith)

-- of two bits, that both are set
both : (p q : ℕ) → p < 2 → q < 2 → (bit_and p q < 2) × (eqb (bit_and p q) 1 ≡ ((eqb p 1) && (eqb q 1)))
both zero zero h k = (omega arith, refl)
both zero (suc zero) h k = (omega arith, refl)
both (suc zero) zero h k = (omega arith, refl)
both (suc zero) (suc zero) h k = (omega arith, refl)
both zero (suc (suc q)) h k = absurd (omega (arith, k))
both (suc zero) (suc (suc q)) h k = absurd (omega (arith, k))
both (suc (suc p)) q h k = absurd (omega (arith, h))

-- a number of two bits is not 0 if one of them is set
either : (x y : ℕ) → x < 2 → y < 2 → not (eqb (x * 2 + y) 0) ≡ ((eqb y 1) || (eqb x 1))
either zero zero h k = refl
either zero (suc zero) h k = refl
either (suc zero) zero h k = refl
either (suc zero) (suc zero) h k = refl
either zero (suc (suc y)) h k = absurd (omega (arith, k))
either (suc zero) (suc (suc y)) h k = absurd (omega (arith, k))
either (suc (suc x)) y h k = absurd (omega (arith, h))

-- two numbers share bit 0 or bit 1
pub shared : (f m : ℕ) → not (eqb (bit_and (bit_and f m) 3) 0)
    ≡ (((eqb (f % 2) 1) && (eqb (m % 2) 1)) || ((eqb (f / 2 % 2) 1) && (eqb (m / 2 % 2) 1)))
shared f m =
    let low = both (f % 2) (m % 2) (omega arith) (omega arith) in
    let high = both (f / 2 % 2) (m / 2 % 2) (omega arith) (omega arith) in
    let f_bits : f % 4 ≡ (f / 2 % 2) * 2 + f % 2 = omega arith in
    let m_bits : m % 4 ≡ (m / 2 % 2) * 2 + m % 2 = omega arith in
    let parts = and_block 1 (f / 2 % 2) (m / 2 % 2) (f % 2) (m % 2) (omega arith) (omega arith) in
    let e : bit_and (bit_and f m) 3 ≡ bit_and (f / 2 % 2) (m / 2 % 2) * 2 + bit_and (f % 2) (m % 2) =
    and_mask (bit_and f m) 2 ∙ and_mod f m 2 ∙ rw (f_bits, m_bits) parts in
    rw e (either _ _ high.0 low.0 ∙ rw (low.1, high.1) refl)

-- Bits of the interrupt registers (request 2.9): setting one leaves the others, and the line is raised exactly if some bit is set both in the flags
-- and in the mask, of whatever number it is, as flags up to 3 have no bit beyond the second.
use mathlib.Core.Path.{◌≡◌, refl, sym, ◌∙◌}
use mathlib.Core.Logic.{◌↔◌}
use mathlib.Core.Bool.{Bool, true, false, ◌||◌, or-true, and-eq-true_iff}
use Prim.Native.Nat.{ℕ, zero, suc, ◌+◌, ◌*◌, ◌/◌, ◌%◌, ◌≤◌}
use native.Mathlib.Omega.{arith}
use lib.Dec.{eqb, eqb-zero-suc, eqb-suc-zero, eqb-suc-suc}
use Rattle.model.specs.declared.Registers.{Registers}
use Rattle.model.specs.Calls.Registers.{bit, set_bit, finished_bit, stalled_bit, max_flags, shares, raised}

-- bit
bit_none : (k : ℕ) → bit k 0 ≡ false
unfolding bit
bit_none zero = refl
bit_none (suc k) = bit_none k

bit_beyond : (k n : ℕ) → n ≤ max_flags → bit (suc (suc k)) n ≡ false
unfolding bit
bit_beyond k n l = let e : n / 2 / 2 ≡ 0 = omega arith in rw e (bit_none k)

-- set_bit
pub bit_set_bit : (j k n : ℕ) → bit j (set_bit k n) ≡ ((eqb j k) || (bit j n))
unfolding bit set_bit
bit_set_bit zero zero n = let e : (1 + 2 * (n / 2)) % 2 ≡ 1 = omega arith in rw e
bit_set_bit zero (suc k) n = let e : (n % 2 + 2 * set_bit k (n / 2)) % 2 ≡ n % 2 = omega arith in rw (e, eqb-zero-suc)
bit_set_bit (suc j) zero n = let e : (1 + 2 * (n / 2)) / 2 ≡ n / 2 = omega arith in rw (e, eqb-suc-zero)
bit_set_bit (suc j) (suc k) n = let e : (n % 2 + 2 * set_bit k (n / 2)) / 2 ≡ set_bit k (n / 2) = omega arith in rw (e, eqb-suc-suc) (bit_set_bit j k (n / 2))

pub finished_le : (n : ℕ) → n ≤ max_flags → set_bit finished_bit n ≤ max_flags
unfolding set_bit
finished_le n l = omega arith

pub stalled_le : (n : ℕ) → n ≤ max_flags → set_bit stalled_bit n ≤ max_flags
unfolding set_bit
stalled_le n l = omega arith

-- raised
module _ (r : Registers) (l : r.flags ≤ max_flags) where
  pub raised_shares : (raised r ≡ true) ↔ ((k : ℕ) × (bit k r.flags ≡ true) × (bit k r.mask ≡ true))
  unfolding raised
  raised_shares = (either (shares finished_bit r) refl, λ h. some h.0 h.1 h.2)
    where
      found : (k : ℕ) → shares k r ≡ true → (k : ℕ) × (bit k r.flags ≡ true) × (bit k r.mask ≡ true)
      found k e = let a = (and-eq-true_iff (bit k r.flags) (bit k r.mask)).0 e in (k, a.0, a.1)

      either : (b : Bool) → shares finished_bit r ≡ b → (b || (shares stalled_bit r)) ≡ true → (k : ℕ) × (bit k r.flags ≡ true) × (bit k r.mask ≡ true)
      either true e _ = found finished_bit e
      either false _ e = found stalled_bit e

      some : (k : ℕ) → bit k r.flags ≡ true → bit k r.mask ≡ true → ((shares finished_bit r) || (shares stalled_bit r)) ≡ true
      some zero p q = rw (p, q)
      some (suc zero) p q = rw (p, q) (or-true (shares finished_bit r))
      some (suc (suc k)) p q = let e : true ≡ false = sym p ∙ bit_beyond k r.flags l in cc

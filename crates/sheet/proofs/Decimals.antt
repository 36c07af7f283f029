-- The digits of a number: those of its tenth, and its last. A number below 10 has one, one below 1,000 at most three, and one below 1,000,000
-- at most six.
use mathlib.Core.Path.{◌≡◌, refl, sym, ap, ◌∙◌}
use mathlib.Core.Bool.{Bool, true, false}
use mathlib.Core.List.{List, [], ◌∷◌, ◌++◌}
use Prim.Native.Nat.{ℕ, zero, suc, ◌+◌, ◌/◌, ◌%◌, ◌≤◌, ◌<◌}
use native.Mathlib.Omega.{arith}
use lib.ListN.{length, length-append}
use lib.Dec.{ltb}
use borrow.Author.Tests.{lt-ltb, le-ltb, ltb-true, ltb-false}
use Rattle.model.specs.Sheets.{digits, decimal}

abbrev before : Bool → ℕ → ℕ → List ℕ
before t k n = elim t [ true ↦ [] | false ↦ digits k (n / 10) ] ++ ((48 + n % 10) ∷ [])

digits_low : (k n : ℕ) → n < 10 → digits (suc k) n ≡ (48 + n) ∷ []
unfolding digits
digits_low k n l = let e : n % 10 ≡ n = omega arith in ap (λ (t : Bool). before t k n) (lt-ltb n 10 l) ∙ rw e

digits_high : (k n : ℕ) → 10 ≤ n → digits (suc k) n ≡ digits k (n / 10) ++ ((48 + n % 10) ∷ [])
unfolding digits
digits_high k n l = ap (λ (t : Bool). before t k n) (le-ltb n 10 l)

-- any bound above the number does
digits_enough : (k j n : ℕ) → n < k → n < j → digits k n ≡ digits j n
digits_enough zero j n hk hj = absurd (omega arith)
digits_enough (suc k) zero n hk hj = absurd (omega arith)
digits_enough (suc k) (suc j) n hk hj = go (ltb n 10) refl (digits_enough k j (n / 10))
  where
    go : (t : Bool) → ltb n 10 ≡ t → (n / 10 < k → n / 10 < j → digits k (n / 10) ≡ digits j (n / 10)) → digits (suc k) n ≡ digits (suc j) n
    go true e ih = let l = ltb-true n 10 e in digits_low k n l ∙ sym (digits_low j n l)
    go false e ih =
        let l = ltb-false n 10 e in
        digits_high k n l ∙ rw (ih (omega arith) (omega arith)) (sym (digits_high j n l))

pub decimal_low : (n : ℕ) → n < 10 → decimal n ≡ (48 + n) ∷ []
unfolding decimal
decimal_low n l = digits_low n n l

pub decimal_high : (n : ℕ) → 10 ≤ n → decimal n ≡ decimal (n / 10) ++ ((48 + n % 10) ∷ [])
unfolding decimal
decimal_high n l = digits_high n n l ∙ rw (digits_enough n (suc (n / 10)) (n / 10) (omega arith) (omega arith))

pub length_low : (n : ℕ) → n < 10 → length (decimal n) ≡ 1
length_low n l = rw (decimal_low n l)

pub length_high : (n : ℕ) → 10 ≤ n → length (decimal n) ≡ length (decimal (n / 10)) + 1
length_high n l = rw (decimal_high n l) (length-append (decimal (n / 10)) ((48 + n % 10) ∷ []))

pub length_some : (n : ℕ) → 0 < length (decimal n)
length_some n = go (ltb n 10) refl
  where
    go : (t : Bool) → ltb n 10 ≡ t → 0 < length (decimal n)
    go true e = omega (arith, length_low n (ltb-true n 10 e))
    go false e = omega (arith, length_high n (ltb-false n 10 e))

-- how many digits a number has at most: one more than its tenth
tenth : (n k : ℕ) → (10 ≤ n → length (decimal (n / 10)) ≤ k) → length (decimal n) ≤ suc k
tenth n k f = go (ltb n 10) refl
  where
    go : (t : Bool) → ltb n 10 ≡ t → length (decimal n) ≤ suc k
    go true e = omega (arith, length_low n (ltb-true n 10 e))
    go false e = omega (arith, length_high n (ltb-false n 10 e), f (ltb-false n 10 e))

pub decimal_short : (n : ℕ) → n < 1_000 → length (decimal n) ≤ 3
decimal_short n h = tenth n 2 (λ _. tenth (n / 10) 1 (λ _. omega (arith, length_low (n / 10 / 10) (omega arith))))

pub decimal_six : (n : ℕ) → n < 1_000_000 → length (decimal n) ≤ 6
decimal_six n h = tenth n 5 (λ _. tenth (n / 10) 4 (λ _. tenth (n / 10 / 10) 3 (λ _. decimal_short (n / 10 / 10 / 10) (omega arith))))

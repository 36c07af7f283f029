-- Laws of `sum` and `most`, each by induction on the number of terms.
use mathlib.Core.Path.{◌≡◌, refl, sym, ap, ◌∙◌}
use mathlib.Core.Logic.{◌≢◌}
use mathlib.Core.Bool.{Bool, true, false, cond}
use mathlib.Core.List.{[], ◌∷◌}
use Prim.Native.Nat.{ℕ, zero, suc, ◌+◌, ◌-◌, ◌*◌, ◌≤◌, ◌<◌}
use native.Mathlib.Omega.{arith}
use native.Mathlib.Nat.{mul-add, add-zero, add-suc}
use native.Mathlib.Decide.{ℕ_discrete, dec_lt}
use lib.ListN.{length, length-append}
use lib.Dec.{eqb}
use borrow.Author.Tests.{eq-eqb, ne_eqb}
use Rattle.model.specs.Yard.{sum, most, one, below}

pub sum_cong : (n : ℕ) (f g : ℕ → ℕ) → ((v : ℕ) → v < n → f v ≡ g v) → sum n f ≡ sum n g
unfolding sum
sum_cong zero f g h = refl
sum_cong (suc n) f g h = omega (arith, h n (omega arith), sum_cong n f g (λ v l. h v (omega arith)))

pub sum_mono : (n : ℕ) (f g : ℕ → ℕ) → ((v : ℕ) → v < n → f v ≤ g v) → sum n f ≤ sum n g
unfolding sum
sum_mono zero f g h = omega arith
sum_mono (suc n) f g h = omega (arith, h n (omega arith), sum_mono n f g (λ v l. h v (omega arith)))

-- n terms of at most 1
pub sum_le : (n : ℕ) (f : ℕ → ℕ) → ((v : ℕ) → f v ≤ 1) → sum n f ≤ n
unfolding sum
sum_le zero f h = omega arith
sum_le (suc n) f h = omega (arith, h n, sum_le n f h)

pub sum_ones : (n : ℕ) → sum n (λ _. 1) ≡ n
unfolding sum
sum_ones zero = refl
sum_ones (suc n) = omega (arith, sum_ones n)

pub sum_add : (n : ℕ) (f g : ℕ → ℕ) → sum n (λ v. f v + g v) ≡ sum n f + sum n g
unfolding sum
sum_add zero f g = refl
sum_add (suc n) f g = omega (arith, sum_add n f g)

pub sum_scale : (n a : ℕ) (f : ℕ → ℕ) → sum n (λ v. a * f v) ≡ a * sum n f
unfolding sum
sum_scale zero a f = omega arith
sum_scale (suc n) a f = rw (sum_scale n a f) (sym (mul-add a (sum n f) (f n)))

pub sum_zero : (n : ℕ) (f : ℕ → ℕ) → ((v : ℕ) → v < n → f v ≡ 0) → sum n f ≡ 0
unfolding sum
sum_zero zero f h = refl
sum_zero (suc n) f h = omega (arith, h n (omega arith), sum_zero n f (λ v l. h v (omega arith)))

pub sum_swap : (k n : ℕ) (f : ℕ → ℕ → ℕ) → sum k (λ v. sum n (f v)) ≡ sum n (λ w. sum k (λ v. f v w))
unfolding sum
sum_swap zero n f = sym (sum_zero n (λ w. 0) (λ w _. refl))
sum_swap (suc k) n f = rw (sum_swap k n f) (sym (sum_add n (λ w. sum k (λ v. f v w)) (f k)))

-- the first term apart
pub sum_front : (n : ℕ) (f : ℕ → ℕ) → sum (suc n) f ≡ f 0 + sum n (λ v. f (suc v))
unfolding sum
sum_front zero f = omega arith
sum_front (suc n) f = omega (arith, sum_front n f)

-- the term at c, picked out by a test
pub sum_pick : (n c : ℕ) (f : ℕ → ℕ) → c < n → sum n (λ v. one (eqb v c) * f v) ≡ f c
unfolding sum
sum_pick zero c f l = absurd (omega arith)
sum_pick (suc n) c f l = go (ℕ_discrete n c) (sum_pick n c f)
  where
    go : Dec (n ≡ c) → (c < n → sum n (λ v. one (eqb v c) * f v) ≡ f c) → sum n (λ v. one (eqb v c) * f v) + one (eqb n c) * f n ≡ f c
    go (yes e) ih = rw (eq-eqb n c e, ← e) (omega (arith, sum_zero n (λ v. one (eqb v n) * f v) (λ v l. rw (ne_eqb v n (omega arith)) (omega arith))))
    go (no d) ih = rw (ne_eqb n c d) (omega (arith, ih (omega arith)))

-- a weighted sum where one unit goes from a to b
pub sum_shift : (n : ℕ) (h f g : ℕ → ℕ) (a b : ℕ) → a < n → b < n → ((v : ℕ) → g v + one (eqb v a) ≡ f v + one (eqb v b))
    → sum n (λ v. h v * g v) + h a ≡ sum n (λ v. h v * f v) + h b
sum_shift n h f g a b la lb e = side g a la ∙ sum_cong n _ _ (λ v _. omega (arith, ap (λ (x : ℕ). h v * x) (e v))) ∙ sym (side f b lb)
  where
    side : (k : ℕ → ℕ) (c : ℕ) → c < n → sum n (λ v. h v * k v) + h c ≡ sum n (λ v. h v * k v + one (eqb v c) * h v)
    side k c l = omega (arith, sum_pick n c h l, sum_add n (λ v. h v * k v) (λ v. one (eqb v c) * h v))

-- a term is no more than the sum
pub sum_term : (n c : ℕ) (f : ℕ → ℕ) → c < n → f c ≤ sum n f
unfolding sum
sum_term zero c f l = absurd (omega arith)
sum_term (suc n) c f l = go (ℕ_discrete c n) (sum_term n c f)
  where
    go : Dec (c ≡ n) → (c < n → f c ≤ sum n f) → f c ≤ sum n f + f n
    go (yes e) ih = rw e (omega arith)
    go (no d) ih = omega (arith, ih (omega arith))

-- a sum that is not 0 has a term that is not
pub sum_some : (n : ℕ) (f : ℕ → ℕ) → 0 < sum n f → (v : ℕ) × (v < n) × (0 < f v)
unfolding sum
sum_some zero f h = absurd (omega arith)
sum_some (suc n) f h = go (dec_lt 0 (f n)) (sum_some n f)
  where
    go : Dec (0 < f n) → (0 < sum n f → (v : ℕ) × (v < n) × (0 < f v)) → (v : ℕ) × (v < suc n) × (0 < f v)
    go (yes l) ih = (n, omega arith, l)
    go (no l) ih = let r = ih (omega arith) in (r.0, omega (arith, r.1), r.2)

-- sums of which one is no more than the other, term by term, and no less in all, agree term by term
pub sum_tight : (n : ℕ) (f g : ℕ → ℕ) → ((v : ℕ) → v < n → f v ≤ g v) → sum n g ≤ sum n f → (v : ℕ) → v < n → f v ≡ g v
sum_tight n f g h e v l = omega (arith, sum_term n v (λ u. g u - f u) l, h v l, sum_add n f (λ u. g u - f u), sum_cong n (λ u. f u + (g u - f u)) g (λ u k. omega (arith, h u k)))

-- sums that differ in one term, by one
pub sum_by_one : (n c : ℕ) (f g : ℕ → ℕ) → c < n → f c ≡ g c + 1 → ((v : ℕ) → v ≢ c → f v ≡ g v) → sum n f ≡ sum n g + 1
sum_by_one n c f g l e h =
    sum_cong n f (λ v. g v + one (eqb v c) * 1) (λ v _. go v (ℕ_discrete v c)) ∙ sum_add n g (λ v. one (eqb v c) * 1) ∙ ap (λ (x : ℕ). sum n g + x) (sum_pick n c (λ _. 1) l)
  where
    go : (v : ℕ) → Dec (v ≡ c) → f v ≡ g v + one (eqb v c) * 1
    go v (yes q) = rw (q, eq-eqb c c refl) (omega (arith, e))
    go v (no d) = rw (ne_eqb v c d) (omega (arith, h v d))

-- the numbers that pass a test, counted
pub length_below : (n : ℕ) (p : ℕ → Bool) → length (below n p) ≡ sum n (λ v. one (p v))
unfolding below sum
length_below zero p = refl
length_below (suc n) p = rw (length-append, length_below n p) (ap (λ (x : ℕ). sum n (λ v. one (p v)) + x) (last (p n)))
  where
    last : (b : Bool) → length (cond b (n ∷ []) []) ≡ one b
    last true = refl
    last false = refl

-- most
pub most_le : (f : ℕ → ℕ) (n i : ℕ) → i < n → f i ≤ most n f
unfolding most
most_le f zero i l = absurd (omega arith)
most_le f (suc n) i l = go (ℕ_discrete i n) (most_le f n i)
  where
    go : Dec (i ≡ n) → (i < n → f i ≤ most n f) → f i ≤ most (suc n) f
    go (yes e) ih = rw e (omega arith)
    go (no d) ih = omega (arith, ih (omega arith))

-- a sum in two parts
pub sum_split : (a b : ℕ) (f : ℕ → ℕ) → sum (a + b) f ≡ sum a f + sum b (λ x. f (a + x))
unfolding sum
sum_split a zero f = rw (add-zero a) (omega arith)
sum_split a (suc b) f = rw (add-suc a b) (omega (arith, sum_split a b f))

-- terms of at most 1, of which no two are 1
pub sum_once : (n : ℕ) (f : ℕ → ℕ) → ((v : ℕ) → v < n → f v ≤ 1) → ((v w : ℕ) → v < n → w < n → 0 < f v → 0 < f w → v ≡ w) → sum n f ≤ 1
unfolding sum
sum_once zero f h k = omega arith
sum_once (suc n) f h k = go (dec_lt 0 (f n)) (sum_once n f (λ v l. h v (omega arith)) (λ v w l m. k v w (omega arith) (omega arith)))
  where
    go : Dec (0 < f n) → sum n f ≤ 1 → sum n f + f n ≤ 1
    go (yes l) ih = omega (arith, h n (omega arith), sum_zero n f (λ v m. at v m (dec_lt 0 (f v))))
      where
        at : (v : ℕ) → v < n → Dec (0 < f v) → f v ≡ 0
        at v m (yes p) = absurd (omega (arith, k v n (omega arith) (omega arith) p l))
        at v m (no p) = omega arith
    go (no l) ih = omega arith

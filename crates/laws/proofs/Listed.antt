-- Entries of lists, and lists in order.
use mathlib.Core.Path.{◌≡◌, refl, sym, ap, ◌∙◌}
use mathlib.Core.Bool.{Bool, true, false, cond}
use mathlib.Core.List.{List, [], ◌∷◌, ◌++◌, map}
use mathlib.Core.Logic.{◌⊎◌, inl, inr}
use Prim.Native.Nat.{ℕ, zero, suc, ◌<◌}
use native.Mathlib.Omega.{arith}
use native.Mathlib.Decide.{ℕ_discrete}
use lib.ListN.{length, length-append}
use Rattle.model.specs.Yard.{sum, below}
use Rattle.laws.specs.Openings.{Listed, Sorted}
use Rattle.laws.proofs.Ranges.{collect, collect_none, collect_next}

module _ {A : Type 0} where
  pub listed_left : (x : A) (xs ys : List A) → Listed x xs → Listed x (xs ++ ys)
  listed_left x [] ys h = absurd h
  listed_left x (z ∷ xs) ys (inl e) = inl e
  listed_left x (z ∷ xs) ys (inr h) = inr (listed_left x xs ys h)

  pub listed_right : (x : A) (xs ys : List A) → Listed x ys → Listed x (xs ++ ys)
  listed_right x [] ys h = h
  listed_right x (z ∷ xs) ys h = inr (listed_right x xs ys h)

  pub listed_cases : (x : A) (xs ys : List A) → Listed x (xs ++ ys) → Listed x xs ⊎ Listed x ys
  listed_cases x [] ys h = inr h
  listed_cases x (z ∷ xs) ys (inl e) = inl (inl e)
  listed_cases x (z ∷ xs) ys (inr h) = go (listed_cases x xs ys h)
    where
      go : Listed x xs ⊎ Listed x ys → Listed x (z ∷ xs) ⊎ Listed x ys
      go (inl k) = inl (inr k)
      go (inr k) = inr k

  -- one behind the other
  pub sorted_append : (R : A → A → Type 0) (xs ys : List A) → Sorted R xs → Sorted R ys → ((x z : A) → Listed x xs → Listed z ys → R x z) → Sorted R (xs ++ ys)
  sorted_append R [] ys s k h = k
  sorted_append R (x ∷ xs) ys s k h = (
    (λ z l. front z (listed_cases z xs ys l)),
    sorted_append R xs ys s.1 k (λ v z l m. h v z (inr l) m),
  )
    where
      front : (z : A) → Listed z xs ⊎ Listed z ys → R x z
      front z (inl l) = s.0 z l
      front z (inr l) = h x z (inl refl) l

  -- an entry of a list in strict order is entered once
  pub sorted_once : (R : A → A → Type 0) → ((x : A) → ¬ R x x) → (xs ys : List A) (e : A) → Sorted R (xs ++ e ∷ ys) → (¬ Listed e xs) × (¬ Listed e ys)
  sorted_once R n [] ys e s = ((λ h. h), λ h. n e (s.0 e h))
  sorted_once R n (x ∷ xs) ys e s = let r = sorted_once R n xs ys e s.1 in (front r.0, r.1)
    where
      front : ¬ Listed e xs → Listed e (x ∷ xs) → ⊥
      front r (inl q) = n x (rw q at (s.0 e (listed_right e xs (e ∷ ys) (inl refl))))
      front r (inr h) = r h

  -- the lists of the numbers below n
  module _ (f : ℕ → List A) where
    pub collect_listed : (n a : ℕ) (x : A) → a < n → Listed x (f a) → Listed x (collect n f)
    collect_listed zero a x l h = absurd (omega arith)
    collect_listed (suc n) a x l h = rw (collect_next f n) (go (ℕ_discrete a n) (collect_listed n a x))
      where
        go : Dec (a ≡ n) → (a < n → Listed x (f a) → Listed x (collect n f)) → Listed x (collect n f ++ f n)
        go (yes e) ih = listed_right x (collect n f) (f n) (rw (← e) h)
        go (no d) ih = listed_left x (collect n f) (f n) (ih (omega arith) h)

    pub listed_collect : (n : ℕ) (x : A) → Listed x (collect n f) → (a : ℕ) × (a < n) × Listed x (f a)
    listed_collect zero x h = absurd (rw (collect_none f) at h)
    listed_collect (suc n) x h = go (listed_cases x (collect n f) (f n) (rw (collect_next f n) at h)) (listed_collect n x)
      where
        go : Listed x (collect n f) ⊎ Listed x (f n) → (Listed x (collect n f) → (a : ℕ) × (a < n) × Listed x (f a)) → (a : ℕ) × (a < suc n) × Listed x (f a)
        go (inl k) ih = let r = ih k in (r.0, omega (arith, r.1), r.2)
        go (inr k) ih = (n, omega arith, k)

    pub sorted_collect : (R : A → A → Type 0) → ((a : ℕ) → Sorted R (f a)) → ((a b : ℕ) (x z : A) → a < b → Listed x (f a) → Listed z (f b) → R x z) → (n : ℕ) → Sorted R (collect n f)
    sorted_collect R s h zero = rw (collect_none f) tt
    sorted_collect R s h (suc n) = rw (collect_next f n) (sorted_append R (collect n f) (f n) (sorted_collect R s h n) (s n)
        (λ x z l k. let r = listed_collect n x l in h r.0 n x z r.1 r.2 k))

    pub length_collect : (n : ℕ) → length (collect n f) ≡ sum n (λ a. length (f a))
    unfolding sum
    length_collect zero = rw (collect_none f)
    length_collect (suc n) = rw (collect_next f n, length-append, length_collect n)

-- map
module _ {A B : Type 0} (g : A → B) where
  pub listed_map : (x : A) (xs : List A) → Listed x xs → Listed (g x) (map g xs)
  listed_map x [] h = absurd h
  listed_map x (z ∷ xs) (inl e) = inl (ap g e)
  listed_map x (z ∷ xs) (inr h) = inr (listed_map x xs h)

  pub map_listed : (w : B) (xs : List A) → Listed w (map g xs) → (x : A) × Listed x xs × (w ≡ g x)
  map_listed w [] h = absurd h
  map_listed w (z ∷ xs) (inl e) = (z, inl refl, e)
  map_listed w (z ∷ xs) (inr h) = let r = map_listed w xs h in (r.0, inr r.1, r.2)

  pub sorted_map : (R : A → A → Type 0) (S : B → B → Type 0) → ((x z : A) → R x z → S (g x) (g z)) → (xs : List A) → Sorted R xs → Sorted S (map g xs)
  sorted_map R S h [] s = tt
  sorted_map R S h (x ∷ xs) s = (
    (λ w l. let r = map_listed w xs l in rw r.2 (h x r.0 (s.0 r.0 r.1))),
    sorted_map R S h xs s.1,
  )

-- the numbers below n that pass a test
module _ (p : ℕ → Bool) where
  pub listed_below : (n v : ℕ) → v < n → p v ≡ true → Listed v (below n p)
  unfolding below
  listed_below zero v l e = absurd (omega arith)
  listed_below (suc n) v l e = go (ℕ_discrete v n) (listed_below n v)
    where
      go : Dec (v ≡ n) → (v < n → p v ≡ true → Listed v (below n p)) → Listed v (below n p ++ cond (p n) (n ∷ []) [])
      go (yes q) ih = listed_right v (below n p) _ (rw (ap p (sym q) ∙ e) (inl q))
      go (no q) ih = listed_left v (below n p) _ (ih (omega arith) e)

  last_listed : (n v : ℕ) (b : Bool) → p n ≡ b → Listed v (cond b (n ∷ []) []) → (v ≡ n) × (p v ≡ true)
  last_listed n v true e (inl q) = (q, ap p q ∙ e)
  last_listed n v true e (inr h) = absurd h
  last_listed n v false e h = absurd h

  pub below_listed : (n v : ℕ) → Listed v (below n p) → (v < n) × (p v ≡ true)
  unfolding below
  below_listed zero v h = absurd h
  below_listed (suc n) v h = go (listed_cases v (below n p) (cond (p n) (n ∷ []) []) h) (below_listed n v)
    where
      go : Listed v (below n p) ⊎ Listed v (cond (p n) (n ∷ []) []) → (Listed v (below n p) → (v < n) × (p v ≡ true)) → (v < suc n) × (p v ≡ true)
      go (inl k) ih = let r = ih k in (omega (arith, r.0), r.1)
      go (inr k) ih = let r = last_listed n v (p n) refl k in (omega (arith, r.0), r.1)

  pub sorted_below : (n : ℕ) → Sorted (λ a b. a < b) (below n p)
  unfolding below
  sorted_below zero = tt
  sorted_below (suc n) = sorted_append (λ a b. a < b) (below n p) _ (sorted_below n) (single (p n)) (λ a b l k. omega (arith, (below_listed n a l).0, (last_listed n b (p n) refl k).0))
    where
      single : (b : Bool) → Sorted (λ a b. a < b) (cond b (n ∷ []) [])
      single true = ((λ z h. absurd h), tt)
      single false = tt

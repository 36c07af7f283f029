-- Tests, and lists: what holds of all members of a list, the numbers below n that pass a test, and lists of tests none of which refuses.
use mathlib.Core.Path.{◌≡◌, refl, sym, ap, ◌∙◌, subst}
use mathlib.Core.Bool.{Bool, true, false, cond}
use mathlib.Core.List.{List, [], ◌∷◌, ◌++◌}
use mathlib.Core.Option.{Option, none, some}
use Prim.Native.Nat.{ℕ, zero, suc, ◌≤◌, ◌<◌}
use native.Mathlib.Omega.{arith}
use native.Mathlib.Decide.{ℕ_discrete}
use lib.Dec.{eqb}
use borrow.Author.Tests.{ne_eqb}
use Rattle.model.specs.Yard.{one, below}
use Rattle.model.specs.Judge.{Fault, fault, first_of, unless, at_lowest}

pub not_so : (b : Bool) → (b ≡ true → ⊥) → b ≡ false
not_so true h = absurd (h refl)
not_so false h = refl

pub one_le : (b : Bool) → one b ≤ 1
one_le true = omega arith
one_le false = omega arith

pub eqb_sym : (a b : ℕ) → eqb a b ≡ eqb b a
eqb_sym a b = go (ℕ_discrete a b)
  where
    go : Dec (a ≡ b) → eqb a b ≡ eqb b a
    go (yes e) = rw e
    go (no n) = ne_eqb a b n ∙ sym (ne_eqb b a (λ e. n (sym e)))

abbrev pub All : {A : Type 0} → (A → Type 0) → List A → Type 0
All Q [] = Unit {0}
All Q (x ∷ xs) = Q x × All Q xs

pub all_map : {A : Type 0} (P Q : A → Type 0) (xs : List A) → ((x : A) → P x → Q x) → All P xs → All Q xs
all_map P Q [] f h = tt
all_map P Q (x ∷ xs) f h = (f x h.0, all_map P Q xs f h.1)

pub all_both : {A : Type 0} (P Q : A → Type 0) (xs : List A) → All P xs → All Q xs → All (λ x. P x × Q x) xs
all_both P Q [] h k = tt
all_both P Q (x ∷ xs) h k = ((h.0, k.0), all_both P Q xs h.1 k.1)

pub all_append : {A : Type 0} (Q : A → Type 0) (xs ys : List A) → All Q xs → All Q ys → All Q (xs ++ ys)
all_append Q [] ys h k = k
all_append Q (x ∷ xs) ys h k = (h.0, all_append Q xs ys h.1 k)

append_all : (Q : ℕ → Type 0) (xs ys : List ℕ) → All Q (xs ++ ys) → All Q xs × All Q ys
append_all Q [] ys h = (tt, h)
append_all Q (x ∷ xs) ys h = let r = append_all Q xs ys h.1 in ((h.0, r.0), r.1)

module _ (Q : ℕ → Type 0) (p : ℕ → Bool) where
  pub all_below : (n : ℕ) → ((v : ℕ) → v < n → p v ≡ true → Q v) → All Q (below n p)
  unfolding below
  all_below zero h = tt
  all_below (suc n) h = all_append Q (below n p) (cond (p n) (n ∷ []) []) (all_below n (λ v l. h v (omega arith))) (last (p n) refl)
    where
      last : (b : Bool) → p n ≡ b → All Q (cond b (n ∷ []) [])
      last true e = (h n (omega arith) e, tt)
      last false e = tt

  pub below_all : (n : ℕ) → All Q (below n p) → (v : ℕ) → v < n → p v ≡ true → Q v
  unfolding below
  below_all zero a v l e = absurd (omega arith)
  below_all (suc n) a v l e = go (ℕ_discrete v n) (append_all Q (below n p) (cond (p n) (n ∷ []) []) a) (below_all n)
    where
      go : Dec (v ≡ n) → All Q (below n p) × All Q (cond (p n) (n ∷ []) []) → (All Q (below n p) → (v : ℕ) → v < n → p v ≡ true → Q v) → Q v
      go (yes q) r ih =
          let k : All Q (n ∷ []) = rw (ap p (sym q) ∙ e) at r.1 in
          subst Q (sym q) k.0
      go (no q) r ih = ih r.0 v (omega arith) e

-- none passes, if the list is empty
pub below_none : (n : ℕ) (p : ℕ → Bool) → below n p ≡ [] → (v : ℕ) → v < n → p v ≡ false
below_none n p e v l = not_so (p v) (below_all (λ _. ⊥) p n (subst (All (λ _. ⊥)) (sym e) tt) v l)

pub none_below : (n : ℕ) (p : ℕ → Bool) → ((v : ℕ) → v < n → p v ≡ false) → below n p ≡ []
unfolding below
none_below zero p h = refl
none_below (suc n) p h = rw (none_below n p (λ v l. h v (omega arith)), h n (omega arith))

-- refusals
pub none_all : (rs : List (Option Fault)) → first_of rs ≡ none → All (λ r. r ≡ none) rs
none_all [] e = tt
none_all (none ∷ rs) e = (refl, none_all rs e)
none_all (some r ∷ rs) e = let z : ◌≡◌ {A = ℕ} 0 1 = cc in absurd (omega arith)

pub all_none : (rs : List (Option Fault)) → All (λ r. r ≡ none) rs → first_of rs ≡ none
all_none [] h = refl
all_none (r ∷ rs) h = rw h.0 (all_none rs h.1)

pub unless_none : (b : Bool) (n p : ℕ) → unless b (fault n p) ≡ none → b ≡ true
unless_none true n p e = refl
unless_none false n p e = cc

pub at_lowest_none : (n : ℕ) (l : List ℕ) → at_lowest n l ≡ none → l ≡ []
at_lowest_none n [] e = refl
at_lowest_none n (v ∷ l) e = cc

-- a test that is itself a list of tests
pub first_join : (fs gs : List (Option Fault)) → first_of (first_of fs ∷ gs) ≡ first_of (fs ++ gs)
first_join [] gs = refl
first_join (none ∷ fs) gs = first_join fs gs
first_join (some f ∷ fs) gs = refl

-- two lists of tests, one after the other
pub first_refused : (fs gs : List (Option Fault)) (f : Fault) → first_of fs ≡ some f → first_of (fs ++ gs) ≡ some f
first_refused [] gs f e = cc
first_refused (none ∷ fs) gs f e = first_refused fs gs f e
first_refused (some r ∷ fs) gs f e = e

pub first_passed : (fs gs : List (Option Fault)) → first_of fs ≡ none → first_of (fs ++ gs) ≡ first_of gs
first_passed [] gs e = refl
first_passed (none ∷ fs) gs e = first_passed fs gs e
first_passed (some r ∷ fs) gs e = cc

pub single : (f : Option Fault) → first_of (f ∷ []) ≡ f
single none = refl
single (some f) = refl

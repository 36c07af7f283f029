-- The lowest number that passes a test, found by trying one after another: laws for the loops that look for it.
use mathlib.Core.Path.{◌≡◌, refl, sym, ap, ◌∙◌}
use mathlib.Core.Logic.{◌≢◌}
use mathlib.Core.Bool.{Bool, true, false, cond, ◌&&◌, and-false, false≢true}
use mathlib.Core.List.{List, [], ◌∷◌, ◌++◌}
use Prim.Native.Nat.{ℕ, zero, suc, ◌+◌, ◌≤◌, ◌<◌}
use native.Mathlib.Omega.{arith}
use native.Mathlib.Decide.{ℕ_discrete}
use lib.Dec.{leb}
use borrow.Author.Tests.{leb-true, leb-false, le-leb, lt-leb}
use Rattle.model.specs.Yard.{below, head_or}
use Rattle.model.specs.Judge.{fault, at_lowest}
use Rattle.laws.proofs.Basics.{All, all_below, none_below, below_none}

-- none below i passes, and i does
pub below_found : (n i : ℕ) (p : ℕ → Bool) → i < n → ((v : ℕ) → v < i → p v ≡ false) → p i ≡ true → (vs : List ℕ) × (below n p ≡ i ∷ vs)
unfolding below
below_found zero i p l h e = absurd (omega arith)
below_found (suc n) i p l h e = go (ℕ_discrete i n) (below_found n i p)
  where
    go : Dec (i ≡ n) → (i < n → ((v : ℕ) → v < i → p v ≡ false) → p i ≡ true → (vs : List ℕ) × (below n p ≡ i ∷ vs)) → (vs : List ℕ) × (below (suc n) p ≡ i ∷ vs)
    go (yes q) ih = ([], rw (none_below n p (λ v k. h v (omega arith)), ← q, e))
    go (no q) ih = let r = ih (omega arith) h e in (r.0 ++ cond (p n) (n ∷ []) [], rw r.1)

pub found : (n d i : ℕ) (p : ℕ → Bool) → i < n → ((v : ℕ) → v < i → p v ≡ false) → p i ≡ true → i ≡ head_or d (below n p)
found n d i p l h e = rw (below_found n i p l h e).1

pub missed : (n d : ℕ) (p : ℕ → Bool) → ((v : ℕ) → v < n → p v ≡ false) → d ≡ head_or d (below n p)
missed n d p h = rw (none_below n p h)

-- what a search that answers n for none has found
module _ (n : ℕ) (p : ℕ → Bool) where
  pub lowest_fault : (k r : ℕ) → r ≡ head_or n (below n p) → r < n → at_lowest k (below n p) ≡ fault k r
  lowest_fault k r e l = go (below n p) e
    where
      go : (vs : List ℕ) → r ≡ head_or n vs → at_lowest k vs ≡ fault k r
      go [] e = absurd (omega arith)
      go (v ∷ vs) e = rw e

  pub lowest_none : (r : ℕ) → r ≡ head_or n (below n p) → n ≤ r → below n p ≡ []
  lowest_none r e l = go (below n p) e (all_below (λ v. v < n) p n (λ v m _. m))
    where
      go : (vs : List ℕ) → r ≡ head_or n vs → All (λ v. v < n) vs → vs ≡ []
      go [] e a = refl
      go (v ∷ vs) e a = absurd (omega arith)

-- one more that does not pass
pub none_next : (p : ℕ → Bool) (i : ℕ) → ((v : ℕ) → v < i → p v ≡ false) → p i ≡ false → (v : ℕ) → v < i + 1 → p v ≡ false
none_next p i h e v l = go (ℕ_discrete v i)
  where
    go : Dec (v ≡ i) → p v ≡ false
    go (yes q) = rw q e
    go (no q) = h v (omega arith)

-- what a search that finds has found: a number that passes, and none below it does
pub lowest_is : (n d r : ℕ) (p : ℕ → Bool) → r ≡ head_or d (below n p) → r ≢ d → (r < n) × (p r ≡ true) × ((v : ℕ) → v < r → p v ≡ false)
unfolding below
lowest_is zero d r p e l = absurd (l e)
lowest_is (suc n) d r p e l = go (below n p) refl (p n) refl e (lowest_is n d r p)
  where
    go : (vs : List ℕ) → below n p ≡ vs → (b : Bool) → p n ≡ b → r ≡ head_or d (vs ++ cond b (n ∷ []) [])
        → (r ≡ head_or d (below n p) → r ≢ d → (r < n) × (p r ≡ true) × ((v : ℕ) → v < r → p v ≡ false))
        → (r < suc n) × (p r ≡ true) × ((v : ℕ) → v < r → p v ≡ false)
    go [] q true b e ih = (omega arith, ap p e ∙ b, λ v k. below_none n p q v (omega arith))
    go [] q false b e ih = absurd (l e)
    go (w ∷ vs) q b _ e ih = let h = ih (rw q e) l in (omega arith, h.1, h.2)

-- those behind the lowest: the ones above it that pass
pub below_rest : (n r : ℕ) (p : ℕ → Bool) → r < n → p r ≡ true → ((v : ℕ) → v < r → p v ≡ false) → below n p ≡ r ∷ below n (λ v. (leb (r + 1) v) && (p v))
unfolding below
below_rest zero r p l e h = absurd (omega arith)
below_rest (suc n) r p l e h = go (ℕ_discrete r n) (below_rest n r p)
  where
    behind : ℕ → Bool
    behind v = (leb (r + 1) v) && (p v)

    early : (v : ℕ) → v ≤ r → behind v ≡ false
    early v k = rw (lt-leb (r + 1) v (omega arith))

    go : Dec (r ≡ n) → (r < n → p r ≡ true → ((v : ℕ) → v < r → p v ≡ false) → below n p ≡ r ∷ below n behind) → below n p ++ cond (p n) (n ∷ []) [] ≡ r ∷ (below n behind ++ cond (behind n) (n ∷ []) [])
    go (yes q) ih = rw (none_below n p (λ v k. h v (omega arith)), none_below n behind (λ v k. early v (omega arith)), early n (omega arith), ← q, e)
    go (no q) ih = rw (ih (omega arith) e h, le-leb (r + 1) n (omega arith))

pub below_cong : (n : ℕ) (p q : ℕ → Bool) → ((v : ℕ) → v < n → p v ≡ q v) → below n p ≡ below n q
unfolding below
below_cong zero p q h = refl
below_cong (suc n) p q h = rw (below_cong n p q (λ v l. h v (omega arith)), h n (omega arith))

-- from v on the same pass as from the next number on, where v does not
pub from_next : (n v : ℕ) (p : ℕ → Bool) → p v ≡ false → below n (λ w. (leb (v + 1) w) && (p w)) ≡ below n (λ w. (leb v w) && (p w))
from_next n v p e = below_cong n _ _ (λ w _. go w (ℕ_discrete w v) (leb v w) refl)
  where
    go : (w : ℕ) → Dec (w ≡ v) → (b : Bool) → leb v w ≡ b → ((leb (v + 1) w) && (p w)) ≡ ((leb v w) && (p w))
    go w (yes q) b s = rw (q, e) (and-false (leb (v + 1) v) ∙ sym (and-false (leb v v)))
    go w (no q) true s = rw (s, le-leb (v + 1) w (omega (arith, leb-true v w s)))
    go w (no q) false s = rw (s, lt-leb (v + 1) w (omega (arith, leb-false v w s)))

-- a search that answers a number which does not pass has found none
pub lowest_missing : (n d : ℕ) (p : ℕ → Bool) → d ≡ head_or d (below n p) → p d ≡ false → (v : ℕ) → v < n → p v ≡ false
lowest_missing n d p e f = below_none n p (go (below n p) e (all_below (λ w. p w ≡ true) p n (λ w _ q. q)))
  where
    go : (vs : List ℕ) → d ≡ head_or d vs → All (λ w. p w ≡ true) vs → vs ≡ []
    go [] q a = refl
    go (w ∷ vs) q a = absurd (false≢true (sym f ∙ ap p q ∙ a.0))

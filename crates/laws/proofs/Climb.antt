-- Climbing from node to parent. Of n nodes each step more reaches a new one or none, so n steps reach all that any number of steps
-- does: refusal 6's test by n steps means never.
use mathlib.Core.Path.{◌≡◌, refl, sym, ap, ◌∙◌}
use mathlib.Core.Bool.{Bool, true, false, ◌||◌, or_self, or-true, false≢true}
use mathlib.Core.List.{List}
use mathlib.Core.Logic.{◌↔◌, ◌⊎◌, inl, inr}
use Prim.Native.Nat.{ℕ, zero, suc, ◌≤◌, ◌<◌}
use native.Mathlib.Omega.{arith}
use native.Mathlib.Decide.{dec_lt}
use lib.ListN.{length}
use lib.Dec.{eqb}
use borrow.Author.Tests.{eqb-true, eq-eqb}
use Rattle.model.specs.Yard.{up, sum, one, climbs, inside}
use Rattle.laws.proofs.Basics.{not_so, one_le}
use Rattle.laws.proofs.Sums.{sum_le, sum_tight}

pub climbs_self : (k : ℕ) (ps : List ℕ) (v : ℕ) → climbs k ps v v ≡ true
unfolding climbs
climbs_self zero ps v = eq-eqb v v refl
climbs_self (suc k) ps v = rw (eq-eqb v v refl)

-- from a node that is its own parent nothing else is met
pub climbs_fixed : (k : ℕ) (ps : List ℕ) (v t : ℕ) → up ps v ≡ v → climbs k ps v t ≡ eqb v t
unfolding climbs
climbs_fixed zero ps v t e = refl
climbs_fixed (suc k) ps v t e = rw (e, climbs_fixed k ps v t e) (or_self (eqb v t))

-- what is met by k steps has its parent met by one more
pub climbs_up : (k : ℕ) (ps : List ℕ) (v t : ℕ) → climbs k ps v t ≡ true → climbs (suc k) ps v (up ps t) ≡ true
unfolding climbs
climbs_up zero ps v t e = rw (eqb-true v t e, eq-eqb (up ps t) (up ps t) refl) (or-true (eqb t (up ps t)))
climbs_up (suc k) ps v t e = go (eqb v t) refl e (climbs_up k ps (up ps v) t)
  where
    go : (b : Bool) → eqb v t ≡ b → (b || climbs k ps (up ps v) t) ≡ true → (climbs k ps (up ps v) t ≡ true → climbs (suc k) ps (up ps v) (up ps t) ≡ true)
        → (eqb v (up ps t) || climbs (suc k) ps (up ps v) (up ps t)) ≡ true
    go true q e ih = rw (eqb-true v t q, climbs_self (suc k) ps (up ps t)) (or-true (eqb t (up ps t)))
    go false q e ih = rw (ih e) (or-true (eqb v (up ps t)))

climbs_more : (k : ℕ) (ps : List ℕ) (v t : ℕ) → one (climbs k ps v t) ≤ one (climbs (suc k) ps v t)
unfolding climbs
climbs_more zero ps v t = go (eqb v t)
  where
    go : (b : Bool) → one b ≤ one (b || eqb (up ps v) t)
    go true = omega arith
    go false = omega arith
climbs_more (suc k) ps v t = go (eqb v t) (climbs_more k ps (up ps v) t)
  where
    go : (b : Bool) → one (climbs k ps (up ps v) t) ≤ one (climbs (suc k) ps (up ps v) t) → one (b || climbs k ps (up ps v) t) ≤ one (b || climbs (suc k) ps (up ps v) t)
    go true h = omega arith
    go false h = h

one_same : (a b : Bool) → one a ≡ one b → a ≡ b
one_same true true e = refl
one_same true false e = absurd (omega arith)
one_same false true e = absurd (omega arith)
one_same false false e = refl

module _ (ps : List ℕ) (within : (v : ℕ) → v < length ps → up ps v < length ps) (t : ℕ) where
  -- one step more reaches t from no further node
  abbrev Stable : ℕ → Type 0
  Stable k = (v : ℕ) → v < length ps → climbs k ps v t ≡ climbs (suc k) ps v t

  reached : ℕ → ℕ
  reached k = sum (length ps) (λ v. one (climbs k ps v t))

  stays : (k : ℕ) → Stable k → Stable (suc k)
  unfolding climbs
  stays k s v l = ap (λ (b : Bool). (eqb v t) || b) (s (up ps v) (within v l))

  tight : (k : ℕ) → reached (suc k) ≤ reached k → Stable k
  unfolding reached
  tight k h v l = one_same _ _ (sum_tight (length ps) (λ v. one (climbs k ps v t)) (λ v. one (climbs (suc k) ps v t)) (λ v _. climbs_more k ps v t) h v l)

  grows : (k : ℕ) → Stable k ⊎ (k ≤ reached k)
  grows zero = inr (omega arith)
  grows (suc k) = go (grows k) (dec_lt (reached k) (reached (suc k)))
    where
      go : Stable k ⊎ (k ≤ reached k) → Dec (reached k < reached (suc k)) → Stable (suc k) ⊎ (suc k ≤ reached (suc k))
      go (inl s) d = inl (stays k s)
      go (inr l) (yes d) = inr (omega arith)
      go (inr l) (no d) = inl (stays k (tight k (omega arith)))

  enough : Stable (length ps)
  unfolding reached
  enough = go (grows (length ps))
    where
      go : Stable (length ps) ⊎ (length ps ≤ reached (length ps)) → Stable (length ps)
      go (inl s) = s
      go (inr l) = tight (length ps) (omega (arith, sum_le (length ps) _ (λ v. one_le (climbs (suc (length ps)) ps v t))))

  -- v lies in the subtree of t if v is t, or v's parent lies there
  pub inside_step : (v : ℕ) → v < length ps → inside ps t v ≡ ((eqb v t) || (inside ps t (up ps v)))
  unfolding inside climbs
  inside_step v l = enough v l

  pub climbs_inside : (k v : ℕ) → v < length ps → climbs k ps v t ≡ true → inside ps t v ≡ true
  unfolding inside climbs
  climbs_inside zero v l e = rw (eqb-true v t e) (climbs_self (length ps) ps t)
  climbs_inside (suc k) v l e = enough v l ∙ go (eqb v t) e (climbs_inside k (up ps v) (within v l))
    where
      go : (b : Bool) → (b || climbs k ps (up ps v) t) ≡ true → (climbs k ps (up ps v) t ≡ true → inside ps t (up ps v) ≡ true) → (b || inside ps t (up ps v)) ≡ true
      go true e ih = refl
      go false e ih = ih e

  pub never : (v : ℕ) → v < length ps → (climbs (length ps) ps v t ≡ false) ↔ ((k : ℕ) → climbs k ps v t ≡ false)
  unfolding inside
  never v l = (λ e k. not_so (climbs k ps v t) (λ q. false≢true (sym e ∙ climbs_inside k v l q)), λ h. h (length ps))

-- The child that the planner serves. A rule of choice is sound if it gives a child that needs something wherever there is one; the proofs of the
-- planner use no more of it. Both rules are sound. Of `neediest_child` moreover: no child needs more, and one that needs as much has no lower number,
-- which determines it.
use mathlib.Core.Path.{◌≡◌, refl, sym, ap, ◌∙◌, subst}
use mathlib.Core.Logic.{◌≢◌, ◌⊎◌, inl, inr}
use mathlib.Core.Bool.{Bool, true, false, not, cond, ◌&&◌, and-eq-true_iff, false≢true}
use mathlib.Core.List.{List, [], ◌∷◌, ◌++◌, append-nil, nil≢cons}
use Prim.Native.Nat.{ℕ, zero, suc, ◌*◌, ◌≤◌, ◌<◌}
use native.Mathlib.Omega.{arith}
use native.Mathlib.Decide.{ℕ_discrete, dec_lt}
use lib.Dec.{ltb, eqb}
use borrow.Author.Tests.{ltb-true, ltb-false, lt-ltb, eq-eqb, ne_eqb}
use Rattle.model.specs.Yard.{Yard, size, pebble, held, one, below, head_or, is_child, lacking}
use Rattle.model.specs.Plan.{needy, nonempty, Rule, lowest_child, greatest, neediest_child, choice, fills}
use Rattle.laws.proofs.Basics.{All, all_map, all_below, below_all, below_none}
use Rattle.laws.proofs.Found.{below_cong}
use Rattle.laws.proofs.Sums.{sum_some}
use Rattle.laws.specs.Choice.{Child, Needy, Neediest}
use Rattle.laws.proofs.Trees.{is_child_law, child_is}
use Rattle.laws.proofs.Demands.{over_children}

abbrev pub Sound : Rule → Type 0
Sound rule = (need : ℕ → ℕ) (y : Yard) (u c : ℕ) → Needy need y u c → Needy need y u (rule need y u)

module _ (need : ℕ → ℕ) (y : Yard) (u : ℕ) where
  -- the test for them
  abbrev pub wanted : ℕ → Bool
  wanted v = (is_child y.parents u v) && (ltb 0 (need v))

  wanted_needy : (v : ℕ) → v < size y → wanted v ≡ true → Needy need y u v
  wanted_needy v l e =
      let b = (and-eq-true_iff (is_child y.parents u v) (ltb 0 (need v))).0 e in
      (is_child_law y.parents u v l b.0, ltb-true 0 (need v) b.1)

  needy_wanted : (c : ℕ) → Needy need y u c → wanted c ≡ true
  needy_wanted c k = rw (child_is y.parents u c k.0) (lt-ltb 0 (need c) k.1)

  pub all_needy : All (Needy need y u) (needy need y u)
  unfolding needy
  all_needy = all_below (Needy need y u) wanted (size y) wanted_needy

  needy_all : (Q : ℕ → Type 0) → All Q (needy need y u) → (c : ℕ) → Needy need y u c → Q c
  unfolding needy
  needy_all Q a c k = below_all Q wanted (size y) a c k.0.lt (needy_wanted c k)

  pub nil_needy : needy need y u ≡ [] → (c : ℕ) → Needy need y u c → ⊥
  nil_needy e = needy_all (λ _. ⊥) (subst (All (λ _. ⊥)) (sym e) tt)

  pub none_needy : needy need y u ≡ [] → (c : ℕ) → Child y.parents u c → need c ≡ 0
  none_needy e c k = zero_if (λ h. nil_needy e c (k, h))
    where
      zero_if : (0 < need c → ⊥) → need c ≡ 0
      zero_if h = omega arith

  -- where the children's needs are not all 0, some child needs something
  pub some_needy : 0 < over_children y.parents need u → (c : ℕ) × Needy need y u c
  some_needy h = go (sum_some (size y) (λ v. one (is_child y.parents u v) * need v) h)
    where
      go : (c : ℕ) × (c < size y) × (0 < one (is_child y.parents u c) * need c) → (c : ℕ) × Needy need y u c
      go k = at (is_child y.parents u k.0) refl k.2
        where
          at : (b : Bool) → is_child y.parents u k.0 ≡ b → 0 < one b * need k.0 → (c : ℕ) × Needy need y u c
          at true e n = (k.0, (is_child_law y.parents u k.0 k.1 e, omega arith))
          at false e n = absurd (omega arith)

-- and where no child needs anything, they are all 0
pub none_over : (need : ℕ → ℕ) (y : Yard) (u : ℕ) → needy need y u ≡ [] → over_children y.parents need u ≡ 0
none_over need y u e = go (dec_lt 0 (over_children y.parents need u))
  where
    go : Dec (0 < over_children y.parents need u) → over_children y.parents need u ≡ 0
    go (yes h) = let c = some_needy need y u h in absurd (nil_needy need y u e c.0 c.1)
    go (no h) = omega arith

-- greatest
greatest_append : (need : ℕ → ℕ) (v : ℕ) (ws : List ℕ) (n : ℕ) → greatest need v (ws ++ (n ∷ [])) ≡ cond (ltb (need (greatest need v ws)) (need n)) n (greatest need v ws)
unfolding greatest
greatest_append need v [] n = refl
greatest_append need v (w ∷ ws) n = greatest_append need (cond (ltb (need v) (need w)) w v) ws n

greatest_same : (f g : ℕ → ℕ) (v : ℕ) (ws : List ℕ) → f v ≡ g v → All (λ w. f w ≡ g w) ws → greatest f v ws ≡ greatest g v ws
unfolding greatest
greatest_same f g v [] e a = refl
greatest_same f g v (w ∷ ws) e a = rw (e, a.0) (greatest_same f g (cond (ltb (g v) (g w)) w v) ws (at (ltb (g v) (g w))) a.1)
  where
    at : (b : Bool) → f (cond b w v) ≡ g (cond b w v)
    at true = a.0
    at false = e

-- lowest_child
pub lowest_sound : Sound lowest_child
unfolding lowest_child
lowest_sound need y u c k = go (needy need y u) refl (all_needy need y u)
  where
    go : (l : List ℕ) → needy need y u ≡ l → All (Needy need y u) l → Needy need y u (head_or u l)
    go [] e a = absurd (nil_needy need y u e c k)
    go (v ∷ l) e a = a.0

-- of the numbers below n that pass a test, r is the one with the greatest need, and the lowest of those
record Best (need : ℕ → ℕ) (p : ℕ → Bool) (n r : ℕ) : Type 0 where
  pub lt : r < n
  pub passes : p r ≡ true
  pub most : (v : ℕ) → v < n → p v ≡ true → need v ≤ need r
  pub first : (v : ℕ) → v < r → p v ≡ true → need v < need r

module _ {need : ℕ → ℕ} {p : ℕ → Bool} {n : ℕ} where
  best_same : {r s : ℕ} → Best need p n r → Best need p n s → r ≡ s
  best_same {r} {s} a b = go (dec_lt r s) (dec_lt s r)
    where
      go : Dec (r < s) → Dec (s < r) → r ≡ s
      go (yes l) _ = absurd (omega (arith, b.first r l a.passes, a.most s b.lt b.passes))
      go (no _) (yes l) = absurd (omega (arith, a.first s l b.passes, b.most r a.lt a.passes))
      go (no k) (no l) = omega arith

  -- a scan in rising number: the first that passes; a later one takes the place of the best so far only if it needs more
  best_first : ((v : ℕ) → v < n → p v ≡ false) → p n ≡ true → Best need p (suc n) n
  best_first h e = record {
    lt = omega arith;
    passes = e;
    most = λ v l q. go (ℕ_discrete v n) (λ m. false≢true (sym (h v m) ∙ q)) l;
    first = λ v l q. absurd (false≢true (sym (h v l) ∙ q));
  }
    where
      go : {v : ℕ} → Dec (v ≡ n) → (v < n → ⊥) → v < suc n → need v ≤ need n
      go (yes q) d l = rw q (omega arith)
      go (no q) d l = absurd (d (omega arith))

  best_over : {r : ℕ} → Best need p n r → p n ≡ true → need r < need n → Best need p (suc n) n
  best_over {r} b e m = record { lt = omega arith; passes = e; most = λ v l q. go v (ℕ_discrete v n) l q; first = λ v l q. omega (arith, b.most v l q) }
    where
      go : (v : ℕ) → Dec (v ≡ n) → v < suc n → p v ≡ true → need v ≤ need n
      go v (yes x) l q = rw x (omega arith)
      go v (no x) l q = omega (arith, b.most v (omega arith) q)

  best_stays : {r : ℕ} → Best need p n r → (p n ≡ true → need n ≤ need r) → Best need p (suc n) r
  best_stays {r} b h = record { lt = omega (arith, b.lt); passes = b.passes; most = λ v l q. go v (ℕ_discrete v n) l q; first = b.first }
    where
      go : (v : ℕ) → Dec (v ≡ n) → v < suc n → p v ≡ true → need v ≤ need r
      go v (yes x) l q = rw x (h (rw x at q))
      go v (no x) l q = b.most v (omega arith) q

-- what `neediest_child` chooses of a list, and of the numbers below n that pass a test
abbrev chosen : (ℕ → ℕ) → ℕ → List ℕ → ℕ
chosen need u l = elim l [ [] ↦ u | (v ∷ vs) ↦ greatest need v vs ]

module _ (need : ℕ → ℕ) (u : ℕ) (p : ℕ → Bool) where
  best_below : (n : ℕ) → (below n p ≡ []) ⊎ Best need p n (chosen need u (below n p))
  unfolding below greatest
  best_below zero = inl refl
  best_below (suc n) = go (below n p) refl (p n) refl (best_below n)
    where
      go : (l : List ℕ) → below n p ≡ l → (b : Bool) → p n ≡ b → (below n p ≡ []) ⊎ Best need p n (chosen need u (below n p))
          → (l ++ cond b (n ∷ []) [] ≡ []) ⊎ Best need p (suc n) (chosen need u (l ++ cond b (n ∷ []) []))
      go [] q false e h = inl refl
      go [] q true e h = inr (best_first (below_none n p q) e)
      go (v ∷ vs) q b e (inl h) = absurd (nil≢cons (sym h ∙ q))
      go (v ∷ vs) q false e (inr h) = inr (rw (append-nil vs) (best_stays (rw q at h) (λ g. absurd (false≢true (sym e ∙ g)))))
      go (v ∷ vs) q true e (inr h) = inr (rw (greatest_append need v vs n) (at (ltb (need (greatest need v vs)) (need n)) refl (rw q at h)))
        where
          at : (x : Bool) → ltb (need (greatest need v vs)) (need n) ≡ x → Best need p n (greatest need v vs) → Best need p (suc n) (cond x n (greatest need v vs))
          at true l b = best_over b e (ltb-true _ _ l)
          at false l b = best_stays b (λ _. ltb-false _ _ l)

module _ (need : ℕ → ℕ) (y : Yard) (u : ℕ) where
  abbrev p : ℕ → Bool
  p = wanted need y u

  -- a child that needs nothing needs no more than one that needs something
  less : {r v : ℕ} → Child y.parents u v → (p v ≡ true → need v ≤ need r) → need v ≤ need r
  less {r} {v} k h = go (dec_lt 0 (need v))
    where
      go : Dec (0 < need v) → need v ≤ need r
      go (yes n) = h (needy_wanted need y u v (k, n))
      go (no n) = omega arith

  lesser : {r v : ℕ} → Child y.parents u v → 0 < need r → (p v ≡ true → need v < need r) → need v < need r
  lesser {r} {v} k m h = go (dec_lt 0 (need v))
    where
      go : Dec (0 < need v) → need v < need r
      go (yes n) = h (needy_wanted need y u v (k, n))
      go (no n) = omega arith

  best_neediest : {r : ℕ} → Best need p (size y) r → Neediest need y u r
  best_neediest {r} b =
      let n = wanted_needy need y u r b.lt b.passes in
      record { needy = n; most = λ v k. less {r = r} {v = v} k (b.most v k.lt); first = λ v k l. lesser {r = r} {v = v} k n.1 (b.first v l) }

  neediest_best : {r : ℕ} → Neediest need y u r → Best need p (size y) r
  neediest_best {r} n = record {
    lt = n.needy.0.lt;
    passes = needy_wanted need y u r n.needy;
    most = λ v l q. n.most v (wanted_needy need y u v l q).0;
    first = λ v l q. n.first v (wanted_needy need y u v (omega (arith, n.needy.0.lt)) q).0 l;
  }

  none_or_best : (needy need y u ≡ []) ⊎ Best need p (size y) (neediest_child need y u)
  unfolding neediest_child needy
  none_or_best = best_below need u p (size y)

  pub neediest_none : ((v : ℕ) → Child y.parents u v → need v ≡ 0) → u ≡ neediest_child need y u
  unfolding neediest_child
  neediest_none h = go (needy need y u) (all_needy need y u)
    where
      go : (l : List ℕ) → All (Needy need y u) l → u ≡ chosen need u l
      go [] a = refl
      go (v ∷ l) a = absurd (omega (arith, h v a.0.0, a.0.1))

  pub neediest_some : (c : ℕ) → Needy need y u c → Neediest need y u (neediest_child need y u)
  neediest_some c k = go none_or_best
    where
      go : (needy need y u ≡ []) ⊎ Best need p (size y) (neediest_child need y u) → Neediest need y u (neediest_child need y u)
      go (inl e) = absurd (nil_needy need y u e c k)
      go (inr b) = best_neediest b

  -- what is not u itself is so
  pub neediest_other : neediest_child need y u ≢ u → Neediest need y u (neediest_child need y u)
  neediest_other d = go none_or_best
    where
      go : (needy need y u ≡ []) ⊎ Best need p (size y) (neediest_child need y u) → Neediest need y u (neediest_child need y u)
      go (inl e) = absurd (d (sym (neediest_none (none_needy need y u e))))
      go (inr b) = best_neediest b

  -- and whatever is so is the choice
  pub neediest_is : {r : ℕ} → Neediest need y u r → r ≡ neediest_child need y u
  neediest_is n = best_same (neediest_best n) (neediest_best (neediest_some _ n.needy))

pub neediest_sound : Sound neediest_child
neediest_sound need y u c k = (neediest_some need y u c k).needy

pub choice_sound : Sound choice
unfolding choice
choice_sound = neediest_sound

pub choice_none : (need : ℕ → ℕ) (y : Yard) (u : ℕ) → ((v : ℕ) → Child y.parents u v → need v ≡ 0) → u ≡ choice need y u
unfolding choice
choice_none = neediest_none

-- request 2.10's side of a turn, by what the choice answers: it is u itself exactly if no child lacks a pebble
pub fills_choice : (y : Yard) (u : ℕ) → fills y u ≡ ((held y u) && (not (eqb (choice (lacking y) y u) u)))
unfolding fills
fills_choice y u = ap (λ (b : Bool). (held y u) && b) (go (needy (lacking y) y u) refl)
  where
    go : (vs : List ℕ) → needy (lacking y) y u ≡ vs → nonempty vs ≡ not (eqb (choice (lacking y) y u) u)
    go [] e = rw (eq-eqb (choice (lacking y) y u) u (sym (choice_none (lacking y) y u (none_needy (lacking y) y u e))))
    go (v ∷ vs) e =
        let k = choice_sound (lacking y) y u v (subst (All (Needy (lacking y) y u)) e (all_needy (lacking y) y u)).0 in
        rw (ne_eqb (choice (lacking y) y u) u k.0.other)

-- Choice and side read of a yard only its parents, what the children of u need, and whether u holds a pebble: yards that agree in these go alike.
module _ (f g : ℕ → ℕ) (y z : Yard) (u : ℕ) (e : y.parents ≡ z.parents) (h : (c : ℕ) → Child y.parents u c → f c ≡ g c) where
  pub needy_same : needy f y u ≡ needy g z u
  unfolding needy
  needy_same = rw (← e) (below_cong (size y) (wanted f y u) (wanted g y u) (λ v l. go v l (is_child y.parents u v) refl))
    where
      go : (v : ℕ) → v < size y → (b : Bool) → is_child y.parents u v ≡ b → (b && (ltb 0 (f v))) ≡ (b && (ltb 0 (g v)))
      go v l true k = rw (h v (is_child_law y.parents u v l k))
      go v l false k = refl

  pub choice_same : choice f y u ≡ choice g z u
  unfolding choice neediest_child
  choice_same = rw (← needy_same, choice, neediest_child) (go (needy f y u) (all_needy f y u))
    where
      go : (vs : List ℕ) → All (Needy f y u) vs → chosen f u vs ≡ chosen g u vs
      go [] a = refl
      go (v ∷ ws) a = greatest_same f g v ws (h v a.0.0) (all_map (Needy f y u) (λ w. f w ≡ g w) ws (λ w k. h w k.0) a.1)

pub fills_same : (y z : Yard) (u : ℕ) → y.parents ≡ z.parents → pebble y u ≡ pebble z u → ((c : ℕ) → Child y.parents u c → lacking y c ≡ lacking z c) → fills y u ≡ fills z u
unfolding fills
fills_same y z u e p h = rw (needy_same (lacking y) (lacking z) y z u e h, p)

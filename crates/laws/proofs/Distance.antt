-- Distances (request 2.7). An edge lies between a and b if the subtree beyond it holds just one of them. Each step of a walk crosses one edge, and from a
-- there is always a step that leaves one edge fewer between: so the distance is the number of edges between.
use mathlib.Core.Path.{◌≡◌, refl, sym, ap, ◌∙◌}
use mathlib.Core.Logic.{◌≢◌, ◌↔◌}
use mathlib.Core.Bool.{Bool, true, false, not, ◌||◌, or-true, and-eq-true_iff, false≢true}
use mathlib.Core.List.{List, [], ◌∷◌}
use Prim.Native.Nat.{ℕ, zero, suc, ◌+◌, ◌*◌, ◌≤◌, ◌<◌}
use native.Mathlib.Omega.{arith}
use native.Mathlib.Decide.{ℕ_discrete}
use lib.ListN.{length}
use lib.Dec.{eqb}
use borrow.Author.Tests.{eqb-true, eqb-false, eq-eqb, ne_eqb, not-true}
use Rattle.model.specs.Yard.{Yard, size, up, parent, one, sum, root, inside}
use Rattle.model.specs.Judge.{Tree}
use Rattle.model.specs.Push.{adjacent}
use Rattle.model.specs.Distance.{any_of, neighbours, reaches, distance, Walk, here, on}
use Rattle.laws.proofs.Basics.{All, all_below, below_all, not_so, one_le}
use Rattle.laws.proofs.Sums.{sum_cong, sum_add, sum_zero, sum_pick, sum_le}
use Rattle.laws.proofs.Found.{found}
use Rattle.laws.proofs.Climb.{inside_step}
use Rattle.laws.proofs.Trees.{Wood, inside_self, parent_outside, child_off_root}
use Rattle.laws.proofs.Judged.{wood}
use Rattle.laws.proofs.Demands.{inside_child}

-- just one of two
abbrev pub differ : Bool → Bool → Bool
differ true b = not b
differ false b = b

-- the number of edges between a and b
unfoldable pub between : List ℕ → ℕ → ℕ → ℕ
between ps a b = sum (length ps) (λ v. one (differ (inside ps v a) (inside ps v b)))

differ_self : (a : Bool) → one (differ a a) ≡ 0
differ_self true = refl
differ_self false = refl

differ_sym : (a b : Bool) → differ a b ≡ differ b a
differ_sym true true = refl
differ_sym true false = refl
differ_sym false true = refl
differ_sym false false = refl

between_self : (ps : List ℕ) (a : ℕ) → between ps a a ≡ 0
unfolding between
between_self ps a = sum_zero (length ps) _ (λ v _. differ_self (inside ps v a))

between_sym : (ps : List ℕ) (a b : ℕ) → between ps a b ≡ between ps b a
unfolding between
between_sym ps a b = sum_cong (length ps) _ _ (λ v _. ap one (differ_sym (inside ps v a) (inside ps v b)))

module _ {ps : List ℕ} {r : ℕ} (f : Wood ps r) where
  -- the root's subtree holds both, so there are fewer than n
  between_lt : (a b : ℕ) → a < length ps → b < length ps → between ps a b < length ps
  unfolding between
  between_lt a b la lb = omega (
    arith,
    sum_le (length ps) (λ v. one (differ (inside ps v a) (inside ps v b)) + one (eqb v r) * 1) (λ v. go v (ℕ_discrete v r)),
    sum_add (length ps) (λ v. one (differ (inside ps v a) (inside ps v b))) (λ v. one (eqb v r) * 1),
    sum_pick (length ps) r (λ _. 1) f.root_lt,
  )
    where
      go : (v : ℕ) → Dec (v ≡ r) → one (differ (inside ps v a) (inside ps v b)) + one (eqb v r) * 1 ≤ 1
      go v (yes e) = rw (e, f.to_root a la, f.to_root b lb, eq-eqb r r refl) (omega arith)
      go v (no d) = rw (ne_eqb v r d) (omega (arith, one_le (differ (inside ps v a) (inside ps v b))))

  -- w and its parent lie in the same subtrees, but for that of w
  between_parent : (a w : ℕ) → w < length ps → w ≢ r → between ps a w + one (inside ps w a) ≡ between ps a (up ps w) + one (not (inside ps w a))
  unfolding between
  between_parent a w l d = side w (λ v. inside ps v a) ∙ sum_cong (length ps) _ _ (λ v _. each v (ℕ_discrete v w)) ∙ sym (side (up ps w) (λ v. not (inside ps v a)))
    where
      side : (u : ℕ) (t : ℕ → Bool) → sum (length ps) (λ v. one (differ (inside ps v a) (inside ps v u))) + one (t w) ≡ sum (length ps) (λ v. one (differ (inside ps v a) (inside ps v u)) + one (eqb v w) * one (t v))
      side u t = omega (arith, sum_pick (length ps) w (λ v. one (t v)) l, sum_add (length ps) (λ v. one (differ (inside ps v a) (inside ps v u))) (λ v. one (eqb v w) * one (t v)))

      swap : (b : Bool) → one (differ b true) + 1 * one b ≡ one (differ b false) + 1 * one (not b)
      swap true = refl
      swap false = refl

      each : (v : ℕ) → Dec (v ≡ w) → one (differ (inside ps v a) (inside ps v w)) + one (eqb v w) * one (inside ps v a) ≡ one (differ (inside ps v a) (inside ps v (up ps w))) + one (eqb v w) * one (not (inside ps v a))
      each v (yes e) = rw (e, eq-eqb w w refl, inside_self f w, parent_outside f w l d) (swap (inside ps w a))
      each v (no n) = rw (ne_eqb v w n, ap (λ (b : Bool). differ (inside ps v a) b) (same v n)) (omega arith)
        where
          same : (v : ℕ) → v ≢ w → inside ps v w ≡ inside ps v (up ps w)
          same v n = inside_step ps f.parent_lt v w l ∙ rw (ne_eqb w v (λ s. n (sym s)))

-- any_of
module _ (q : ℕ → Bool) where
  any_some : (Q : ℕ → Type 0) (xs : List ℕ) → All Q xs → any_of q xs ≡ true → (c : ℕ) × Q c × (q c ≡ true)
  unfolding any_of
  any_some Q [] a e = absurd (false≢true e)
  any_some Q (x ∷ xs) a e = go (q x) refl e (any_some Q xs a.1)
    where
      go : (b : Bool) → q x ≡ b → (b || any_of q xs) ≡ true → (any_of q xs ≡ true → (c : ℕ) × Q c × (q c ≡ true)) → (c : ℕ) × Q c × (q c ≡ true)
      go true h e ih = (x, a.0, h)
      go false h e ih = ih e

  any_none : (xs : List ℕ) → any_of q xs ≡ false → All (λ x. q x ≡ false) xs
  unfolding any_of
  any_none [] e = tt
  any_none (x ∷ xs) e = go (q x) refl e (any_none xs)
    where
      go : (b : Bool) → q x ≡ b → (b || any_of q xs) ≡ false → (any_of q xs ≡ false → All (λ x. q x ≡ false) xs) → (q x ≡ false) × All (λ x. q x ≡ false) xs
      go true h e ih = absurd (false≢true (sym e))
      go false h e ih = (h, ih e)

-- reaches: a walk of at most k steps
reaches_walk : (y : Yard) (b k a : ℕ) → reaches k y a b ≡ true → (cs : List ℕ) × Walk y a cs b × (length cs ≤ k)
unfolding reaches
reaches_walk y b zero a e = ([], rw (eqb-true a b e) here, omega arith)
reaches_walk y b (suc k) a e = go (eqb a b) refl e (reaches_walk y b k)
  where
    go : (t : Bool) → eqb a b ≡ t → (t || any_of (λ c. reaches k y c b) (neighbours y a)) ≡ true → ((c : ℕ) → reaches k y c b ≡ true → (cs : List ℕ) × Walk y c cs b × (length cs ≤ k))
        → (cs : List ℕ) × Walk y a cs b × (length cs ≤ suc k)
    go true h e ih = ([], rw (eqb-true a b h) here, omega arith)
    go false h e ih =
        let n = any_some (λ c. reaches k y c b) (λ c. (c < size y) × (adjacent y a c ≡ true)) (neighbours y a) (all_below (λ c. (c < size y) × (adjacent y a c ≡ true)) (adjacent y a) (size y) (λ c l j. (l, j))) e in
        let w = ih n.0 n.2 in
        (n.0 ∷ w.0, on n.1.0 n.1.1 w.1, omega (arith, w.2))

walk_reaches : {y : Yard} {a b : ℕ} {cs : List ℕ} → Walk y a cs b → (k : ℕ) → length cs ≤ k → reaches k y a b ≡ true
unfolding reaches
walk_reaches (here {a = a}) zero l = eq-eqb a a refl
walk_reaches (here {a = a}) (suc k) l = rw (eq-eqb a a refl)
walk_reaches (on {c = c} m j w) zero l = absurd (omega arith)
walk_reaches {y} {b = b} (on {a = a} {c = c} m j w) (suc k) l = rw (met (walk_reaches w k (omega arith))) (or-true (eqb a b))
  where
    met : reaches k y c b ≡ true → any_of (λ c. reaches k y c b) (neighbours y a) ≡ true
    met r = not_false' (any_of (λ c. reaches k y c b) (neighbours y a)) (λ e. false≢true (sym (below_all (λ c. reaches k y c b ≡ false) (adjacent y a) (size y) (any_none (λ c. reaches k y c b) (neighbours y a) e) c m j) ∙ r))
      where
        not_false' : (t : Bool) → (t ≡ false → ⊥) → t ≡ true
        not_false' true h = refl
        not_false' false h = absurd (h refl)

-- two adjacent nodes
module _ (y : Yard) (t : Tree y) where
  w : Wood y.parents (root y)
  w = wood y t

  abbrev gap : ℕ → ℕ → ℕ
  gap a b = between y.parents a b

  near_le : (b a c : ℕ) → a < size y → c < size y → adjacent y a c ≡ true → gap b a ≤ suc (gap b c)
  near_le b a c la lc j = go (eqb (parent y a) c) refl h.1
    where
      h : (not (eqb a c) ≡ true) × (((eqb (parent y a) c) || (eqb (parent y c) a)) ≡ true)
      h = (and-eq-true_iff (not (eqb a c)) ((eqb (parent y a) c) || (eqb (parent y c) a))).0 j

      apart : a ≢ c
      apart = eqb-false a c (not-true (eqb a c) h.0)

      stuck : (v : ℕ) → v ≡ root y → parent y v ≡ v
      stuck v e = ap (parent y) e ∙ w.root_parent ∙ sym e

      go : (x : Bool) → eqb (parent y a) c ≡ x → (x || (eqb (parent y c) a)) ≡ true → gap b a ≤ suc (gap b c)
      go true q _ =
          let e : parent y a ≡ c = eqb-true (parent y a) c q in
          omega (arith, rw e at (between_parent w b a la (λ x. apart (sym (stuck a x) ∙ e))), one_le (not (inside y.parents a b)))
      go false _ q =
          let e : parent y c ≡ a = eqb-true (parent y c) a q in
          omega (arith, rw e at (between_parent w b c lc (λ x. apart (sym e ∙ stuck c x))), one_le (inside y.parents c b))

  -- no walk has fewer steps than there are edges between its ends
  walk_le : {a b : ℕ} {cs : List ℕ} → a < size y → Walk y a cs b → gap b a ≤ length cs
  walk_le la (here {a = a}) = omega (arith, between_self y.parents a)
  walk_le {b = b} la (on {a = a} {c = c} m j k) = omega (arith, near_le b a c la m j, walk_le m k)

  -- from a node other than b a step leaves one edge fewer
  closer : (b a : ℕ) → b < size y → a < size y → a ≢ b → (c : ℕ) × (c < size y) × (adjacent y a c ≡ true) × (gap b a ≡ suc (gap b c))
  closer b a lb la d = go (inside y.parents a b) refl
    where
      go : (x : Bool) → inside y.parents a b ≡ x → (c : ℕ) × (c < size y) × (adjacent y a c ≡ true) × (gap b a ≡ suc (gap b c))
      go true i =
          let h = inside_child w a b lb i (λ e. d (sym e)) in
          let c = h.0 in (
            c,
            h.1.lt,
            rw (ne_eqb a c (λ e. h.1.other (sym e)), eq-eqb (parent y c) a h.1.up) (or-true (eqb (parent y a) c)),
            omega (arith, rw (h.1.up, h.2) at (between_parent w b c h.1.lt (child_off_root w a c h.1))),
          )
      go false i =
          let off : a ≢ root y = λ e. false≢true (sym i ∙ ap (λ (v : ℕ). inside y.parents v b) e ∙ w.to_root b lb) in (
            parent y a,
            w.parent_lt a la,
            rw (ne_eqb a (parent y a) (λ e. off (w.root_only a la (sym e))), eq-eqb (parent y a) (parent y a) refl),
            omega (arith, rw i at (between_parent w b a la off)),
          )

  walked : (b k a : ℕ) → b < size y → a < size y → gap b a ≡ k → (cs : List ℕ) × Walk y a cs b × (length cs ≡ k)
  walked b zero a lb la e = go (ℕ_discrete a b)
    where
      go : Dec (a ≡ b) → (cs : List ℕ) × Walk y a cs b × (length cs ≡ 0)
      go (yes q) = ([], rw q here, refl)
      go (no d) = absurd (omega (arith, (closer b a lb la d).3))
  walked b (suc k) a lb la e = go (ℕ_discrete a b) (walked b k)
    where
      go : Dec (a ≡ b) → ((c : ℕ) → b < size y → c < size y → gap b c ≡ k → (cs : List ℕ) × Walk y c cs b × (length cs ≡ k)) → (cs : List ℕ) × Walk y a cs b × (length cs ≡ suc k)
      go (yes q) ih = absurd (omega (arith, ap (gap b) q, between_self y.parents b))
      go (no d) ih =
          let c = closer b a lb la d in
          let r = ih c.0 lb c.1 (omega (arith, c.3)) in
          (c.0 ∷ r.0, on c.1 c.2 r.1, omega (arith, r.2))

  -- the distance is the number of edges between
  pub distance_gap : (a b : ℕ) → a < size y → b < size y → distance y a b ≡ between y.parents b a
  unfolding distance
  distance_gap a b la lb = sym (found (size y) (size y) (gap b a) (λ k. reaches k y a b) (between_lt w b a lb la) early (walk_reaches r.1 (gap b a) (omega (arith, r.2))))
    where
      r : (cs : List ℕ) × Walk y a cs b × (length cs ≡ gap b a)
      r = walked b (gap b a) a lb la refl

      early : (k : ℕ) → k < gap b a → reaches k y a b ≡ false
      early k l = not_so (reaches k y a b) (λ e. let m = reaches_walk y b k a e in omega (arith, m.2, walk_le la m.1))

  -- 'measured in tracks along the rails': some walk has as many steps as the distance, and none has fewer
  pub distance_walk : (a b : ℕ) → a < size y → b < size y → (cs : List ℕ) × Walk y a cs b × (length cs ≡ distance y a b)
  distance_walk a b la lb = let r = walked b (gap b a) a lb la refl in (r.0, r.1, r.2 ∙ sym (distance_gap a b la lb))

  pub distance_least : (a b : ℕ) → a < size y → b < size y → (cs : List ℕ) → Walk y a cs b → distance y a b ≤ length cs
  distance_least a b la lb cs k = omega (arith, distance_gap a b la lb, walk_le la k)

  pub distance_lt : (a b : ℕ) → a < size y → b < size y → distance y a b < size y
  distance_lt a b la lb = omega (arith, distance_gap a b la lb, between_lt w b a lb la)

  pub distance_sym : (a b : ℕ) → a < size y → b < size y → distance y a b ≡ distance y b a
  distance_sym a b la lb = distance_gap a b la lb ∙ between_sym y.parents b a ∙ sym (distance_gap b a lb la)

  pub distance_zero : (a b : ℕ) → a < size y → b < size y → (distance y a b ≡ 0) ↔ (a ≡ b)
  distance_zero a b la lb = (to, λ e. distance_gap a b la lb ∙ ap (gap b) e ∙ between_self y.parents b)
    where
      to : distance y a b ≡ 0 → a ≡ b
      to e = go (walked b (gap b a) a lb la refl)
        where
          ends : {a b : ℕ} {cs : List ℕ} → Walk y a cs b → length cs ≡ 0 → a ≡ b
          ends here _ = refl
          ends (on m j k) e = absurd (omega arith)

          go : (cs : List ℕ) × Walk y a cs b × (length cs ≡ gap b a) → a ≡ b
          go r = ends r.1 (omega (arith, r.2, distance_gap a b la lb))

  pub distance_self : (a : ℕ) → a < size y → distance y a a ≡ 0
  distance_self a la = (distance_zero a a la la).1 refl

  -- the laws of an algorithm in one pass: along the climb from a to the root the distances rise by one
  module _ (a : ℕ) (la : a < size y) where
    pub distance_climb : (v : ℕ) → v < size y → v ≢ root y → inside y.parents v a ≡ true → distance y a (parent y v) ≡ suc (distance y a v)
    distance_climb v l d i = omega (
      arith,
      between_sym y.parents a v,
      between_sym y.parents a (parent y v),
      distance_gap a v la l,
      distance_gap a (parent y v) la (w.parent_lt v l),
      rw i at (between_parent w a v l d),
    )

    -- and a node off that climb is one further away than its parent
    pub distance_off : (v : ℕ) → v < size y → inside y.parents v a ≡ false → distance y a v ≡ suc (distance y a (parent y v))
    distance_off v l i = omega (
      arith,
      between_sym y.parents a v,
      between_sym y.parents a (parent y v),
      distance_gap a v la l,
      distance_gap a (parent y v) la (w.parent_lt v l),
      rw i at (between_parent w a v l (λ e. false≢true (sym i ∙ ap (λ (u : ℕ). inside y.parents u a) e ∙ w.to_root a la))),
    )

-- The nearest pebble and the pebbles in reach (request 2.7): what is nearest is found by going to nearer pebbles while there are any, and its
-- distance is the least reach that has a pebble in it.
use mathlib.Core.Path.{◌≡◌, refl, sym, ap, ◌∙◌, subst}
use mathlib.Core.Logic.{◌≢◌, ◌↔◌}
use mathlib.Core.Bool.{Bool, true, false, ◌&&◌, and-eq-true_iff, false≢true}
use mathlib.Core.List.{List, [], ◌∷◌}
use mathlib.Core.Option.{none, some}
use Prim.Native.Nat.{ℕ, zero, suc, ◌≤◌, ◌<◌}
use native.Mathlib.Omega.{arith}
use native.Mathlib.Decide.{dec_lt}
use lib.ListN.{length, get_or}
use lib.Dec.{leb, ltb, eqb}
use borrow.Author.Tests.{ltb-true, ltb-false, leb-true, lt-ltb, le-ltb, le-leb, lt-leb, eqb-true, eq-eqb, ne_eqb}
use Rattle.model.specs.Yard.{Yard, size, pebble, held, one, sum, lowest, pebbleCount}
use Rattle.model.specs.Judge.{Fault, fault, judge, Tree}
use Rattle.model.specs.Calls.Answers.{answered}
use Rattle.model.specs.Distance.{distance}
use Rattle.model.specs.Calls.Distances.{is_nearer, nearer_than, nearest, Nearest, nearestOf, nearest_tests, nearest_fault, nearest_answer, inReach, reach_fault, reach_list, reach_count}
use Rattle.laws.specs.Nearest.{IsNearest}
use Rattle.laws.proofs.Basics.{not_so, All, all_below, none_below, below_none, none_all, all_none, unless_none}
use Rattle.laws.proofs.Sums.{sum_cong, sum_zero, sum_some, sum_term}
use Rattle.laws.proofs.Found.{lowest_is, lowest_none}
use Rattle.laws.proofs.Calls.{answer_answered}
use Rattle.laws.proofs.Ranges.{get_d_listed}

-- the tests one by one
module _ (y : Yard) (a : ℕ) where
  pub nearest_judge : (f : Fault) → judge y ≡ some f → some f ≡ nearest_fault y a
  unfolding nearest_fault
  nearest_judge f j = rw j

  pub nearest_node : Tree y → size y ≤ a → fault 19 0 ≡ nearest_fault y a
  unfolding nearest_fault
  nearest_node t m = rw (t, le-ltb a (size y) m)

module _ (y : Yard) (list : List ℕ) (a : ℕ) where
  pub reach_judge : (f : Fault) → judge y ≡ some f → some f ≡ reach_fault y list a
  unfolding reach_fault
  reach_judge f j = rw j

  module _ (t : Tree y) where
    pub reach_length : length list ≢ size y → fault 2 0 ≡ reach_fault y list a
    unfolding reach_fault
    reach_length d = rw (t, ne_eqb (length list) (size y) d)

    module _ (k : length list ≡ size y) where
      pub reach_node : size y ≤ a → fault 19 0 ≡ reach_fault y list a
      unfolding reach_fault
      reach_node m = rw (t, eq-eqb (length list) (size y) k, le-ltb a (size y) m)

      pub reach_accepted : a < size y → none ≡ reach_fault y list a
      unfolding reach_fault
      reach_accepted l = rw (t, eq-eqb (length list) (size y) k, lt-ltb a (size y) l)

-- the lowest number that passes a test, if one does
lowest_of : (n m : ℕ) (p : ℕ → Bool) → m < n → p m ≡ true → (lowest n p < n) × (p (lowest n p) ≡ true) × ((v : ℕ) → v < lowest n p → p v ≡ false)
lowest_of n m p l e = lowest_is n n (lowest n p) p refl (λ q. false≢true (sym (below_none n p (lowest_none n p (lowest n p) refl (omega (arith, q))) m l) ∙ e))

abbrev at : ℕ → ℕ → Nearest
at v d = record { node = v; distance = d }

-- there is only one
pub nearest_only : (y : Yard) (a : ℕ) (r s : Nearest) → IsNearest y a r → IsNearest y a s → r ≡ s
nearest_only y a r s h k =
    let d : r.distance ≡ s.distance = omega (arith, h.far, k.far, h.least s.node k.node_lt k.holds, k.least r.node h.node_lt h.holds) in
    let v : r.node ≡ s.node = omega (arith, h.lowest s.node k.node_lt k.holds (sym k.far ∙ sym d), k.lowest r.node h.node_lt h.holds (sym h.far ∙ d)) in
    ap (λ (x : ℕ). at x r.distance) v ∙ ap (at s.node) d

module _ (y : Yard) (a : ℕ) where
  holder : 0 < pebbleCount y → (v : ℕ) × (v < size y) × (held y v ≡ true)
  holder h = let r = sum_some (size y) (pebble y) h in (r.0, r.1, lt-ltb 0 (pebble y r.0) r.2)

  held_count : (v : ℕ) → v < size y → held y v ≡ true → 0 < pebbleCount y
  held_count v l h = omega (arith, ltb-true 0 (pebble y v) h, sum_term (size y) v (pebble y) l)

  -- a pebble that has none nearer
  abbrev first : ℕ → Bool
  first v = (held y v) && (eqb (length (nearer_than y a v)) 0)

  empty_is : (us : List ℕ) → eqb (length us) 0 ≡ true → us ≡ []
  empty_is [] e = refl
  empty_is (u ∷ us) e = absurd (omega (arith, eqb-true (length (u ∷ us)) 0 e))

  first_least : (v : ℕ) → first v ≡ true → (held y v ≡ true) × ((w : ℕ) → w < size y → held y w ≡ true → distance y a v ≤ distance y a w)
  first_least v e = let b = (and-eq-true_iff (held y v) (eqb (length (nearer_than y a v)) 0)).0 e in
      (b.0, λ w l h. ltb-false (distance y a w) (distance y a v) (tail (held y w) _ h (below_none (size y) (is_nearer y a v) (empty_is (nearer_than y a v) b.1) w l)))
    where
      tail : (b c : Bool) → b ≡ true → (b && c) ≡ false → c ≡ false
      tail true c h e = e
      tail false c h e = absurd (false≢true h)

  least_first : (v : ℕ) → held y v ≡ true → ((w : ℕ) → w < size y → held y w ≡ true → distance y a v ≤ distance y a w) → first v ≡ true
  least_first v h m = rw (h, none_below (size y) (is_nearer y a v) (λ w l. go w l (held y w) refl))
    where
      go : (w : ℕ) → w < size y → (b : Bool) → held y w ≡ b → (b && (ltb (distance y a w) (distance y a v))) ≡ false
      go w l true e = le-ltb (distance y a w) (distance y a v) (m w l e)
      go w l false e = refl

  -- from a pebble to nearer ones, while there are any
  some_first : (k v : ℕ) → v < size y → held y v ≡ true → distance y a v ≤ k → (m : ℕ) × (m < size y) × (first m ≡ true)
  some_first zero v l h d = (v, l, least_first v h (λ _ _ _. omega arith))
  some_first (suc k) v l h d = go (nearer_than y a v) refl (some_first k)
    where
      go : (us : List ℕ) → nearer_than y a v ≡ us → ((v : ℕ) → v < size y → held y v ≡ true → distance y a v ≤ k → (m : ℕ) × (m < size y) × (first m ≡ true)) → (m : ℕ) × (m < size y) × (first m ≡ true)
      go [] q ih = (v, l, rw (h, q))
      go (u ∷ us) q ih =
          let n : All (λ u. (u < size y) × (is_nearer y a v u ≡ true)) (u ∷ us) = rw q at (all_below (λ u. (u < size y) × (is_nearer y a v u ≡ true)) (is_nearer y a v) (size y) (λ u m e. (m, e))) in
          let b = (and-eq-true_iff (held y u) (ltb (distance y a u) (distance y a v))).0 n.0.1 in
          ih u n.0.0 b.0 (omega (arith, ltb-true (distance y a u) (distance y a v) b.1))

  first_nearest : (v : ℕ) → (v < size y) × (first v ≡ true) × ((u : ℕ) → u < v → first u ≡ false) → IsNearest y a (at v (distance y a v))
  first_nearest v f =
      let b = first_least v f.1 in
      record { node_lt = f.0; holds = b.0; far = refl; least = b.1; lowest = λ w l h e. go w l h e (dec_lt w v) }
    where
      go : (w : ℕ) → w < size y → held y w ≡ true → distance y a w ≡ distance y a v → Dec (w < v) → v ≤ w
      go w l h e (no m) = omega arith
      go w l h e (yes m) = absurd (false≢true (sym (f.2 w m) ∙ least_first w h (λ u k j. omega (arith, (first_least v f.1).1 u k j))))

  nearest_found : 0 < pebbleCount y → IsNearest y a (nearestOf y a)
  unfolding nearest
  nearest_found h =
      let v = holder h in
      let m = some_first (distance y a v.0) v.0 v.1 v.2 (omega arith) in
      first_nearest (lowest (size y) first) (lowest_of (size y) m.0 first m.1 m.2)

  -- the call answers it, to a tree with a pebble and a node of it
  pub nearest_none : (nearest_fault y a ≡ none) ↔ (Tree y × (a < size y) × (0 < pebbleCount y))
  unfolding nearest_fault
  nearest_none = (
    (λ e.
        let p = none_all (nearest_tests y a) e in
        (p.0, ltb-true a (size y) (unless_none (ltb a (size y)) 19 0 p.1.0), ltb-true 0 (pebbleCount y) (unless_none (ltb 0 (pebbleCount y)) 22 0 p.1.1.0))),
    λ h. all_none (nearest_tests y a) (h.0, (rw (lt-ltb a (size y) h.1), (rw (lt-ltb 0 (pebbleCount y) h.2), tt))),
  )

  pub nearest_is : (r : Nearest) → nearest_answer y a ≡ answered r → IsNearest y a r
  nearest_is r e =
      let b = answer_answered (nearest_fault y a) (nearestOf y a) r e in
      subst (IsNearest y a) b.1 (nearest_found (nearest_none.0 b.0).2)

  pub is_nearest : (r : Nearest) → Tree y → a < size y → IsNearest y a r → nearest_answer y a ≡ answered r
  is_nearest r t l h =
      let c = held_count r.node h.node_lt h.holds in
      rw (nearest_none.1 (t, l, c)) (ap answered (nearest_only y a (nearestOf y a) r (nearest_found c) h))

  -- 22 exactly if the yard holds no pebble
  pub nearest_empty : Tree y → a < size y → (nearest_fault y a ≡ fault 22 0) ↔ ((v : ℕ) → v < size y → held y v ≡ false)
  unfolding nearest_fault
  nearest_empty t l = (
    (λ e v m. not_so (held y v) (λ h. let z : ◌≡◌ {A = ℕ} 0 1 = cc (nearest_none.1 (t, l, held_count v m h)) in omega arith)),
    λ h. rw (t, lt-ltb a (size y) l, le-ltb 0 (pebbleCount y) (none h)),
  )
    where
      none : ((v : ℕ) → v < size y → held y v ≡ false) → pebbleCount y ≤ 0
      none h = omega (arith, sum_zero (size y) (pebble y) (λ v m. omega (arith, ltb-false 0 (pebble y v) (h v m))))

  -- its distance is the least reach with a count above 0
  pub least_reach : (r : Nearest) → nearest_answer y a ≡ answered r → (reach : ℕ) → (0 < reach_count y a reach) ↔ (r.distance ≤ reach)
  unfolding inReach
  least_reach r e reach = (
    (λ h.
        let v = sum_some (size y) (λ v. one (inReach y a reach v)) h in
        let b = (and-eq-true_iff (held y v.0) (leb (distance y a v.0) reach)).0 (one_true (inReach y a reach v.0) v.2) in
        omega (arith, k.least v.0 v.1 b.0, leb-true (distance y a v.0) reach b.1)),
    λ h. omega (arith, sum_term (size y) r.node (λ v. one (inReach y a reach v)) k.node_lt, ap one (near h)),
  )
    where
      k : IsNearest y a r
      k = nearest_is r e

      one_true : (b : Bool) → 0 < one b → b ≡ true
      one_true true h = refl
      one_true false h = absurd (omega arith)

      near : r.distance ≤ reach → inReach y a reach r.node ≡ true
      near h = rw (k.holds, le-leb (distance y a r.node) reach (omega (arith, k.far)))

  -- no pebble inside the reach gives 0
  pub reach_none : (reach : ℕ) → ((v : ℕ) → v < size y → held y v ≡ true → reach < distance y a v) → reach_count y a reach ≡ 0
  unfolding inReach
  reach_none reach h = sum_zero (size y) _ (λ v l. go v l (held y v) refl)
    where
      go : (v : ℕ) → v < size y → (b : Bool) → held y v ≡ b → one (b && leb (distance y a v) reach) ≡ 0
      go v l true e = rw (lt-leb (distance y a v) reach (h v l e))
      go v l false e = refl

-- an entry of the reach call's list is 1 exactly if its node holds a pebble in reach, else 0; the answer is how many are 1
module _ (y : Yard) (list : List ℕ) (a reach : ℕ) (e : reach_fault y list a ≡ none) where
  pub reach_entry : (v : ℕ) → v < size y → get_or (reach_list y list a reach) v 0 ≡ one (inReach y a reach v)
  reach_entry v l = rw e (get_d_listed (λ v. one (inReach y a reach v)) 0 (size y) v l)

  pub reach_count_law : sum (size y) (λ v. get_or (reach_list y list a reach) v 0) ≡ reach_count y a reach
  reach_count_law = sum_cong (size y) _ _ (λ v l. reach_entry v l)

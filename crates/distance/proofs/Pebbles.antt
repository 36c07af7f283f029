-- The pebbles of a yard by their distances from a node: the nearest, the first within the least distance, and those within reach.
use mathlib.Core.Path.{◌≡◌, refl, sym, ap, ◌∙◌}
use mathlib.Core.Logic.{◌≢◌}
use mathlib.Core.Bool.{true, false, and-eq-true_iff, false≢true}
use mathlib.Core.List.{List, [], ◌∷◌, map}
use mathlib.Core.Option.{Option, none, some}
use Prim.Native.Nat.{ℕ, ◌+◌, min, ◌≤◌, ◌<◌}
use native.Mathlib.Numerals.{add-one}
use native.Mathlib.Omega.{arith}
use native.Mathlib.Decide.{ℕ_discrete, dec_lt}
use lib.ListN.{length, get_or, set, replicate, length-set, length-replicate, get_or-replicate}
use lib.Seq.{get_or-set_same, get_or-set_other}
use lib.Dec.{leb, ltb}
use borrow.Author.Tests.{ltb-true, leb-true, lt-ltb, le-ltb, le-leb}
use Rattle.std.proofs.Common.{Option as Found, Some, None}
use Rattle.std.specs.Option.{unwrap_or, IsSome}
use Rattle.model.specs.Yard.{Yard, size, held, one, sum, below, head_or, pebbleCount, pebble}
use Rattle.model.specs.Judge.{Fault, fault, first_of, Tree}
use Rattle.model.specs.Calls.Answers.{answered, answer, range}
use Rattle.model.specs.Distance.{distance}
use Rattle.model.specs.Calls.Distances.{nearestOf, nearest_fault, nearest_answer, empty_fault, inReach, reach_count}
use Rattle.laws.proofs.Basics.{below_none}
use Rattle.laws.proofs.Found.{lowest_is, lowest_none}
use Rattle.laws.proofs.Sums.{sum_zero}
use Rattle.laws.proofs.Ranges.{listed}
use Rattle.laws.proofs.Judged.{facts}
use Rattle.laws.proofs.Distance.{distance_lt}
use Rattle.laws.proofs.Nearest.{is_nearest}
use Rattle.distance.specs.Far.{unknown, Unknown, Distances, Asked, Least, is_within, nearest_or_none}

-- nothing is known at first
abbrev pub blanks : List ℕ
blanks = replicate 256 256

pub blank : Unknown blanks
blank v l = get_or-replicate 256 v 256 0 (omega (arith, length-replicate {A = ℕ} 256 256))

-- where the yard is accepted and the node is one, its distances are known
pub asked : {y : Yard} {a : ℕ} {pebbles far : List ℕ}
    → Tree y → a < size y → y.pebbles ≡ pebbles → (Tree y → a < size y → Distances y a far) → Asked y a pebbles far
asked t l p d = record { tree = t; node = l; counts = p; distances = d t l }

-- past refusals 1 to 6 and 19
pub nearest_rest : (y : Yard) (a : ℕ) → Tree y → a < size y → nearest_answer y a ≡ nearest_or_none y a
unfolding nearest_fault
nearest_rest y a t l = rw (t, lt-ltb a (size y) l) (go (empty_fault y))
  where
    go : (f : Option Fault) → answer (first_of (f ∷ [])) (nearestOf y a) ≡ answer f (nearestOf y a)
    go none = refl
    go (some f) = refl

-- the least distance so far, none seen
pub least_start : {pebbles far : List ℕ} → Least pebbles far 0 unknown
least_start = record { few = omega arith; least = λ v l. absurd (omega arith); met = λ d. absurd (d refl) }

-- and one node more
pub least_next : {pebbles far : List ℕ} {v r c : ℕ} → Least pebbles far v r
    → (0 < get_or pebbles v 0 → c ≡ get_or far v 0) → (get_or pebbles v 0 ≡ 0 → c ≡ unknown)
    → Least pebbles far (v + 1) (min r c)
least_next {pebbles} {far} {v} {r} {c} h p q = record {
  few = omega (arith, h.few);
  least = λ w l k. at w l k (ℕ_discrete w v);
  met = λ d. from d (dec_lt c r) (dec_lt 0 (get_or pebbles v 0));
}
  where
    at : (w : ℕ) → w < v + 1 → 0 < get_or pebbles w 0 → Dec (w ≡ v) → min r c ≤ get_or far w 0
    at w l k (yes e) = rw e (omega (arith, p (rw (sym e) k)))
    at w l k (no e) = omega (arith, h.least w (omega arith) k)

    from : min r c ≢ unknown → Dec (c < r) → Dec (0 < get_or pebbles v 0)
        → (w : ℕ) × (w < v + 1) × (0 < get_or pebbles w 0) × (get_or far w 0 ≡ min r c)
    from d (yes l) (yes k) = (v, omega arith, k, omega (arith, p k))
    from d (yes l) (no k) = absurd (omega (arith, d, l, q (omega arith), h.few))
    from d (no l) _ = let m = h.met (λ e. d (omega (arith, e))) in (m.0, omega (arith, m.1), m.2, omega (arith, m.3))

module _ {y : Yard} {a : ℕ} {pebbles far : List ℕ} (q : Asked y a pebbles far) where
  pub as_many : (length pebbles ≡ size y) × (size y ≤ 256)
  as_many = omega (arith, ap length q.counts, (facts y q.tree).pebbles_size, (facts y q.tree).few)

  pub held_is : (v : ℕ) → held y v ≡ ltb 0 (get_or pebbles v 0)
  held_is v = ap (λ (ps : List ℕ). ltb 0 (get_or ps v 0)) q.counts

  pub far_is : (v : ℕ) → v < size y → (get_or far v 0 ≡ distance y a v) × (get_or far v 0 < 256)
  far_is v l = (q.distances v l, omega (arith, q.distances v l, distance_lt y q.tree a v q.node l, as_many))

  -- the least distance of a pebble
  module _ {r : ℕ} (h : Least pebbles far (length pebbles) r) where
    pub least_none : r ≡ unknown → empty_fault y ≡ fault 22 0
    least_none p = rw (le-ltb 0 (pebbleCount y) (omega (arith, sum_zero (size y) (pebble y) (λ v l. zero_if v l (dec_lt 0 (pebble y v))))))
      where
        zero_if : (v : ℕ) → v < size y → Dec (0 < pebble y v) → pebble y v ≡ 0
        zero_if v l (yes k) = absurd (omega (arith, p, h.least v (omega (arith, as_many)) (ltb-true 0 (get_or pebbles v 0) (sym (held_is v) ∙ lt-ltb 0 (pebble y v) k)), (far_is v l).1))
        zero_if v l (no k) = omega arith

    -- and the first pebble within that
    module _ (d : r ≢ unknown) where
      within : (v : ℕ) → held y v ≡ true → get_or far v 0 ≤ r → is_within pebbles far r v ≡ true
      within v k m = rw (sym (held_is v) ∙ k, le-leb (get_or far v 0) r m) refl

      -- there is one
      pub is_one : (found : Found ℕ) → ((k : ℕ) → unwrap_or found k ≡ head_or k (below (length pebbles) (is_within pebbles far r))) → IsSome found
      is_one (Some at) e = refl
      is_one None e =
          let m = h.met d in
          let none = below_none (length pebbles) (is_within pebbles far r) (lowest_none (length pebbles) (is_within pebbles far r) (length pebbles) (e (length pebbles)) (omega arith)) m.0 m.1 in
          absurd (false≢true (sym none ∙ within m.0 (held_is m.0 ∙ lt-ltb 0 (get_or pebbles m.0 0) m.2) (omega (arith, m.3))))

      pub least_first : {at : ℕ} → ((k : ℕ) → at ≡ head_or k (below (length pebbles) (is_within pebbles far r)))
          → answered (record { node = at; distance = r }) ≡ nearest_or_none y a
      least_first {at} e =
          let n = lowest_is (length pebbles) (at + 1) at (is_within pebbles far r) (e (at + 1)) (λ p. omega (arith, p)) in
          let m = (and-eq-true_iff (ltb 0 (get_or pebbles at 0)) (leb (get_or far at 0) r)).0 n.1 in
          let l : at < size y = omega (arith, n.0, as_many) in
          sym (is_nearest y a (record { node = at; distance = r }) q.tree q.node record {
            node_lt = l;
            holds = held_is at ∙ m.0;
            far = omega (arith, far_is at l, leb-true (get_or far at 0) r m.1, h.least at n.0 (ltb-true 0 (get_or pebbles at 0) m.0));
            least = λ w k p. omega (arith, far_is w k, h.least w (omega (arith, as_many)) (ltb-true 0 (get_or pebbles w 0) (sym (held_is w) ∙ p)));
            lowest = λ w k p f. low w k p f n.2 (dec_lt w at);
          }) ∙ nearest_rest y a q.tree q.node
        where
          low : (w : ℕ) → w < size y → held y w ≡ true → distance y a w ≡ r → ((v : ℕ) → v < at → is_within pebbles far r v ≡ false) → Dec (w < at) → at ≤ w
          low w k p f n (yes b) = absurd (false≢true (sym (n w b) ∙ within w p (omega (arith, f, far_is w k))))
          low w k p f n (no b) = omega arith

  -- the nodes below v are written, and counted
  pub record Reached (reach v : ℕ) (list : List ℕ) (count : ℕ) : Type 0 where
    pub long : length list ≡ size y
    pub entries : (w : ℕ) → w < v → get_or list w 0 ≡ one (inReach y a reach w)
    pub counted : count ≡ sum v (λ w. one (inReach y a reach w))

  module _ {reach : ℕ} where
    pub reach_none : {list : List ℕ} → length list ≡ size y → Reached reach 0 list 0
    unfolding sum
    reach_none e = record { long = e; entries = λ w l. absurd (omega arith); counted = refl }

    pub reach_next : {list : List ℕ} {v count mark : ℕ} → Reached reach v list count → v < size y → mark ≡ one (is_within pebbles far reach v)
        → Reached reach (v + 1) (set list v mark) (count + mark)
    unfolding sum inReach
    reach_next {list} {v} {count} {mark} r l e = record {
      long = length-set list v mark ∙ r.long;
      entries = λ w k. at w k (ℕ_discrete w v);
      counted = rw add-one (omega (arith, r.counted, is));
    }
      where
        is : mark ≡ one (inReach y a reach v)
        is = e ∙ rw (held_is v, ← (far_is v l).0) refl

        at : (w : ℕ) → w < v + 1 → Dec (w ≡ v) → get_or (set list v mark) w 0 ≡ one (inReach y a reach w)
        at w k (yes p) = rw p (get_or-set_same list v mark 0 (omega (arith, r.long)) ∙ is)
        at w k (no p) = get_or-set_other list v w mark 0 p ∙ r.entries w (omega arith)

    pub reach_all : {list : List ℕ} {v count : ℕ} → Reached reach v list count → v ≡ size y → (count ≡ reach_count y a reach) × (list ≡ map (λ w. one (inReach y a reach w)) (range 0 (size y)))
    reach_all {list} r e = (rw (← e) r.counted, listed (λ w. one (inReach y a reach w)) 0 (size y) list r.long (λ w l. r.entries w (omega (arith, e))))

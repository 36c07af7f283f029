-- The longest plans (request 2.2). No plan of n nodes has more than 8 * (n * n / 4) moves (Bounds), and the line of n nodes, each one's parent the node
-- before it, has just as many if the first half of its nodes is held and the last half are targets: beyond node t lie the smaller of t and n - t
-- pebbles too few. With k pebbles to a node all of that is k times as much, and a node may hold 8.
use mathlib.Core.Path.{◌≡◌, refl, sym, ap, ◌∙◌}
use mathlib.Core.Logic.{◌↔◌}
use mathlib.Core.Bool.{Bool, true, false, ◌||◌, or-true}
use mathlib.Core.List.{List, map}
use mathlib.Core.Option.{Option, none, some}
use Prim.Native.Nat.{ℕ, zero, suc, ◌+◌, ◌-◌, ◌*◌, ◌/◌, ◌≤◌, ◌<◌, min, max}
use native.Mathlib.Nat.{mul-sub, mul-le-mul_left, div-mul-le_self, lt-div-mul-add, div-eq_of_lt-le}
use native.Mathlib.Omega.{arith}
use native.Mathlib.Decide.{ℕ_discrete, dec_le}
use lib.ListN.{length}
use lib.Dec.{leb, ltb, eqb, leb-zero}
use borrow.Author.Tests.{leb-true, leb-false, ltb-true, ltb-false, lt-ltb, le-ltb, le-leb, lt-leb, eq-eqb, ne_eqb}
use Rattle.model.specs.Yard.{Yard, yard_of, size, max_size, max_depth, up, pebble, target, one, sum, below, root, climbs, inside, subtotal, pebbles_in, targets_in, imbalance, shortest, Matched}
use Rattle.model.specs.Judge.{Fault, at_lowest, shape_tests, Tree, matched_fault}
use Rattle.model.specs.Plan.{plan}
use Rattle.model.specs.Calls.Answers.{answered, answer, range}
use Rattle.model.specs.Calls.Plans.{plan_fault, plan_answer}
use Rattle.model.specs.Calls.Demands.{Length, length_of, bound_answer, longest}
use Rattle.laws.proofs.Basics.{none_below, none_all}
use Rattle.laws.proofs.Sums.{sum_cong, sum_add, sum_scale, sum_ones, sum_front}
use Rattle.laws.proofs.Trees.{Wood}
use Rattle.laws.proofs.Judged.{tree, wood, roots_wood, shape_wood}
use Rattle.laws.proofs.Demands.{root_subtotal}
use Rattle.laws.proofs.Ranges.{length_range, get_d_range}
use Rattle.laws.proofs.Calls.{answer_answered, plan_none, matched_tree}
use Rattle.laws.proofs.Demand3.{plan_length, plan_max}

-- the line of n nodes, and it with k pebbles at each of the first half of its nodes, and k targets at each of the last
pub line_parents : ℕ → List ℕ
line_parents n = map (λ v. v - 1) (range 0 n)

pub heaps : ℕ → ℕ → (ℕ → Bool) → List ℕ
heaps k n p = map (λ v. k * one (p v)) (range 0 n)

pub first : ℕ → ℕ → Bool
first n v = ltb v (n / 2)

pub last : ℕ → ℕ → Bool
last n v = leb (n - n / 2) v

abbrev pub all : ℕ → Bool
all v = true

abbrev pub line_yard : ℕ → ℕ → Yard
line_yard k n = yard_of (line_parents n) (heaps k n (first n)) (heaps k n (last n)) (heaps k n all)

half : (n : ℕ) → (2 * (n / 2) ≤ n) × (n ≤ 2 * (n / 2) + 1)
half n = omega (arith, div-mul-le_self n 2, lt-div-mul-add {a = n} {b = 2} (omega arith))

length_line : (n : ℕ) → length (line_parents n) ≡ n
unfolding line_parents
length_line n = length_range (λ v. v - 1) 0 n

length_heaps : (k n : ℕ) (p : ℕ → Bool) → length (heaps k n p) ≡ n
unfolding heaps
length_heaps k n p = length_range (λ v. k * one (p v)) 0 n

module _ (n : ℕ) where
  up_line : (v : ℕ) → v < n → up (line_parents n) v ≡ v - 1
  unfolding line_parents
  up_line v l = get_d_range (λ v. v - 1) 0 0 n v l ∙ omega arith

  heap : (k : ℕ) (p : ℕ → Bool) (v : ℕ) → v < n → up (heaps k n p) v ≡ k * one (p v)
  unfolding heaps
  heap k p v l = get_d_range (λ v. k * one (p v)) 0 0 n v l ∙ ap (λ (u : ℕ). k * one (p u)) (omega arith)

  -- climbing from v meets the nodes up to v, and none beyond
  climbs_not : (k v t : ℕ) → v < n → v < t → climbs k (line_parents n) v t ≡ false
  unfolding climbs
  climbs_not zero v t l h = ne_eqb v t (omega arith)
  climbs_not (suc k) v t l h = rw (ne_eqb v t (omega arith), up_line v l) (climbs_not k (v - 1) t (omega arith) (omega arith))

  climbs_to : (k v t : ℕ) → v < n → t ≤ v → v ≤ t + k → climbs k (line_parents n) v t ≡ true
  unfolding climbs
  climbs_to zero v t l h g = eq-eqb v t (omega arith)
  climbs_to (suc k) v t l h g = go (ℕ_discrete v t) (climbs_to k (v - 1) t (omega arith))
    where
      go : Dec (v ≡ t) → (t ≤ v - 1 → v - 1 ≤ t + k → climbs k (line_parents n) (v - 1) t ≡ true) → (eqb v t || climbs k (line_parents n) (up (line_parents n) v) t) ≡ true
      go (yes e) ih = rw (eq-eqb v t e)
      go (no d) ih = rw (up_line v l, ih (omega arith) (omega arith)) (or-true (eqb v t))

  inside_line : (t v : ℕ) → v < n → inside (line_parents n) t v ≡ leb t v
  unfolding inside
  inside_line t v l = rw (length_line n) (go (dec_le t v))
    where
      go : Dec (t ≤ v) → climbs n (line_parents n) v t ≡ leb t v
      go (yes h) = climbs_to n v t l h (omega arith) ∙ sym (le-leb t v h)
      go (no h) = climbs_not n v t l (omega arith) ∙ sym (lt-leb t v (omega arith))

  -- the marks beyond node t
  heaps_beyond : (k : ℕ) (p : ℕ → Bool) (t : ℕ) → subtotal (line_parents n) (λ v. up (heaps k n p) v) t ≡ k * sum n (λ v. one (leb t v) * one (p v))
  unfolding subtotal
  heaps_beyond k p t =
      rw (length_line n)
      (sum_cong n _ (λ v. k * (one (leb t v) * one (p v))) (λ v l. rw (inside_line t v l, heap k p v l) (omega arith)) ∙ sum_scale n k (λ v. one (leb t v) * one (p v)))

-- how many of the first n numbers are t or more and below h, and t or more and a or more
sum_first : (t h n : ℕ) → sum n (λ v. one (leb t v) * one (ltb v h)) ≡ min n h - t
unfolding sum
sum_first t h zero = omega arith
sum_first t h (suc n) = go (leb t n) (ltb n h) refl refl (sum_first t h n)
  where
    go : (b c : Bool) → leb t n ≡ b → ltb n h ≡ c → sum n (λ v. one (leb t v) * one (ltb v h)) ≡ min n h - t → sum n (λ v. one (leb t v) * one (ltb v h)) + one b * one c ≡ min (suc n) h - t
    go true true e f ih = omega (arith, leb-true t n e, ltb-true n h f)
    go true false e f ih = omega (arith, ltb-false n h f)
    go false c e f ih = omega (arith, leb-false t n e)

sum_last : (t a n : ℕ) → sum n (λ v. one (leb t v) * one (leb a v)) ≡ n - max t a
unfolding sum
sum_last t a zero = omega arith
sum_last t a (suc n) = go (leb t n) (leb a n) refl refl (sum_last t a n)
  where
    go : (b c : Bool) → leb t n ≡ b → leb a n ≡ c → sum n (λ v. one (leb t v) * one (leb a v)) ≡ n - max t a → sum n (λ v. one (leb t v) * one (leb a v)) + one b * one c ≡ suc n - max t a
    go true true e f ih = omega (arith, leb-true t n e, leb-true a n f)
    go true false e f ih = omega (arith, leb-false a n f)
    go false c e f ih = omega (arith, leb-false t n e)

sum_suc : (n : ℕ) (f : ℕ → ℕ) → sum (suc n) f ≡ sum n f + f n
unfolding sum
sum_suc n f = refl

-- the smaller of t and n - t, summed
abbrev ridge : ℕ → ℕ
ridge n = sum n (λ t. min t (n - t))

ridge_step : (n : ℕ) → ridge (suc (suc n)) ≡ ridge n + suc n
ridge_step n = omega (
  arith,
  sum_front (suc n) (λ t. min t (suc (suc n) - t)),
  sum_cong (suc n) (λ t. min (suc t) (suc (suc n) - suc t)) (λ t. 1 + min t (n - t)) (λ t l. omega arith),
  sum_add (suc n) (λ _. 1) (λ t. min t (n - t)),
  sum_ones (suc n),
  sum_suc n (λ t. min t (n - t)),
)

ridge_bounds : (n : ℕ) → (4 * ridge n ≤ n * n) × (n * n ≤ 4 * ridge n + 1)
unfolding sum
ridge_bounds zero = omega arith
ridge_bounds (suc zero) = omega arith
ridge_bounds (suc (suc n)) = omega (arith, ridge_step n, ridge_bounds n)

ridge_quarter : (n : ℕ) → ridge n ≡ n * n / 4
ridge_quarter n = sym (div-eq_of_lt-le {k = ridge n} 4 (omega (arith, ridge_bounds n)) (omega (arith, ridge_bounds n)))

module _ (k n : ℕ) where
  pebbles_beyond : (t : ℕ) → pebbles_in (line_yard k n) t ≡ k * (n / 2 - t)
  unfolding first
  pebbles_beyond t = heaps_beyond n k (first n) t ∙ ap (λ (x : ℕ). k * x) (omega (arith, sum_first t (n / 2) n, half n))

  targets_beyond : (t : ℕ) → targets_in (line_yard k n) t ≡ k * min (n - t) (n / 2)
  unfolding last
  targets_beyond t = heaps_beyond n k (last n) t ∙ ap (λ (x : ℕ). k * x) (sum_last t (n - n / 2) n ∙ omega (arith, half n))

  imbalance_line : (t : ℕ) → t < n → imbalance (line_yard k n) t ≡ k * min t (n - t)
  imbalance_line t l = rw (pebbles_beyond t, targets_beyond t) (go _ _ (omega (arith, half n)) (omega (arith, half n)))
    where
      go : (a b : ℕ) → b ≤ a → a - b ≡ min t (n - t) → (k * a - k * b) + (k * b - k * a) ≡ k * min t (n - t)
      go a b h e = rw (← e, mul-sub) (omega (arith, mul-le-mul_left k h))

  -- with k pebbles to a node
  pub shortest_line : shortest (line_yard k n) ≡ k * (n * n / 4)
  unfolding shortest
  shortest_line = rw (length_line n) (sum_cong n _ (λ t. k * min t (n - t)) imbalance_line ∙ sum_scale n k (λ t. min t (n - t)) ∙ ap (λ (x : ℕ). k * x) (ridge_quarter n))

-- the line has the root 0
module _ (n : ℕ) (l : 0 < n) where
  lt : {v : ℕ} → v < length (line_parents n) → v < n
  lt k = omega (arith, length_line n)

  wood_line : Wood (line_parents n) 0
  wood_line = record {
    parent_lt = λ v k. omega (arith, length_line n, up_line n v (lt k));
    root_lt = omega (arith, length_line n);
    root_parent = up_line n 0 l;
    root_only = λ v k e. omega (arith, up_line n v (lt k));
    to_root = λ v k. inside_line n 0 v (lt k) ∙ leb-zero v;
  }

-- and with nodes k deep, from 1 to 8, a yard with as many pebbles as targets
module _ (k n : ℕ) (d : (0 < k) × (k ≤ max_depth)) (l : 0 < n) (h : n ≤ max_size) where
  tree_line : Tree (line_yard k n)
  tree_line = tree (line_yard k n) (
    rw (length_line n, lt-ltb 0 n l, le-leb n max_size h),
    (
      rw (length_line n, length_heaps k n (first n), length_heaps k n (last n), length_heaps k n all, eq-eqb n n refl),
      (
        ap (at_lowest 26) (none_below (length (line_parents n)) _ (λ v m. rw (depth v m, lt-ltb 0 k d.0, le-leb k max_depth d.1))),
        (
          small (first n),
          (
            small (last n),
            (
              ap (at_lowest 4) (none_below (length (line_parents n)) _ (λ v m. lt-leb (length (line_parents n)) (up (line_parents n) v) ((wood_line n l).parent_lt v m))),
              none_all (shape_tests (line_yard k n)) (shape_wood (wood_line n l) (heaps k n (first n)) (heaps k n (last n)) (heaps k n all)),
            ),
          ),
        ),
      ),
    ),
  )
    where
      depth : (v : ℕ) → v < length (line_parents n) → up (heaps k n all) v ≡ k
      depth v m = heap n k all v (lt n l m) ∙ omega arith

      small : (p : ℕ → Bool) → at_lowest 27 (below (length (line_parents n)) (λ v. ltb (up (heaps k n all) v) (up (heaps k n p) v))) ≡ none
      small p = ap (at_lowest 27) (none_below (length (line_parents n)) _ (λ v m. rw (depth v m, heap n k p v (lt n l m)) (le-ltb k (k * one (p v)) (at (p v)))))
        where
          at : (b : Bool) → k * one b ≤ k
          at true = omega arith
          at false = omega arith

  matched_line : Matched (line_yard k n)
  matched_line =
      let r : root (line_yard k n) ≡ 0 = rw (roots_wood (wood_line n l)) in
      sym (rw r at (root_subtotal (wood (line_yard k n) tree_line) (pebble (line_yard k n))))
      ∙ pebbles_beyond k n 0 ∙ ap (λ (x : ℕ). k * x) (omega (arith, half n)) ∙ sym (targets_beyond k n 0)
      ∙ (rw r at (root_subtotal (wood (line_yard k n) tree_line) (target (line_yard k n))))

-- for each n from 1 to 256 some yard needs as many
pub longest_met : (n : ℕ) → 0 < n → n ≤ max_size → (y : Yard) × (size y ≡ n) × Tree y × Matched y × (length (plan y) ≡ longest n)
longest_met n l h =
    let t = tree_line 8 n (omega arith) l h in
    let m = matched_line 8 n (omega arith) l h in
    (line_yard 8 n, length_line n, t, m, plan_length (line_yard 8 n) t m ∙ shortest_line 8 n)

-- no yard needs more
pub longest_most : (y : Yard) → Tree y → Matched y → length (plan y) ≤ longest (size y)
longest_most y t m = plan_max y t m

-- the two figures without planning
pub bound_answer_law : (y : Yard) → bound_answer y ≡ answer (matched_fault y) (length_of (shortest y))
bound_answer_law y = go (matched_fault y) refl
  where
    go : (f : Option Fault) → matched_fault y ≡ f → answer f (length_of (length (plan y))) ≡ answer f (length_of (shortest y))
    go none e = let p = matched_tree y e in ap (λ (x : ℕ). answered (length_of x)) (plan_length y p.0 p.1)
    go (some f) e = refl

-- the second is the least length of a list that the planner accepts
pub bound_list : (y : Yard) (l : Length) → bound_answer y ≡ answered l → (list : List ℕ) → ((m : ℕ) × (plan_answer y list ≡ answered m)) ↔ (l.list_bytes ≤ length list)
bound_list y l e list =
    let a = answer_answered (matched_fault y) (length_of (length (plan y))) l e in
    let p = matched_tree y a.0 in
    let n = plan_none y (length list) in
    rw (← a.1) (
      (λ h. (n.0 (answer_answered (plan_fault y (length list)) (length (plan y)) h.0 h.1).0).2),
      λ h. (length (plan y), rw (n.1 (p.0, p.1, h))),
    )

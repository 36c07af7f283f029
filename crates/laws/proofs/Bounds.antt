-- How long the shortest length can be. No demand is larger than the number of pebbles, and the root's is 0: so Corollary 15.
-- Against the number n of nodes, of depth 1, it is n * n / 4 at most. Let a subtree have s nodes, j the size of the demand at its top, and f the
-- sizes of all its demands together: then 4 * f + j * j ≤ s * s + 2 * s * j + 2 * j. That holds of a node alone, and stays true as the subtrees of
-- its children are hung under it one by one; at the root j is 0.
-- Of nodes up to 8 deep it is eight times as much. Deal pebbles and targets out to 8 layers, one after another as the nodes are numbered: a node's
-- are no more than 8, so no layer gets two of them; layers have as many pebbles as targets, since that depends on the total alone; and the demands
-- are no larger than those of the layers together.
use mathlib.Core.Path.{◌≡◌, refl, sym, ap, ◌∙◌}
use mathlib.Core.Bool.{Bool, true, false}
use mathlib.Core.List.{List}
use Prim.Native.Nat.{ℕ, zero, suc, ◌+◌, ◌-◌, ◌*◌, ◌/◌, ◌≤◌, ◌<◌}
use native.Mathlib.Nat.{add-zero, add_assoc, one-mul, zero-mul, mul-sub, mul-le-mul, mul-le-mul_left, mul-le-mul_right, add-sub_of_le, le-div_iff_mul-le, mod-add-div}
use native.Mathlib.Omega.{arith}
use native.Mathlib.Decide.{ℕ_discrete}
use lib.ListN.{length}
use lib.Dec.{eqb}
use borrow.Author.Tests.{eq-eqb, ne_eqb}
use Rattle.model.specs.Yard.{Yard, size, pebble, target, Shallow, one, sum, root, inside, is_child, subtotal, imbalance, shortest, pebbleCount, Matched}
use Rattle.model.specs.Judge.{Tree}
use Rattle.model.specs.Calls.Checks.{max_plan_bytes}
use Rattle.model.specs.Sheets.{program_plan_bytes}
use Rattle.laws.proofs.Basics.{one_le}
use Rattle.laws.proofs.Sums.{sum_cong, sum_mono, sum_le, sum_add, sum_scale, sum_swap, sum_pick, sum_ones}
use Rattle.laws.proofs.Layers.{layer, layer_all, layer_le, layer_total}
use Rattle.laws.proofs.Trees.{Wood, is_child_law}
use Rattle.laws.proofs.Judged.{facts, wood}
use Rattle.laws.proofs.Demands.{weight, weight_le, weight_child, weight_pos, root_subtotal, root_even, subtotal_children}

-- the product of two differences, multiplied out, is not below 0
cross : {a b c d : ℕ} → a ≤ b → c ≤ d → a * d + b * c ≤ a * c + b * d
cross {a} {b} h k = rw (← (add-sub_of_le h)) (omega (arith, mul-le-mul_left (b - a) k))

-- how far apart two numbers are
abbrev gap : ℕ → ℕ → ℕ
gap a b = (a - b) + (b - a)

-- s nodes, with a demand of size j at their top and demands of the sizes f in all
record Bounded (s j f : ℕ) : Type 0 where
  room : j ≤ s
  cost : 4 * f + j * j ≤ s * s + 2 * (s * j) + 2 * j

-- a node alone
alone : (j : ℕ) → j ≤ 1 → Bounded 1 j j
alone j h = record { room = h; cost = omega (arith, mul-le-mul h h) }

-- a subtree hung under the top of another, with G the sizes below that top; the top's demand becomes the sum or the difference of the two,
-- of size K. What the bound gains over its two parts is 2 * (S - J) * (s - j) + 2 * (S - 1) * (K + j - J) + 2 * (s - j) * (K + J - j) + (J + j - K) * (K + J - j)
hang : {S J s j f K : ℕ} (G : ℕ) → 0 < S → Bounded S J (J + G) → Bounded s j f → J ≤ K + j → j ≤ K + J → K ≤ J + j → Bounded (S + s) K (K + G + f)
hang G l b c p q r = record { room = omega arith; cost = omega (arith, cross b.room c.room, cross l p, cross c.room q, cross r q) }

-- a node, and n subtrees hung under it
family : (s t p f : ℕ → ℕ) (a b n : ℕ) → a ≤ 1 → b ≤ 1 → ((v : ℕ) → v < n → Bounded (s v) (gap (t v) (p v)) (f v))
    → Bounded (1 + sum n s) (gap (a + sum n t) (b + sum n p)) (gap (a + sum n t) (b + sum n p) + sum n f)
unfolding sum
family s t p f a b zero ha hb h = simp add-zero (alone (gap a b) (omega arith))
family s t p f a b (suc n) ha hb h =
    simp (← add_assoc) (hang (sum n f) (omega arith) (family s t p f a b n ha hb (λ v l. h v (omega arith))) (h n (omega arith)) (omega arith) (omega arith) (omega arith))

-- the whole part of a fourth
quarter : (a b : ℕ) → 4 * a ≤ b → a ≤ b / 4
quarter a b h = (le-div_iff_mul-le {k = 4} (omega arith)).1 (omega arith)

quarter_times : (b : ℕ) → 4 * (b / 4) ≤ b
quarter_times b = omega (arith, mod-add-div b 4)

-- counts at the nodes of a tree, and the sizes of their demands
abbrev apart : List ℕ → (ℕ → ℕ) → (ℕ → ℕ) → ℕ → ℕ
apart ps t p v = gap (subtotal ps t v) (subtotal ps p v)

module _ {ps : List ℕ} {r : ℕ} (w : Wood ps r) (t p : ℕ → ℕ) (ht : (v : ℕ) → v < length ps → t v ≤ 1) (hp : (v : ℕ) → v < length ps → p v ≤ 1) where
  abbrev BoundedAt : ℕ → Type 0
  BoundedAt u = Bounded (weight ps u) (apart ps t p u) (subtotal ps (apart ps t p) u)

  bounded : (k u : ℕ) → u < length ps → weight ps u ≤ k → BoundedAt u
  bounded zero u l h = absurd (omega (arith, weight_pos w u l))
  bounded (suc k) u l h =
      rw (subtotal_children w (apart ps t p) u l, subtotal_children w (λ _. 1) u l, subtotal_children w t u l, subtotal_children w p u l)
      (family _ _ _ _ (t u) (p u) (length ps) (ht u l) (hp u l) (λ v m. child v m (is_child ps u v) refl (bounded k v m)))
    where
      child : (v : ℕ) → v < length ps → (b : Bool) → is_child ps u v ≡ b → (weight ps v ≤ k → BoundedAt v)
          → Bounded (one b * weight ps v) (gap (one b * subtotal ps t v) (one b * subtotal ps p v)) (one b * subtotal ps (apart ps t p) v)
      child v m true e ih = simp one-mul (ih (omega (arith, weight_child w u v l (is_child_law ps u v m e))))
      child v m false e ih = simp zero-mul (omega arith)

  apart_quarter : sum (length ps) t ≡ sum (length ps) p → 4 * sum (length ps) (apart ps t p) ≤ length ps * length ps
  apart_quarter e =
      let z : apart ps t p r ≡ 0 = omega (arith, root_subtotal w t, root_subtotal w p) in
      omega (
        arith,
        rw z at (bounded (length ps) r w.root_lt (weight_le ps r)),
        root_subtotal w (apart ps t p),
        mul-le-mul (weight_le ps r) (weight_le ps r),
      )

-- counts of 8 at most
gap_sum : (k : ℕ) (a b : ℕ → ℕ) → gap (sum k a) (sum k b) ≤ sum k (λ i. gap (a i) (b i))
unfolding sum
gap_sum zero a b = omega arith
gap_sum (suc k) a b = omega (arith, gap_sum k a b)

subtotal_layers : (ps : List ℕ) (f : ℕ → ℕ) (u : ℕ) → subtotal ps f u ≡ sum 8 (λ i. subtotal ps (layer i f) u)
unfolding subtotal
subtotal_layers ps f u =
    sum_cong (length ps) _ (λ v. sum 8 (λ i. one (inside ps u v) * layer i f v)) (λ v _. sym (sum_scale 8 (one (inside ps u v)) (λ i. layer i f v) ∙ ap (λ (x : ℕ). one (inside ps u v) * x) (layer_all f v)))
    ∙ sum_swap (length ps) 8 (λ v i. one (inside ps u v) * layer i f v)

module _ {ps : List ℕ} {r : ℕ} (w : Wood ps r) (t p : ℕ → ℕ) (ht : (v : ℕ) → v < length ps → t v ≤ 8) (hp : (v : ℕ) → v < length ps → p v ≤ 8) where
  apart_eight : sum (length ps) t ≡ sum (length ps) p → sum (length ps) (apart ps t p) ≤ 8 * (length ps * length ps / 4)
  apart_eight e = omega (
    arith,
    sum_mono (length ps) (apart ps t p) (λ v. sum 8 (λ i. apart ps (layer i t) (layer i p) v)) (λ v _. rw (subtotal_layers ps t v, subtotal_layers ps p v) (gap_sum 8 _ _)),
    sum_swap (length ps) 8 (λ v i. apart ps (layer i t) (layer i p) v),
    sum_mono 8 (λ i. sum (length ps) (λ v. apart ps (layer i t) (layer i p) v)) (λ _. (length ps * length ps / 4) * 1) (λ i _. each i),
    rw (sum_ones 8) at (sum_scale 8 (length ps * length ps / 4) (λ _. 1)),
  )
    where
      each : (i : ℕ) → sum (length ps) (λ v. apart ps (layer i t) (layer i p) v) ≤ (length ps * length ps / 4) * 1
      each i =
          let q = apart_quarter w (layer i t) (layer i p) (λ v l. layer_le i t v (ht v l)) (λ v l. layer_le i p v (hp v l)) (layer_total i (length ps) t ∙ rw e (sym (layer_total i (length ps) p))) in
          omega (arith, quarter _ _ q)

subtotal_le : (ps : List ℕ) (f : ℕ → ℕ) (u : ℕ) → subtotal ps f u ≤ sum (length ps) f
unfolding subtotal
subtotal_le ps f u = sum_mono (length ps) _ f (λ v _. omega (arith, mul-le-mul_right (f v) (one_le (inside ps u v))))

module _ (y : Yard) (t : Tree y) (m : Matched y) where
  -- Corollary 15
  pub shortest_bound : shortest y ≤ pebbleCount y * (size y - 1)
  unfolding shortest
  shortest_bound = rw mul-sub (omega (
    arith,
    sum_add (size y) (imbalance y) (λ v. one (eqb v (root y)) * pebbleCount y),
    sum_pick (size y) (root y) (λ _. pebbleCount y) (wood y t).root_lt,
    sum_mono (size y) (λ v. imbalance y v + one (eqb v (root y)) * pebbleCount y) (λ _. pebbleCount y * 1) (λ v _. each v (ℕ_discrete v (root y))),
    sum_scale (size y) (pebbleCount y) (λ _. 1),
    mul-le-mul_left (pebbleCount y) (sum_le (size y) (λ _. 1) (λ _. omega arith)),
  ))
    where
      each : (v : ℕ) → Dec (v ≡ root y) → imbalance y v + one (eqb v (root y)) * pebbleCount y ≤ pebbleCount y * 1
      each v (yes e) = rw (e, eq-eqb (root y) (root y) refl) (omega (arith, root_even y t m))
      each v (no d) = rw (ne_eqb v (root y) d) (omega (arith, subtotal_le y.parents (target y) v, subtotal_le y.parents (pebble y) v))

  -- the figure for n alone: eight times the whole part of n * n / 4, and that part itself where all depths are 1
  pub shortest_max : shortest y ≤ 8 * (size y * size y / 4)
  unfolding shortest
  shortest_max = apart_eight (wood y t) (target y) (pebble y) (λ v l. omega (arith, (facts y t).target_le v l, (facts y t).capacity_le v l))
      (λ v l. omega (arith, (facts y t).pebble_le v l, (facts y t).capacity_le v l)) (sym m)

  pub shortest_shallow : Shallow y → shortest y ≤ size y * size y / 4
  unfolding shortest
  shortest_shallow d = quarter _ _ (apart_quarter (wood y t) (target y) (pebble y) (λ v l. omega (arith, (facts y t).target_le v l, d v l)) (λ v l. omega (arith, (facts y t).pebble_le v l, d v l)) (sym m))

  largest : size y * size y / 4 ≤ 16_384
  largest = omega (arith, quarter_times (size y * size y), mul-le-mul (facts y t).few.1 (facts y t).few.1)

  pub shortest_fits : 2 * shortest y ≤ max_plan_bytes
  shortest_fits = omega (arith, shortest_max, largest)

  pub shortest_fits_shallow : Shallow y → 2 * shortest y ≤ program_plan_bytes
  shortest_fits_shallow d = omega (arith, shortest_shallow d, largest)

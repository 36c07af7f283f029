-- The demand as a signed number: its two parts, its size and range, equation 2 of the source, Lemma 1, and what a legal push does to it.
use mathlib.Core.Path.{◌≡◌, refl, sym, ap, ◌∙◌}
use mathlib.Core.Logic.{◌≢◌, ◌↔◌}
use mathlib.Core.Bool.{Bool, true, false, not, cond, ◌||◌}
use mathlib.Core.List.{List, [], ◌∷◌, ◌++◌, map}
use Prim.Native.Nat.{ℕ, zero, suc, ◌+◌, ◌-◌, ◌*◌, ◌≤◌, ◌<◌}
use native.Mathlib.Omega.{arith}
use native.Mathlib.Decide.{ℕ_discrete}
use native.Mathlib.Nat.{add-zero, add-suc, one-mul, zero-mul}
use lib.Dec.{ltb, eqb}
use lib.IntN.{ℤ, pos, negsuc, nat_abs, sub_ℕ, suc_ℤ, pred_ℤ, ◌+ℤ◌, suc-pred, +ℤ-suc_ℤ, +ℤ-pred_ℤ, suc_ℤ-+ℤ, +ℤ_idl, +ℤ_idr, +ℤ_assoc, +ℤ_comm}
use borrow.Author.Tests.{ltb-true, ltb-false, lt-ltb, le-ltb, eq-eqb, ne_eqb}
use Rattle.model.specs.Yard.{Yard, size, max_depth, max_demand, pebble, target, one, sum, below, is_child, children, targets_in, pebbles_in, demand, sumℤ, lacking, surplus, imbalance, shortest}
use Rattle.model.specs.Judge.{Tree}
use Rattle.model.specs.Push.{Move, moved, Solved}
use Rattle.laws.proofs.Found.{below_cong}
use Rattle.laws.proofs.Sums.{sum_mono, sum_scale, sum_le}
use Rattle.laws.proofs.Judged.{facts}
use Rattle.laws.proofs.Demands.{over_children, subtotal_weight, weight_le, targets_in_children, pebbles_in_children, solved_even, even_solved}
use Rattle.laws.proofs.Step.{Step, pebbles_in_node, pebbles_in_other}

-- how far a number is above 0, and how far below
abbrev pub above0 : ℤ → ℕ
above0 (pos n) = n
above0 (negsuc n) = 0

abbrev pub below0 : ℤ → ℕ
below0 (pos n) = 0
below0 (negsuc n) = suc n

sub_parts : (a b : ℕ) → (above0 (sub_ℕ a b) ≡ a - b) × (below0 (sub_ℕ a b) ≡ b - a)
sub_parts a b = go (ltb a b) refl
  where
    go : (c : Bool) → ltb a b ≡ c → (above0 (sub_ℕ a b) ≡ a - b) × (below0 (sub_ℕ a b) ≡ b - a)
    go true e = rw e (omega (arith, ltb-true a b e))
    go false e = rw e (omega (arith, ltb-false a b e))

parts_sub : (k : ℤ) → k ≡ sub_ℕ (above0 k) (below0 k)
parts_sub (pos n) = rw (le-ltb n 0 (omega arith)) (ap pos (omega arith))
parts_sub (negsuc n) = rw (lt-ltb 0 (suc n) (omega arith)) (ap negsuc (omega arith))

pub parts_size : (k : ℤ) → nat_abs k ≡ above0 k + below0 k
parts_size (pos n) = omega arith
parts_size (negsuc n) = omega arith

pub sub_size : (a b : ℕ) → nat_abs (sub_ℕ a b) ≡ (a - b) + (b - a)
sub_size a b = parts_size (sub_ℕ a b) ∙ rw ((sub_parts a b).0, (sub_parts a b).1)

-- the demand is what its subtree lacks minus what it has too many, one of which is 0, and its size is their sum
pub demand_parts : (y : Yard) (v : ℕ) → (above0 (demand y v) ≡ lacking y v) × (below0 (demand y v) ≡ surplus y v)
demand_parts y v = sub_parts (targets_in y v) (pebbles_in y v)

pub demand_is : (y : Yard) (v : ℕ) → demand y v ≡ sub_ℕ (lacking y v) (surplus y v)
demand_is y v = parts_sub (demand y v) ∙ rw ((demand_parts y v).0, (demand_parts y v).1)

pub demand_size : (y : Yard) (v : ℕ) → nat_abs (demand y v) ≡ imbalance y v
demand_size y v = sub_size (targets_in y v) (pebbles_in y v)

-- it lies from −2,048 to 2,048, whatever the totals: no subtree has more than 256 nodes, and no node more than 8 pebbles or targets
pub demand_range : (y : Yard) → Tree y → (v : ℕ) → nat_abs (demand y v) ≤ max_demand
demand_range y t v = rw (demand_size y v) (omega (
  arith,
  (facts y t).few,
  subtotal_weight y.parents max_depth (target y) v (λ v l. omega (arith, (facts y t).target_le v l, (facts y t).capacity_le v l)),
  subtotal_weight y.parents max_depth (pebble y) v (λ v l. omega (arith, (facts y t).pebble_le v l, (facts y t).capacity_le v l)),
  weight_le y.parents v,
))

-- so the shortest length is no more than 2,048 for each node
pub shortest_small : (y : Yard) → Tree y → shortest y ≤ 524_288
unfolding shortest
shortest_small y t = omega (
  arith,
  (facts y t).few,
  sum_mono (size y) (imbalance y) (λ _. 2_048 * 1) (λ v _. omega (arith, demand_size y v, demand_range y t v)),
  sum_scale (size y) 2_048 (λ _. 1),
  sum_le (size y) (λ _. 1) (λ _. omega arith),
)

-- one more to take away, or to take from
pub sub_suc : (a b : ℕ) → sub_ℕ a (suc b) ≡ pred_ℤ (sub_ℕ a b)
sub_suc a zero =
    let e : a + 0 ≡ a - 0 = omega arith in
    rw (le-ltb a 0 (omega arith)) (+ℤ-pred_ℤ (pos a) (pos zero) ∙ ap (λ (n : ℕ). pred_ℤ (pos n)) e)
sub_suc a (suc b) = +ℤ-pred_ℤ (pos a) (negsuc b)

pub suc_sub : (a b : ℕ) → sub_ℕ (suc a) b ≡ suc_ℤ (sub_ℕ a b)
suc_sub a zero = rw (le-ltb a 0 (omega arith), le-ltb (suc a) 0 (omega arith)) (ap pos (omega arith))
suc_sub a (suc b) = suc_ℤ-+ℤ (pos a) (negsuc b)

pub sub_add : (a b c d : ℕ) → sub_ℕ a b +ℤ sub_ℕ c d ≡ sub_ℕ (a + c) (b + d)
sub_add a b zero zero = +ℤ_idr (sub_ℕ a b) ∙ rw (add-zero a, add-zero b)
sub_add a b (suc c) zero = ap (λ (k : ℤ). sub_ℕ a b +ℤ k) (suc_sub c 0) ∙ +ℤ-suc_ℤ (sub_ℕ a b) (sub_ℕ c 0) ∙ ap suc_ℤ (sub_add a b c 0) ∙ sym (suc_sub (a + c) (b + 0)) ∙ rw (add-suc a c)
sub_add a b c (suc d) = ap (λ (k : ℤ). sub_ℕ a b +ℤ k) (sub_suc c d) ∙ +ℤ-pred_ℤ (sub_ℕ a b) (sub_ℕ c d) ∙ ap pred_ℤ (sub_add a b c d) ∙ sym (sub_suc (a + c) (b + d)) ∙ rw (add-suc b d)

-- a sum is no larger than its parts together
pub size_add : (a b : ℤ) → nat_abs (a +ℤ b) ≤ nat_abs a + nat_abs b
size_add a b =
    let e : a +ℤ b ≡ sub_ℕ (above0 a + above0 b) (below0 a + below0 b)
    = ap (λ (k : ℤ). k +ℤ b) (parts_sub a) ∙ ap (λ (k : ℤ). sub_ℕ (above0 a) (below0 a) +ℤ k) (parts_sub b) ∙ sub_add (above0 a) (below0 a) (above0 b) (below0 b) in
    omega (arith, ap nat_abs e, sub_size (above0 a + above0 b) (below0 a + below0 b), parts_size a, parts_size b)

sum_map_append : (f : ℕ → ℤ) (vs ws : List ℕ) → sumℤ (map f (vs ++ ws)) ≡ sumℤ (map f vs) +ℤ sumℤ (map f ws)
unfolding sumℤ
sum_map_append f [] ws = sym (+ℤ_idl (sumℤ (map f ws)))
sum_map_append f (v ∷ vs) ws = ap (λ (k : ℤ). f v +ℤ k) (sum_map_append f vs ws) ∙ sym (+ℤ_assoc (f v) (sumℤ (map f vs)) (sumℤ (map f ws)))

sum_below : (f g : ℕ → ℕ) (p : ℕ → Bool) (n : ℕ) → sumℤ (map (λ v. sub_ℕ (f v) (g v)) (below n p)) ≡ sub_ℕ (sum n (λ v. one (p v) * f v)) (sum n (λ v. one (p v) * g v))
unfolding below sum sumℤ
sum_below f g p zero = refl
sum_below f g p (suc n) =
    sum_map_append (λ v. sub_ℕ (f v) (g v)) (below n p) (cond (p n) (n ∷ []) [])
    ∙ ap (λ (k : ℤ). k +ℤ sumℤ (map (λ v. sub_ℕ (f v) (g v)) (cond (p n) (n ∷ []) []))) (sum_below f g p n)
    ∙ ap (λ (k : ℤ). sub_ℕ (over f) (over g) +ℤ k) (last (p n))
    ∙ sub_add (over f) (over g) (one (p n) * f n) (one (p n) * g n)
  where
    over : (ℕ → ℕ) → ℕ
    over h = sum n (λ v. one (p v) * h v)

    last : (b : Bool) → sumℤ (map (λ v. sub_ℕ (f v) (g v)) (cond b (n ∷ []) [])) ≡ sub_ℕ (one b * f n) (one b * g n)
    last true = rw (one-mul (f n), one-mul (g n)) (+ℤ_idr (sub_ℕ (f n) (g n)))
    last false = rw (zero-mul (f n), zero-mul (g n))

-- one number more that passes adds its term
pub sum_insert : (f : ℕ → ℤ) (p q : ℕ → Bool) (u : ℕ) → p u ≡ false → (n : ℕ) → u < n → ((c : ℕ) → c < n → q c ≡ ((eqb c u) || (p c)))
    → sumℤ (map f (below n q)) ≡ sumℤ (map f (below n p)) +ℤ f u
unfolding below sumℤ
sum_insert f p q u o zero l h = absurd (omega arith)
sum_insert f p q u o (suc n) l h =
    sum_map_append f (below n q) (cond (q n) (n ∷ []) [])
    ∙ go (ℕ_discrete n u) (sum_insert f p q u o n)
    ∙ ap (λ (k : ℤ). k +ℤ f u) (sym (sum_map_append f (below n p) (cond (p n) (n ∷ []) [])))
  where
    go : Dec (n ≡ u) → (u < n → ((c : ℕ) → c < n → q c ≡ ((eqb c u) || (p c))) → sumℤ (map f (below n q)) ≡ sumℤ (map f (below n p)) +ℤ f u)
        → sumℤ (map f (below n q)) +ℤ sumℤ (map f (cond (q n) (n ∷ []) [])) ≡ (sumℤ (map f (below n p)) +ℤ sumℤ (map f (cond (p n) (n ∷ []) []))) +ℤ f u
    go (yes e) ih =
        let here : q n ≡ true = h n (omega arith) ∙ rw (eq-eqb n u e) in
        let none : p n ≡ false = ap p e ∙ o in
        rw (below_cong n q p (λ c k. h c (omega arith) ∙ rw (ne_eqb c u (omega arith))), here, none, +ℤ_idr (f n), +ℤ_idr (sumℤ (map f (below n p))), e)
    go (no d) ih =
        let same : q n ≡ p n = h n (omega arith) ∙ rw (ne_eqb n u d) in
        rw (ih (omega arith) (λ c k. h c (omega arith)), same)
        (+ℤ_assoc (sumℤ (map f (below n p))) (f u) _ ∙ ap (λ (k : ℤ). sumℤ (map f (below n p)) +ℤ k) (+ℤ_comm (f u) _) ∙ sym (+ℤ_assoc (sumℤ (map f (below n p))) _ (f u)))

module _ (y : Yard) (t : Tree y) where
  -- equation 2: target minus pebble, plus the demands of the children
  pub demand_children : (u : ℕ) → u < size y → demand y u ≡ sub_ℕ (target y u) (pebble y u) +ℤ sumℤ (map (demand y) (children y u))
  demand_children u l =
      rw (targets_in_children y t u l, pebbles_in_children y t u l)
      (sym (
      ap (λ (k : ℤ). sub_ℕ (target y u) (pebble y u) +ℤ k) (sum_below (targets_in y) (pebbles_in y) (is_child y.parents u) (size y))
      ∙ sub_add (target y u) (pebble y u) (over_children y.parents (targets_in y) u) (over_children y.parents (pebbles_in y) u)
      ))

  -- Lemma 1: the yard is solved exactly if all demands are 0
  pub solved_demands : Solved y ↔ ((v : ℕ) → v < size y → demand y v ≡ pos 0)
  solved_demands = (
    (λ h v l. demand_is y v ∙ zero_parts (lacking y v) (surplus y v) (omega (arith, solved_even y h v))),
    λ h. even_solved y t (λ v l. sym (demand_size y v) ∙ ap nat_abs (h v l)),
  )
    where
      zero_parts : (a b : ℕ) → (a ≡ 0) × (b ≡ 0) → sub_ℕ a b ≡ pos 0
      zero_parts a b h = rw (h.0, h.1)

-- one less where a pebble comes in, one more where it goes out
abbrev pub nextℤ : Bool → ℤ → ℤ
nextℤ true k = pred_ℤ k
nextℤ false k = suc_ℤ k

-- a legal push changes the demand of the node whose edge it crosses, by one, and no other
module _ (y : Yard) (m : Move) (s : Step y m) where
  pub demand_other : (v : ℕ) → v ≢ s.node → demand (moved y m) v ≡ demand y v
  demand_other v d = ap (sub_ℕ (targets_in y v)) (pebbles_in_other y m s v d)

  pub demand_node : demand (moved y m) s.node ≡ nextℤ s.away (demand y s.node)
  demand_node = go s.away (pebbles_in_node y m s)
    where
      go : (b : Bool) → pebbles_in (moved y m) s.node + one (not b) ≡ pebbles_in y s.node + one b → demand (moved y m) s.node ≡ nextℤ b (demand y s.node)
      go true e =
          let q : pebbles_in (moved y m) s.node ≡ suc (pebbles_in y s.node) = omega arith in
          ap (sub_ℕ (targets_in y s.node)) q ∙ sub_suc (targets_in y s.node) (pebbles_in y s.node)
      go false e =
          let q : pebbles_in y s.node ≡ suc (pebbles_in (moved y m) s.node) = omega arith in
          sym (ap suc_ℤ (ap (sub_ℕ (targets_in y s.node)) q ∙ sub_suc (targets_in y s.node) (pebbles_in (moved y m) s.node)) ∙ suc-pred (demand (moved y m) s.node))

-- A part taken out of the yard, its nodes numbered anew in rising order and its topmost node the root (request 2.11). It is a tree with as many
-- pebbles as targets, and lies within the part's yard under the yard's numbers: so its plan, under the yard's numbers, is the part's plan.
use mathlib.Core.Path.{◌≡◌, refl, sym, ap, ◌∙◌, subst}
use mathlib.Core.Logic.{◌≢◌}
use mathlib.Core.Bool.{Bool, true, false, cond, or-true}
use mathlib.Core.List.{List, [], ◌∷◌, map, flatten}
use Prim.Native.Nat.{ℕ, zero, suc, ◌≤◌, ◌<◌}
use native.Mathlib.Omega.{arith}
use native.Mathlib.Decide.{ℕ_discrete}
use lib.ListN.{length, get_or, length-map}
use lib.Dec.{eqb}
use borrow.Author.Tests.{eqb-true, eq-eqb, ne_eqb}
use Rattle.model.specs.Yard.{Yard, size, parent, pebble, target, capacity, one, inside, root, Matched}
use Rattle.model.specs.Judge.{Tree}
use Rattle.model.specs.Plan.{plan, choice, fills}
use Rattle.model.specs.Parts.{is_cut, topmost, in_part, tops, masked, part_yard, parts_plan}
use Rattle.laws.specs.Algorithms.{Balances}
use Rattle.laws.specs.Parts.{Top, renamed, nodes_of, taken_out}
use Rattle.laws.proofs.Basics.{one_le}
use Rattle.laws.proofs.Sums.{sum_le, length_below}
use Rattle.laws.proofs.Ranges.{map_all}
use Rattle.laws.proofs.Climb.{climbs_self, inside_step}
use Rattle.laws.proofs.Trees.{Wood}
use Rattle.laws.proofs.Judged.{Flat, facts, wood, roots_wood, flat_tree}
use Rattle.laws.proofs.Demands.{weight}
use Rattle.laws.proofs.Balance.{root_fit, plan_balances}
use Rattle.laws.proofs.Struck.{Struck, masked_struck}
use Rattle.laws.proofs.Own.{plan_below}
use Rattle.laws.proofs.Numbering.{rank, nth, nth_all, nth_lt, nth_passes, nth_rank, rank_lt}
use Rattle.laws.proofs.Renaming.{Within, within_matched, balances_renamed}
use Rattle.laws.proofs.Parts.{part_ind, topmost_cut, topmost_uncut, parent_heavier, tops_all, part_tree, part_matched}
use Rattle.laws.proofs.PartTurns.{part_due, part_whole}

get_d_map : (g : ℕ → ℕ) (l : List ℕ) (i : ℕ) → i < length l → get_or (map g l) i 0 ≡ g (get_or l i 0)
get_d_map g [] i l = absurd (omega arith)
get_d_map g (x ∷ xs) zero l = refl
get_d_map g (x ∷ xs) (suc i) l = get_d_map g xs i (omega arith)

inside_own : (ps : List ℕ) (v : ℕ) → inside ps v v ≡ true
unfolding inside
inside_own ps v = climbs_self (length ps) ps v

module _ (y : Yard) (ty : Tree y) (m : Matched y) (t : ℕ) (o : Top y t) where
  abbrev p : ℕ → Bool
  p = in_part y t

  abbrev a : Yard
  a = taken_out y t

  size_is : size a ≡ rank p (size y)
  size_is = length-map (nodes_of y t) _

  t_in : p t ≡ true
  t_in = eq-eqb (topmost y t) t o.own

  -- a node of the part other than the topmost has its parent in the part
  uncut : (v : ℕ) → v < size y → p v ≡ true → v ≢ t → is_cut y v ≡ false
  uncut v l e d = go (is_cut y v) refl
    where
      go : (b : Bool) → is_cut y v ≡ b → b ≡ false
      go true c = absurd (d (sym (topmost_cut y ty m v l c) ∙ eqb-true (topmost y v) t e))
      go false c = refl

  up_in : (v : ℕ) → v < size y → p v ≡ true → v ≢ t → p (parent y v) ≡ true
  up_in v l e d = ap (λ (u : ℕ). eqb u t) (sym (topmost_uncut y ty m v l (uncut v l e d))) ∙ e

  -- what holds of the new number of every node of the part
  by_node : (Q : ℕ → Type 0) → ((v : ℕ) → v < size y → p v ≡ true → Q (rank p v)) → (i : ℕ) → i < size a → Q i
  by_node Q h i l = nth_all p (λ i _. Q i) (size y) h i (omega (arith, size_is))

  rank_small : (v : ℕ) → v < size y → p v ≡ true → rank p v < size a
  rank_small v l e = omega (arith, size_is, rank_lt p (size y) v l e)

  entry : (g : ℕ → ℕ) (i : ℕ) → i < size a → get_or (map g (nodes_of y t)) i 0 ≡ g (nth p (size y) i)
  entry g i l = get_d_map g (nodes_of y t) i (omega (arith, size_is))

  top_parent : parent a (rank p t) ≡ rank p t
  top_parent = entry _ (rank p t) (rank_small t o.lt t_in) ∙ rw (nth_rank p (size y) t o.lt t_in, eq-eqb t t refl)

  node_parent : (v : ℕ) → v < size y → p v ≡ true → v ≢ t → parent a (rank p v) ≡ rank p (parent y v)
  node_parent v l e d = entry _ (rank p v) (rank_small v l e) ∙ rw (nth_rank p (size y) v l e, ne_eqb v t d)

  -- a tree
  up_small : (i : ℕ) → i < size a → parent a i < size a
  up_small = by_node (λ i. parent a i < size a) (λ v l e. go v l e (ℕ_discrete v t))
    where
      go : (v : ℕ) → v < size y → p v ≡ true → Dec (v ≡ t) → parent a (rank p v) < size a
      go v l e (yes q) = rw (q, top_parent) (rank_small t o.lt t_in)
      go v l e (no d) = rw (node_parent v l e d) (rank_small (parent y v) ((wood y ty).parent_lt v l) (up_in v l e d))

  to_top : (v : ℕ) → v < size y → p v ≡ true → inside a.parents (rank p t) (rank p v) ≡ true
  to_top = part_ind y ty m (λ v. p v ≡ true → inside a.parents (rank p t) (rank p v) ≡ true)
      (λ v l c e. self v (sym (topmost_cut y ty m v l c) ∙ eqb-true (topmost y v) t e)) (λ v l f ih e. go v l ih e (ℕ_discrete v t))
    where
      self : (v : ℕ) → v ≡ t → inside a.parents (rank p t) (rank p v) ≡ true
      self v q = rw q (inside_own a.parents (rank p t))

      go : (v : ℕ) → v < size y → (p (parent y v) ≡ true → inside a.parents (rank p t) (rank p (parent y v)) ≡ true) → p v ≡ true → Dec (v ≡ t) → inside a.parents (rank p t) (rank p v) ≡ true
      go v l ih e (yes q) = self v q
      go v l ih e (no d) = inside_step a.parents up_small (rank p t) (rank p v) (rank_small v l e) ∙ rw (node_parent v l e d, ih (up_in v l e d)) (or-true (eqb (rank p v) (rank p t)))

  taken_wood : Wood a.parents (rank p t)
  taken_wood = record {
    parent_lt = up_small;
    root_lt = rank_small t o.lt t_in;
    root_parent = top_parent;
    root_only = by_node (λ i. parent a i ≡ i → i ≡ rank p t) (λ v l e f. only v l e f (ℕ_discrete v t));
    to_root = by_node (λ i. inside a.parents (rank p t) i ≡ true) to_top;
  }
    where
      only : (v : ℕ) → v < size y → p v ≡ true → parent a (rank p v) ≡ rank p v → Dec (v ≡ t) → rank p v ≡ rank p t
      only v l e f (yes q) = ap (rank p) q
      only v l e f (no d) =
          let u : ℕ = parent y v in
          let same : u ≡ v = sym (nth_rank p (size y) u ((wood y ty).parent_lt v l) (up_in v l e d)) ∙ ap (nth p (size y)) (sym (node_parent v l e d) ∙ f) ∙ nth_rank p (size y) v l e in
          let heavier = subst (λ u. weight y.parents v < weight y.parents u) same (parent_heavier y ty m v l (uncut v l e d)) in
          absurd (omega arith)

  taken_root : root a ≡ rank p t
  taken_root = rw (roots_wood taken_wood)

  marks : (g : ℕ → ℕ) → (P : ℕ → ℕ → Type 0) → ((v : ℕ) → v < size y → P (g v) (capacity y v)) → (i : ℕ) → i < size a → P (get_or (map g (nodes_of y t)) i 0) (capacity a i)
  marks g P h i l =
      let k : i < rank p (size y) = omega (arith, size_is) in
      rw (entry g i l, entry (capacity y) i l) (h (nth p (size y) i) (nth_lt p (size y) i k))

  taken_flat : Flat a
  taken_flat = record {
    few = omega (arith, rank_small t o.lt t_in, size_is, length_below_le, (facts y ty).few);
    pebbles_size = length-map (nodes_of y t) _ ∙ sym size_is;
    targets_size = length-map (nodes_of y t) _ ∙ sym size_is;
    depths_size = length-map (nodes_of y t) _ ∙ sym size_is;
    parent_lt = up_small;
    capacity_pos = marks (pebble y) (λ _ c. 0 < c) (facts y ty).capacity_pos;
    capacity_le = marks (pebble y) (λ _ c. c ≤ 8) (facts y ty).capacity_le;
    pebble_le = marks (pebble y) (λ q c. q ≤ c) (facts y ty).pebble_le;
    target_le = marks (target y) (λ q c. q ≤ c) (facts y ty).target_le;
  }
    where
      length_below_le : rank p (size y) ≤ size y
      length_below_le = rw (length_below (size y) p) (sum_le (size y) (λ v. one (p v)) (λ v. one_le (p v)))

  pub taken_tree : Tree a
  taken_tree = flat_tree a taken_flat taken_wood

  -- within the part's yard
  taken_within : Within p a (part_yard y t)
  taken_within = record {
    all = size_is;
    up = by_node (λ i. i ≢ root a → parent y (nth p (size y) i) ≡ nth p (size y) (parent a i)) (λ v l e d. at v l e (λ q. d (ap (rank p) q ∙ sym taken_root)));
    whole = part_whole y ty m t;
    depths = λ i l. sym (entry (capacity y) i l);
    targets = λ i l. inner (λ v. target (part_yard y t) v) (target y) k.targets i l ∙ sym (entry (target y) i l);
    no_targets = λ v l e. rw e at (k.targets v l);
    pebbles = λ i l. inner (λ v. pebble (part_yard y t) v) (pebble y) k.pebbles i l ∙ sym (entry (pebble y) i l);
    no_pebbles = λ v l e. rw e at (k.pebbles v l);
  }
    where
      k : Struck p y (masked p y.pebbles) (masked p y.targets)
      k = masked_struck p y ty

      at : (v : ℕ) → v < size y → p v ≡ true → v ≢ t → parent y (nth p (size y) (rank p v)) ≡ nth p (size y) (parent a (rank p v))
      at v l e d = rw (nth_rank p (size y) v l e, node_parent v l e d) (sym (nth_rank p (size y) (parent y v) ((wood y ty).parent_lt v l) (up_in v l e d)))

      inner : (g h : ℕ → ℕ) → ((v : ℕ) → v < size y → g v ≡ cond (p v) (h v) 0) → (i : ℕ) → i < size a → g (nth p (size y) i) ≡ h (nth p (size y) i)
      inner g h e i l =
          let j : i < rank p (size y) = omega (arith, size_is) in
          e (nth p (size y) i) (nth_lt p (size y) i j) ∙ rw (nth_passes p (size y) i j)

  pub taken_matched : Matched a
  taken_matched = within_matched taken_within (part_matched y ty m t)

  pub taken_plan : renamed (nodes_of y t) (plan a) ≡ plan (part_yard y t)
  taken_plan = plan_below (part_yard y t) (part_tree y ty m t) (part_matched y ty m t) t o.lt (part_due y ty m t o) (renamed (nodes_of y t) (plan a))
      (subst (λ s. Balances fills choice (part_yard y t) (s ∷ []) (renamed (nodes_of y t) (plan a))) (ap (nth p (size y)) taken_root ∙ nth_rank p (size y) t o.lt t_in)
      (balances_renamed p (plan_balances a taken_tree taken_matched) taken_tree (root_fit a taken_tree taken_matched) (part_yard y t) (part_tree y ty m t) taken_within))

-- so the parts' plans are those of the parts taken out, under the yard's numbers
pub taken_sheet : (y : Yard) → Tree y → Matched y → parts_plan y ≡ flatten (map (λ t. renamed (nodes_of y t) (plan (taken_out y t))) (tops y))
unfolding parts_plan
taken_sheet y ty m = ap flatten (map_all _ _ (tops y) ((tops_all y ty m _).1 (λ t o. sym (taken_plan y ty m t o))))

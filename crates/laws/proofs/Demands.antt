-- Equation 2 of the source: what lies in a node's subtree is what lies at the node and in its children's subtrees, because each
-- other node of the subtree lies in that of just one child. From it, the law of demands, and what demands of 0 mean.
use mathlib.Core.Path.{◌≡◌, refl, sym, ap, ◌∙◌}
use mathlib.Core.Logic.{◌≢◌, ◌↔◌}
use mathlib.Core.Bool.{Bool, true, false}
use mathlib.Core.List.{List}
use Prim.Native.Nat.{ℕ, ◌+◌, ◌*◌, ◌≤◌, ◌<◌}
use native.Mathlib.Nat.{mul_assoc, mul_comm, add-mul, mul-le-mul_left}
use native.Mathlib.Omega.{arith}
use native.Mathlib.Decide.{ℕ_discrete}
use lib.ListN.{length}
use lib.Dec.{eqb}
use borrow.Author.Tests.{eqb-true, eq-eqb, ne_eqb}
use Rattle.model.specs.Yard.{Yard, size, up, pebble, target, one, sum, inside, subtotal, targets_in, pebbles_in, lacking, surplus, imbalance, shortest, is_child, root, Matched}
use Rattle.model.specs.Judge.{Tree}
use Rattle.model.specs.Push.{Solved}
use Rattle.laws.proofs.Basics.{eqb_sym, one_le}
use Rattle.laws.proofs.Sums.{sum_cong, sum_mono, sum_add, sum_scale, sum_swap, sum_zero, sum_pick, sum_term, sum_le, sum_some}
use Rattle.laws.specs.Choice.{Child}
use Rattle.laws.proofs.Trees.{Wood, down_ind, root_inside, one_step, is_child_law, child_is}
use Rattle.laws.proofs.Judged.{wood}

-- the sum of f over the children of u
abbrev pub over_children : List ℕ → (ℕ → ℕ) → ℕ → ℕ
over_children ps f u = sum (length ps) (λ v. one (is_child ps u v) * f v)

pub child_le : (ps : List ℕ) (f : ℕ → ℕ) (u c : ℕ) → Child ps u c → f c ≤ over_children ps f u
child_le ps f u c k = omega (arith, sum_term (length ps) c (λ v. one (is_child ps u v) * f v) k.lt, ap (λ (b : Bool). one b * f c) (child_is ps u c k))

pub over_cong : (ps : List ℕ) (f g : ℕ → ℕ) (u : ℕ) → ((c : ℕ) → Child ps u c → f c ≡ g c) → over_children ps f u ≡ over_children ps g u
over_cong ps f g u h = sum_cong (length ps) _ _ (λ c l. go c l (is_child ps u c) refl)
  where
    go : (c : ℕ) → c < length ps → (b : Bool) → is_child ps u c ≡ b → one b * f c ≡ one b * g c
    go c l true e = rw (h c (is_child_law ps u c l e))
    go c l false e = omega arith

pub over_add : (ps : List ℕ) (f g : ℕ → ℕ) (u : ℕ) → over_children ps (λ c. f c + g c) u ≡ over_children ps f u + over_children ps g u
over_add ps f g u = sum_cong (length ps) _ (λ c. one (is_child ps u c) * f c + one (is_child ps u c) * g c) (λ c _. omega arith) ∙ sum_add (length ps) _ _

abbrev pub weight : List ℕ → ℕ → ℕ
weight ps u = subtotal ps (λ _. 1) u

pub weight_le : (ps : List ℕ) (u : ℕ) → weight ps u ≤ length ps
unfolding subtotal
weight_le ps u = sum_le (length ps) _ (λ v. omega (arith, one_le (inside ps u v)))

-- no more than k for each node, if each has at most k
pub subtotal_weight : (ps : List ℕ) (k : ℕ) (f : ℕ → ℕ) (u : ℕ) → ((v : ℕ) → v < length ps → f v ≤ k) → subtotal ps f u ≤ k * weight ps u
unfolding subtotal
subtotal_weight ps k f u h =
    rw (← (sum_scale (length ps) k (λ v. one (inside ps u v) * 1)))
    (sum_mono (length ps) _ _ (λ v l. omega (arith, mul-le-mul_left (one (inside ps u v)) (h v l), mul_comm k (one (inside ps u v)), one_le (inside ps u v))))

module _ {ps : List ℕ} {r : ℕ} (f : Wood ps r) where
  -- picking one child
  pub pick : (u w : ℕ) → w < length ps → over_children ps (λ c. one (eqb w c)) u ≡ one (is_child ps u w)
  pick u w l = sum_cong (length ps) _ _ (λ c _. rw (eqb_sym w c) (mul_comm (one (is_child ps u c)) (one (eqb c w)))) ∙ sum_pick (length ps) w (λ c. one (is_child ps u c)) l

  inside_children : (u w : ℕ) → w < length ps → one (inside ps u w) ≡ one (eqb w u) + over_children ps (λ c. one (inside ps c w)) u
  inside_children u = down_ind f (λ w. one (inside ps u w) ≡ one (eqb w u) + over_children ps (λ c. one (inside ps c w)) u) base next
    where
      base : one (inside ps u r) ≡ one (eqb r u) + over_children ps (λ c. one (inside ps c r)) u
      base = omega (
        arith,
        ap one (root_inside f u),
        sum_cong (length ps) (λ c. one (is_child ps u c) * one (inside ps c r)) (λ c. one (is_child ps u c) * one (eqb r c)) (λ c _. rw (root_inside f c)),
        pick u r f.root_lt,
        root_child (ℕ_discrete r u),
      )
        where
          root_child : Dec (r ≡ u) → one (is_child ps u r) ≡ 0
          root_child (yes e) = rw (f.root_parent, eq-eqb r u e)
          root_child (no n) = rw (f.root_parent, ne_eqb r u n)

      next : (w : ℕ) → w < length ps → w ≢ r → one (inside ps u (up ps w)) ≡ one (eqb (up ps w) u) + over_children ps (λ c. one (inside ps c (up ps w))) u
          → one (inside ps u w) ≡ one (eqb w u) + over_children ps (λ c. one (inside ps c w)) u
      next w l d ih = omega (
        arith,
        ih,
        one_step f u w l d,
        sum_cong (length ps) (λ c. one (is_child ps u c) * one (inside ps c w))
            (λ c. one (is_child ps u c) * one (eqb w c) + one (is_child ps u c) * one (inside ps c (up ps w)))
            (λ c _. ap (λ (x : ℕ). one (is_child ps u c) * x) (one_step f c w l d) ∙ omega arith),
        sum_add (length ps) (λ c. one (is_child ps u c) * one (eqb w c)) (λ c. one (is_child ps u c) * one (inside ps c (up ps w))),
        pick u w l,
        only (ℕ_discrete w u) (eqb (up ps w) u) refl,
      )
        where
          only : Dec (w ≡ u) → (b : Bool) → eqb (up ps w) u ≡ b → one (is_child ps u w) ≡ one (eqb (up ps w) u)
          only (yes e) true q = absurd (d (f.root_only w l (eqb-true (up ps w) u q ∙ sym e)))
          only (yes e) false q = rw q
          only (no n) true q = rw (q, ne_eqb w u n)
          only (no n) false q = rw q

  pub subtotal_children : (g : ℕ → ℕ) (u : ℕ) → u < length ps → subtotal ps g u ≡ g u + over_children ps (subtotal ps g) u
  unfolding subtotal
  subtotal_children g u l =
      sum_cong (length ps) _ (λ w. one (eqb w u) * g w + sum (length ps) (λ c. one (is_child ps u c) * (one (inside ps c w) * g w))) (λ w k. split w k)
      ∙ sum_add (length ps) (λ w. one (eqb w u) * g w) _
      ∙ rw (sum_pick (length ps) u g l, sum_swap (length ps) (length ps) (λ w c. one (is_child ps u c) * (one (inside ps c w) * g w)))
      (ap (λ (x : ℕ). g u + x) (sum_cong (length ps) _ _ (λ c _. sum_scale (length ps) (one (is_child ps u c)) (λ w. one (inside ps c w) * g w))))
    where
      split : (w : ℕ) → w < length ps → one (inside ps u w) * g w ≡ one (eqb w u) * g w + sum (length ps) (λ c. one (is_child ps u c) * (one (inside ps c w) * g w))
      split w k = rw (inside_children u w k, add-mul, mul_comm (over_children ps (λ c. one (inside ps c w)) u) (g w), ← (sum_scale (length ps) (g w) (λ c. one (is_child ps u c) * one (inside ps c w))))
          (ap (λ (x : ℕ). one (eqb w u) * g w + x) (sum_cong (length ps) _ _ (λ c _. mul_comm (g w) _ ∙ mul_assoc _ _ _)))

  -- a node inside u other than u is inside a child of u
  pub inside_child : (u v : ℕ) → v < length ps → inside ps u v ≡ true → v ≢ u → (c : ℕ) × Child ps u c × (inside ps c v ≡ true)
  inside_child u v l i d = go (sum_some (length ps) (λ c. one (is_child ps u c) * one (inside ps c v)) (omega (arith, inside_children u v l, ap one i, ap one (ne_eqb v u d))))
    where
      go : (c : ℕ) × (c < length ps) × (0 < one (is_child ps u c) * one (inside ps c v)) → (c : ℕ) × Child ps u c × (inside ps c v ≡ true)
      go h = let b = both (is_child ps u h.0) (inside ps h.0 v) h.2 in (h.0, is_child_law ps u h.0 h.1 b.0, b.1)
        where
          both : (a b : Bool) → 0 < one a * one b → (a ≡ true) × (b ≡ true)
          both true true _ = (refl, refl)
          both true false k = absurd (omega arith)
          both false b k = absurd (omega arith)

  -- the number of nodes inside a node: more than inside any child, so it bounds how deep the subtree is
  pub weight_child : (u c : ℕ) → u < length ps → Child ps u c → weight ps c < weight ps u
  weight_child u c l k = omega (arith, subtotal_children (λ _. 1) u l, child_le ps (weight ps) u c k)

  pub weight_pos : (u : ℕ) → u < length ps → 0 < weight ps u
  weight_pos u l = omega (arith, subtotal_children (λ _. 1) u l)

  -- the root's subtree is the whole tree
  pub root_subtotal : (g : ℕ → ℕ) → subtotal ps g r ≡ sum (length ps) g
  unfolding subtotal
  root_subtotal g = sum_cong (length ps) _ g (λ v l. rw (f.to_root v l) (omega arith))

pub solved_even : (y : Yard) → Solved y → (v : ℕ) → pebbles_in y v ≡ targets_in y v
unfolding subtotal
solved_even y h v = sum_cong (size y) _ _ (λ w l. ap (λ (x : ℕ). one (inside y.parents v w) * x) (h w l))

module _ (y : Yard) (t : Tree y) where
  pub targets_in_children : (u : ℕ) → u < size y → targets_in y u ≡ target y u + over_children y.parents (targets_in y) u
  targets_in_children = subtotal_children (wood y t) (target y)

  pub pebbles_in_children : (u : ℕ) → u < size y → pebbles_in y u ≡ pebble y u + over_children y.parents (pebbles_in y) u
  pebbles_in_children = subtotal_children (wood y t) (pebble y)

  -- equation 2 for the demand, with no number below 0
  pub parts_children : (u : ℕ) → u < size y
      → lacking y u + pebble y u + over_children y.parents (surplus y) u ≡ surplus y u + target y u + over_children y.parents (lacking y) u
  parts_children u l = omega (arith, targets_in_children u l, pebbles_in_children u l, both)
    where
      both : over_children y.parents (targets_in y) u + over_children y.parents (surplus y) u ≡ over_children y.parents (pebbles_in y) u + over_children y.parents (lacking y) u
      both = sym (sum_add (size y) _ _) ∙ sum_cong (size y) _ _ (λ v _. each v (is_child y.parents u v)) ∙ sum_add (size y) _ _
        where
          each : (v : ℕ) (b : Bool) → one b * targets_in y v + one b * surplus y v ≡ one b * pebbles_in y v + one b * lacking y v
          each v true = omega arith
          each v false = omega arith

  -- a node none of whose pebbles is missing or in excess, with children of the same kind, holds its targets
  pub even_solved : ((v : ℕ) → v < size y → imbalance y v ≡ 0) → Solved y
  even_solved h u l = omega (arith, parts_children u l, h u l, none (lacking y) (λ v k. omega (arith, h v k)), none (surplus y) (λ v k. omega (arith, h v k)))
    where
      none : (g : ℕ → ℕ) → ((v : ℕ) → v < size y → g v ≡ 0) → over_children y.parents g u ≡ 0
      none g e = sum_zero (size y) _ (λ v k. rw (e v k) (omega arith))

  -- the shortest length is 0 exactly if the yard is solved
  pub solved_iff : Solved y ↔ (shortest y ≡ 0)
  unfolding shortest
  solved_iff = (
    (λ h. sum_zero (size y) _ (λ v _. omega (arith, solved_even y h v))),
    λ e. even_solved (λ v l. omega (arith, sum_term (size y) v (imbalance y) l)),
  )

  -- the root's demand is 0 where the totals are equal
  pub root_even : Matched y → imbalance y (root y) ≡ 0
  root_even m = omega (arith, m, root_subtotal (wood y t) (target y), root_subtotal (wood y t) (pebble y))

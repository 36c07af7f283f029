-- The parts of a tree with as many pebbles as targets (request 2.11). Its root's demand is 0, so a climb that stops at demands of 0 ends: every
-- node lies in the part of just one topmost node. A part's yard is a tree with as many pebbles as targets, with the demands of the yard inside
-- the part and 0 elsewhere.
use mathlib.Core.Path.{◌≡◌, refl, sym, ap, ◌∙◌, subst}
use mathlib.Core.Logic.{◌≢◌, ◌↔◌}
use mathlib.Core.Bool.{Bool, true, false, cond, ◌||◌, or-true, false≢true}
use Prim.Native.Nat.{ℕ, zero, suc, ◌≤◌, ◌<◌}
use native.Mathlib.Omega.{arith}
use native.Mathlib.Decide.{ℕ_discrete}
use lib.Dec.{eqb}
use lib.IntN.{pos, sub_ℕ}
use borrow.Author.Tests.{eqb-true, eq-eqb, ne_eqb}
use Rattle.model.specs.Yard.{Yard, size, parent, root, climbs, inside, demand, lacking, surplus, imbalance, Matched}
use Rattle.model.specs.Judge.{Tree}
use Rattle.model.specs.Plan.{plan}
use Rattle.model.specs.Parts.{is_cut, climbed, topmost, in_part, tops, part_yard}
use Rattle.laws.specs.Parts.{Top, lies_in, kept}
use Rattle.laws.proofs.Basics.{All, all_below, below_all}
use Rattle.laws.proofs.Climb.{inside_step}
use Rattle.laws.proofs.Trees.{down_ind, inside_self, parent_outside}
use Rattle.laws.proofs.Judged.{wood}
use Rattle.laws.proofs.Demands.{weight, weight_child, root_even}
use Rattle.laws.specs.Algorithms.{need}
use Rattle.laws.proofs.Signed.{demand_is}
use Rattle.laws.proofs.Struck.{Closed, masked_struck, struck_tree, struck_need, struck_imbalance, struck_matched}
use Rattle.laws.proofs.Kept.{all_kept}
use Rattle.laws.proofs.Striking.{plan_struck}

module _ (y : Yard) (t : Tree y) (m : Matched y) where
  root_cut : is_cut y (root y) ≡ true
  root_cut = eq-eqb _ 0 (root_even y t m)

  -- a climb that can reach the root has ended
  ended : (k v : ℕ) → climbs k y.parents v (root y) ≡ true → climbed (suc k) y v ≡ climbed k y v
  unfolding climbs climbed
  ended zero v e = rw (eqb-true v (root y) e, root_cut)
  ended (suc k) v e = go (eqb v (root y)) refl e (ended k (parent y v))
    where
      go : (b : Bool) → eqb v (root y) ≡ b → (b || climbs k y.parents (parent y v) (root y)) ≡ true
          → (climbs k y.parents (parent y v) (root y) ≡ true → climbed (suc k) y (parent y v) ≡ climbed k y (parent y v))
          → climbed (suc (suc k)) y v ≡ climbed (suc k) y v
      go true q _ ih = rw (eqb-true v (root y) q, root_cut)
      go false q c ih = ap (λ (u : ℕ). cond (is_cut y v) v u) (ih c)

  pub topmost_step : (v : ℕ) → v < size y → topmost y v ≡ cond (is_cut y v) v (topmost y (parent y v))
  unfolding topmost climbed inside
  topmost_step v l = sym (ended (size y) v ((wood y t).to_root v l))

  pub topmost_cut : (v : ℕ) → v < size y → is_cut y v ≡ true → topmost y v ≡ v
  topmost_cut v l e = rw (topmost_step v l, e)

  pub topmost_uncut : (v : ℕ) → v < size y → is_cut y v ≡ false → topmost y v ≡ topmost y (parent y v)
  topmost_uncut v l e = rw (topmost_step v l, e)

  -- the edges inside a part are those whose demand is not 0
  pub topmost_parent : (v : ℕ) → v < size y → 0 < imbalance y v → topmost y (parent y v) ≡ topmost y v
  topmost_parent v l n = sym (topmost_uncut v l (ne_eqb (imbalance y v) 0 (omega arith)))

  -- what holds where the edge is cut, and passes down the other edges, holds everywhere
  pub part_ind : (P : ℕ → Type 0) → ((v : ℕ) → v < size y → is_cut y v ≡ true → P v) → ((v : ℕ) → v < size y → topmost y v ≡ topmost y (parent y v) → P (parent y v) → P v)
      → (v : ℕ) → v < size y → P v
  part_ind P base next = down_ind (wood y t) P (base (root y) (wood y t).root_lt root_cut) (λ v l _ ih. go v l ih (is_cut y v) refl)
    where
      go : (v : ℕ) → v < size y → P (parent y v) → (b : Bool) → is_cut y v ≡ b → P v
      go v l ih true e = base v l e
      go v l ih false e = next v l (topmost_uncut v l e) ih

  pub topmost_top : (v : ℕ) → v < size y → Top y (topmost y v)
  topmost_top = part_ind (λ v. Top y (topmost y v)) (λ v l e. rw (topmost_cut v l e) (record { lt = l; own = topmost_cut v l e })) (λ v l e ih. rw e ih)

  -- one pass from the root down finds them: whatever is so at every node is the topmost node
  pub topmost_only : (g : ℕ → ℕ) → ((v : ℕ) → v < size y → g v ≡ cond (is_cut y v) v (g (parent y v))) → (v : ℕ) → v < size y → g v ≡ topmost y v
  topmost_only g h = down_ind (wood y t) (λ v. g v ≡ topmost y v) (start (root y) (wood y t).root_lt root_cut) (λ v l _ ih. h v l ∙ ap (λ (u : ℕ). cond (is_cut y v) v u) ih ∙ sym (topmost_step v l))
    where
      start : (v : ℕ) → v < size y → is_cut y v ≡ true → g v ≡ topmost y v
      start v l e = rw (h v l, topmost_step v l, e)

  -- each step of that climb comes to a node with more nodes inside
  pub parent_heavier : (v : ℕ) → v < size y → is_cut y v ≡ false → weight y.parents v < weight y.parents (parent y v)
  parent_heavier v l e = weight_child (wood y t) (parent y v) v ((wood y t).parent_lt v l) (record { lt = l; up = refl; other = λ q. false≢true (sym e ∙ ap (is_cut y) ((wood y t).root_only v l (sym q)) ∙ root_cut) })

  topmost_heavy : (v : ℕ) → v < size y → weight y.parents v ≤ weight y.parents (topmost y v)
  topmost_heavy = part_ind (λ v. weight y.parents v ≤ weight y.parents (topmost y v)) (λ v l e. rw (topmost_cut v l e) (omega arith)) (λ v l e ih. rw e (omega (arith, ih, parent_heavy v l)))
    where
      parent_heavy : (v : ℕ) → v < size y → weight y.parents v ≤ weight y.parents (parent y v)
      parent_heavy v l = go (ℕ_discrete v (parent y v))
        where
          go : Dec (v ≡ parent y v) → weight y.parents v ≤ weight y.parents (parent y v)
          go (yes q) = rw (← q) (omega arith)
          go (no d) = omega (arith, weight_child (wood y t) (parent y v) v ((wood y t).parent_lt v l) (record { lt = l; up = refl; other = d }))

  pub topmost_heavier : (v : ℕ) → v < size y → topmost y v ≢ v → weight y.parents v < weight y.parents (topmost y v)
  topmost_heavier v l d = go (is_cut y v) refl
    where
      go : (b : Bool) → is_cut y v ≡ b → weight y.parents v < weight y.parents (topmost y v)
      go true e = absurd (d (topmost_cut v l e))
      go false e = rw (topmost_uncut v l e) (omega (arith, parent_heavier v l e, topmost_heavy (parent y v) ((wood y t).parent_lt v l)))

  -- a part lies below its topmost node, and just the nodes whose edge is cut are topmost (the root among them)
  pub topmost_inside : (v : ℕ) → v < size y → inside y.parents (topmost y v) v ≡ true
  topmost_inside = part_ind (λ v. inside y.parents (topmost y v) v ≡ true) (λ v l e. rw (topmost_cut v l e) (inside_self (wood y t) v))
      (λ v l e ih. rw (e, inside_step y.parents (wood y t).parent_lt (topmost y (parent y v)) v l, ih) (or-true (eqb v (topmost y (parent y v)))))

  pub top_cut : (v : ℕ) → v < size y → Top y v ↔ (is_cut y v ≡ true)
  top_cut v l = ((λ o. go (is_cut y v) refl o), λ e. record { lt = l; own = topmost_cut v l e })
    where
      go : (b : Bool) → is_cut y v ≡ b → Top y v → is_cut y v ≡ true
      go true e o = e
      go false e o = absurd (false≢true (
          sym (parent_outside (wood y t) v l (λ q. false≢true (sym e ∙ ap (is_cut y) q ∙ root_cut)))
          ∙ ap (λ (u : ℕ). inside y.parents u (parent y v)) (sym o.own ∙ topmost_uncut v l e)
          ∙ topmost_inside (parent y v) ((wood y t).parent_lt v l)
          ))

  -- the parts' topmost nodes are listed, and each node lies in the part of one of them, and in no other part
  pub tops_all : (Q : ℕ → Type 0) → All Q (tops y) ↔ ((s : ℕ) → Top y s → Q s)
  unfolding tops
  tops_all Q = (
    (λ a s o. below_all Q (λ v. eqb (topmost y v) v) (size y) a s o.lt (eq-eqb (topmost y s) s o.own)),
    λ h. all_below Q (λ v. eqb (topmost y v) v) (size y) (λ v l e. h v (record { lt = l; own = eqb-true (topmost y v) v e })),
  )

  pub part_one : (v : ℕ) → v < size y → Top y (topmost y v) × ((s : ℕ) → (in_part y s v ≡ true) ↔ (s ≡ topmost y v))
  part_one v l = (topmost_top v l, λ s. ((λ e. sym (eqb-true (topmost y v) s e)), λ e. eq-eqb (topmost y v) s (sym e)))

  pub part_closed : (s : ℕ) → Closed (in_part y s) y
  part_closed s c l n = ap (λ (u : ℕ). eqb u s) (topmost_parent c l n)

  pub part_tree : (s : ℕ) → Tree (part_yard y s)
  part_tree s = struck_tree t (masked_struck (in_part y s) y t)

  pub part_need : (s : ℕ) (b : Bool) (v : ℕ) → v < size y → need (part_yard y s) b v ≡ cond (in_part y s v) (need y b v) 0
  part_need s = struck_need t (masked_struck (in_part y s) y t) (part_closed s)

  pub part_imbalance : (s v : ℕ) → v < size y → imbalance (part_yard y s) v ≡ cond (in_part y s v) (imbalance y v) 0
  part_imbalance s = struck_imbalance t (masked_struck (in_part y s) y t) (part_closed s)

  pub part_demand : (s v : ℕ) → v < size y → demand (part_yard y s) v ≡ cond (in_part y s v) (demand y v) (pos 0)
  part_demand s v l = demand_is (part_yard y s) v ∙ rw (part_need s true v l, part_need s false v l) (go (in_part y s v))
    where
      go : (b : Bool) → sub_ℕ (cond b (lacking y v) 0) (cond b (surplus y v) 0) ≡ cond b (demand y v) (pos 0)
      go true = sym (demand_is y v)
      go false = refl

  pub part_matched : (s : ℕ) → Matched (part_yard y s)
  part_matched s = struck_matched t (masked_struck (in_part y s) y t) (part_closed s) m

  -- the planner's moves within a part are, in their order, the part's plan
  pub part_struck : (s : ℕ) → kept (lies_in (in_part y s)) (plan y) ≡ plan (part_yard y s)
  part_struck s = plan_struck (in_part y s) y t m (part_closed s)

  -- so the part's plan has moves of the part alone
  pub part_plan : (s : ℕ) → All (λ m. lies_in (in_part y s) m ≡ true) (plan (part_yard y s))
  part_plan s = subst (All (λ m. lies_in (in_part y s) m ≡ true)) (part_struck s) (all_kept (lies_in (in_part y s)) (plan y))

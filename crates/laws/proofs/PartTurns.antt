-- The call's loop over the parts (request 2.11): each part is planned from its topmost node, passing over children in other parts, in the yard
-- that the plans of the parts before leave. What that gives is the plan of the part's own yard.
use mathlib.Core.Path.{◌≡◌, refl, sym, ap, ◌∙◌, subst}
use mathlib.Core.Logic.{◌≢◌, ◌⊎◌, inl, inr}
use mathlib.Core.Bool.{Bool, true, false, not, cond}
use mathlib.Core.List.{List, [], ◌∷◌, ◌++◌, append-nil, map, flatten}
use Prim.Native.Nat.{ℕ, zero, suc, ◌≤◌, ◌<◌}
use native.Mathlib.Omega.{arith}
use native.Mathlib.Decide.{ℕ_discrete, dec_lt}
use lib.ListN.{length}
use lib.Dec.{ltb, eqb}
use borrow.Author.Tests.{lt-ltb, le-ltb, eqb-true, eqb-false, eq-eqb, ne_eqb}
use Rattle.model.specs.Yard.{Yard, size, parent, inside, imbalance, below, Matched}
use Rattle.model.specs.Judge.{Tree}
use Rattle.model.specs.Push.{Move, after, run}
use Rattle.model.specs.Plan.{plan, choice, fills}
use Rattle.model.specs.Parts.{is_cut, topmost, in_part, tops, masked, part_yard, parts_plan}
use Rattle.laws.specs.Parts.{Top, lies_in, lies_in_one, kept, Mingling}
use Rattle.laws.proofs.Basics.{All, all_map, all_both, all_append}
use Rattle.laws.proofs.Ranges.{flatten_last}
use Rattle.laws.specs.Choice.{Child}
use Rattle.laws.proofs.Trees.{inside_split, inside_trans, child_above}
use Rattle.laws.proofs.Judged.{wood}
use Rattle.laws.proofs.Shortest.{Good, good_append, good_tree, keeps}
use Rattle.laws.proofs.Moves.{accepted_obeys}
use Rattle.laws.proofs.Demand3.{plan_optimal, plan_length}
use Rattle.laws.specs.Algorithms.{Balances}
use Rattle.laws.proofs.Balance.{Even, Fit}
use Rattle.laws.proofs.Kept.{kept_append, kept_all}
use Rattle.laws.proofs.Struck.{Struck, masked_struck, struck_run}
use Rattle.laws.proofs.Striking.{Sided, sided_one, sided_kept, closed_run}
use Rattle.laws.proofs.Own.{Only, plan_below, below_plan, BalancesIn, balances_in_same, balances_in_good, Whole, own_balances}
use Rattle.laws.proofs.Parts.{part_ind, topmost_top, topmost_cut, topmost_uncut, topmost_inside, top_cut, part_closed, part_tree, part_matched, part_imbalance, part_plan}
use Rattle.laws.proofs.Mingling.{lies_same, obeys_in, mingled_length}

-- The loop over the parts: the plans of those whose topmost nodes are below i
module _ (y : Yard) where
  unfoldable pub parts_before : ℕ → List Move
  parts_before i = flatten (map (λ s. plan (part_yard y s)) (below i (λ v. eqb (topmost y v) v)))

  pub parts_before_none : parts_before 0 ≡ []
  unfolding parts_before below flatten
  parts_before_none = refl

  pub parts_before_all : parts_before (size y) ≡ parts_plan y
  unfolding parts_before parts_plan tops
  parts_before_all = refl

  parts_before_step : (i : ℕ) → parts_before (suc i) ≡ parts_before i ++ cond (eqb (topmost y i) i) (plan (part_yard y i)) []
  unfolding parts_before below
  parts_before_step i = flatten_last (λ s. plan (part_yard y s)) (below i (λ v. eqb (topmost y v) v)) i (eqb (topmost y i) i)

  -- a node that is not topmost adds nothing
  pub parts_pass : (i : ℕ) → topmost y i ≢ i → parts_before (suc i) ≡ parts_before i
  parts_pass i d = rw (parts_before_step i, ne_eqb (topmost y i) i d) (append-nil (parts_before i))

module _ (y : Yard) (t : Tree y) (m : Matched y) where
  pub top_even : (s : ℕ) → Top y s → Even y s
  top_even s o = eqb-true (imbalance y s) 0 ((top_cut y t m s o.lt).0 o)

  -- in a part's own yard pebbles are due only strictly inside its topmost node
  pub part_due : (s : ℕ) → Top y s → Only (part_yard y s) (part_tree y t m s) s
  part_due s o v l n = go (in_part y s v) refl (part_imbalance y t m s v l)
    where
      go : (b : Bool) → in_part y s v ≡ b → imbalance (part_yard y s) v ≡ cond b (imbalance y v) 0 → (inside y.parents s v ≡ true) × (v ≢ s)
      go true e f = (subst (λ u. inside y.parents u v ≡ true) (eqb-true (topmost y v) s e) (topmost_inside y t m v l), λ q. odd (ap (imbalance y) q))
        where
          odd : imbalance y v ≡ imbalance y s → ⊥
          odd q = omega (arith, top_even s o)
      go false e f = absurd (omega arith)

  -- so the part's plan is what balancing its topmost node gives: the part is a yard of its own
  pub part_from_top : (s : ℕ) → Top y s → Balances fills choice (part_yard y s) (s ∷ []) (plan (part_yard y s))
  part_from_top s o = below_plan (part_yard y s) (part_tree y t m s) (part_matched y t m s) s o.lt (part_due s o)

  -- a part has no node inside a child that is not in it: climbing from it would end before it met that child, and so the part's topmost node
  -- would be inside the child too
  pub part_whole : (s : ℕ) → Whole (in_part y s) y
  part_whole s u c k a b v l i = ne_eqb (topmost y v) s (λ e. child_above (wood y t) u c k (inside_trans (wood y t) c s u (top_lt v l e) u_lt (meets v l i e) u_inside))
    where
      u_lt : u < size y
      u_lt = subst (λ u. u < size y) k.up ((wood y t).parent_lt c k.lt)

      u_inside : inside y.parents s u ≡ true
      u_inside = subst (λ r. inside y.parents r u ≡ true) (eqb-true (topmost y u) s a) (topmost_inside y t m u u_lt)

      top_lt : (v : ℕ) → v < size y → topmost y v ≡ s → s < size y
      top_lt v l e = subst (λ r. r < size y) e (topmost_top y t m v l).lt

      meets : (v : ℕ) → v < size y → inside y.parents c v ≡ true → topmost y v ≡ s → inside y.parents c s ≡ true
      meets = part_ind y t m (λ v. inside y.parents c v ≡ true → topmost y v ≡ s → inside y.parents c s ≡ true)
          (λ v l f i e. subst (λ r. inside y.parents c r ≡ true) (sym (topmost_cut y t m v l f) ∙ e) i) (λ v l f ih i e. go v (inside_split (wood y t) c v l i) f ih e)
        where
          go : (v : ℕ) → (v ≡ c) ⊎ (inside y.parents c (parent y v) ≡ true) → topmost y v ≡ topmost y (parent y v)
              → (inside y.parents c (parent y v) ≡ true → topmost y (parent y v) ≡ s → inside y.parents c s ≡ true) → topmost y v ≡ s → inside y.parents c s ≡ true
          go v (inl q) f ih e = absurd (eqb-false (topmost y c) s b (ap (topmost y) (sym q) ∙ e))
          go v (inr j) f ih e = ih j (sym f ∙ e)

  -- A turn: moves outside the part have been made, and its topmost node is balanced, passing over children in other parts
  pub part_turn : (s : ℕ) → Top y s → (ms : List Move) → Good y ms → All (Sided (in_part y s) false) ms → (ns : List Move) → BalancesIn (in_part y s) (run y ms) (s ∷ []) ns
      → (ns ≡ plan (part_yard y s)) × Good y (ms ++ ns)
  unfolding after
  part_turn s o ms g a ns b = (
    plan_below (part_yard y s) (part_tree y t m s) (part_matched y t m s) s o.lt (part_due s o) ns
        (own_balances p b tree fit (eq-eqb (topmost y s) s o.own, tt) (closed_run p y t ms g (part_closed y t m s)) (part_whole s) (masked p y.pebbles) (masked p y.targets) marks).1,
    good_append y ms ns g (balances_in_good p b tree fit),
  )
    where
      p : ℕ → Bool
      p = in_part y s

      tree : Tree (run y ms)
      tree = good_tree y t ms g

      fit : All (Fit (run y ms)) (s ∷ [])
      fit = ((o.lt, omega (arith, top_even s o, keeps y t ms g s o.lt)), tt)

      marks : Struck p (run y ms) (masked p y.pebbles) (masked p y.targets)
      marks = subst (λ ns. Struck p (run y ms) (after (part_yard y s) ns) (masked p y.targets)) (sided_kept p false ms a)
          (struck_run p y t ms g.obeyed (sided_one p false ms a) (masked p y.pebbles) (masked p y.targets) (masked_struck p y t)).1

  -- a part's plan has no move in another part
  foreign : (s i : ℕ) → i ≢ s → All (Sided (in_part y s) false) (plan (part_yard y i))
  foreign s i d = all_map (λ n. lies_in (in_part y i) n ≡ true) (Sided (in_part y s) false) (plan (part_yard y i)) (λ n e. let h = lies_same y i n e in (rw h.0 (ne_eqb i s d), rw h.1 (ne_eqb i s d))) (part_plan y t m i)

  foreign_last : (s i : ℕ) → i ≢ s → (b : Bool) → All (Sided (in_part y s) false) (cond b (plan (part_yard y i)) [])
  foreign_last s i d true = foreign s i d
  foreign_last s i d false = tt

  before_outside : (s i : ℕ) → i ≤ s → All (Sided (in_part y s) false) (parts_before y i)
  before_outside s zero l = rw (parts_before_none y) tt
  before_outside s (suc i) l = rw (parts_before_step y i) (all_append (Sided (in_part y s) false) (parts_before y i) _ (before_outside s i (omega arith)) (foreign_last s i (omega arith) (eqb (topmost y i) i)))

  -- so the parts' plans, one behind the other, are a mingling of them
  part_lies : (s : ℕ) → All (λ n. lies_in_one y n ≡ true) (plan (part_yard y s))
  part_lies s =
      all_map (λ n. (n.from < size y) × (lies_in (in_part y s) n ≡ true)) (λ n. lies_in_one y n ≡ true) (plan (part_yard y s))
      (λ n h. let e = lies_same y s n h.1 in rw (lt-ltb n.from (size y) h.0, e.0, e.1) (eq-eqb s s refl))
      (all_both (λ n. n.from < size y) (λ n. lies_in (in_part y s) n ≡ true) (plan (part_yard y s))
      (obeys_in (accepted_obeys (part_yard y s) (part_tree y t m s) (plan (part_yard y s)) (plan_optimal (part_yard y s) (part_tree y t m s) (part_matched y t m s)).obeyed)) (part_plan y t m s))

  before_lies : (i : ℕ) → All (λ n. lies_in_one y n ≡ true) (parts_before y i)
  before_lies zero = rw (parts_before_none y) tt
  before_lies (suc i) = rw (parts_before_step y i) (all_append (λ n. lies_in_one y n ≡ true) (parts_before y i) _ (before_lies i) (go (eqb (topmost y i) i)))
    where
      go : (b : Bool) → All (λ n. lies_in_one y n ≡ true) (cond b (plan (part_yard y i)) [])
      go true = part_lies i
      go false = tt

  before_kept : (s : ℕ) → topmost y s ≡ s → (i : ℕ) → kept (lies_in (in_part y s)) (parts_before y i) ≡ cond (ltb s i) (plan (part_yard y s)) []
  unfolding kept
  before_kept s o zero = rw (parts_before_none y, le-ltb s 0 (omega arith))
  before_kept s o (suc i) = rw (parts_before_step y i, kept_append (lies_in (in_part y s)) (parts_before y i), before_kept s o i) (go (ℕ_discrete i s))
    where
      go : Dec (i ≡ s) → cond (ltb s i) (plan (part_yard y s)) [] ++ kept (lies_in (in_part y s)) (cond (eqb (topmost y i) i) (plan (part_yard y i)) []) ≡ cond (ltb s (suc i)) (plan (part_yard y s)) []
      go (yes q) = rw (q, le-ltb s s (omega arith), lt-ltb s (suc s) (omega arith), eq-eqb (topmost y s) s o) (kept_all (lies_in (in_part y s)) (plan (part_yard y s)) (part_plan y t m s))
      go (no d) = rw (sided_kept (in_part y s) false _ (foreign_last s i d (eqb (topmost y i) i)), append-nil (cond (ltb s i) (plan (part_yard y s)) [])) (ap (λ (b : Bool). cond b (plan (part_yard y s)) []) same)
        where
          same : ltb s i ≡ ltb s (suc i)
          same = at (dec_lt s i)
            where
              at : Dec (s < i) → ltb s i ≡ ltb s (suc i)
              at (yes l) = lt-ltb s i l ∙ sym (lt-ltb s (suc i) (omega arith))
              at (no l) = le-ltb s i (omega arith) ∙ sym (le-ltb s (suc i) (omega arith))

  pub parts_mingling : Mingling y (parts_plan y)
  parts_mingling = record {
    lie = rw (← (parts_before_all y)) (kept_all (lies_in_one y) (parts_before y (size y)) (before_lies (size y)));
    parts = λ s o. rw (← (parts_before_all y), before_kept s o.own (size y), lt-ltb s (size y) o.lt);
  }

  pub parts_plan_length : length (parts_plan y) ≡ length (plan y)
  parts_plan_length = mingled_length y t m (parts_plan y) parts_mingling ∙ sym (plan_length y t m)

  -- of the children of a node in a part just those are in the part that are not topmost themselves
  child_in : (s u c : ℕ) → Child y.parents u c → in_part y s u ≡ true → not (eqb (topmost y c) c) ≡ in_part y s c
  child_in s u c k e = go (is_cut y c) refl
    where
      below_top : c ≢ s
      below_top q =
          let l : u < size y = subst (λ u. u < size y) k.up ((wood y t).parent_lt c k.lt) in
          child_above (wood y t) u c k (subst (λ r. inside y.parents r u ≡ true) (eqb-true (topmost y u) s e ∙ sym q) (topmost_inside y t m u l))

      go : (b : Bool) → is_cut y c ≡ b → not (eqb (topmost y c) c) ≡ in_part y s c
      go true f = rw (topmost_cut y t m c k.lt f, eq-eqb c c refl, ne_eqb c s below_top)
      go false f =
          let g : topmost y c ≡ s = topmost_uncut y t m c k.lt f ∙ ap (topmost y) k.up ∙ eqb-true (topmost y u) s e in
          rw (g, eq-eqb s s refl, ne_eqb s c (λ q. below_top (sym q)))

  -- a topmost node adds its part's plan
  pub parts_turn : (i : ℕ) → Top y i → Good y (parts_before y i) → (p : ℕ → Bool) → ((c : ℕ) → c < size y → p c ≡ not (eqb (topmost y c) c)) → (ns : List Move) → BalancesIn p (run y (parts_before y i)) (i ∷ []) ns
      → (parts_before y (suc i) ≡ parts_before y i ++ ns) × Good y (parts_before y (suc i))
  parts_turn i o g p h ns b =
      let r = part_turn i o (parts_before y i) g (before_outside i i (omega arith)) ns (balances_in_same b (λ u c k e. h c k.lt ∙ child_in i u c k e) (eq-eqb (topmost y i) i o.own, tt)) in
      let e : parts_before y (suc i) ≡ parts_before y i ++ ns = parts_before_step y i ∙ rw (eq-eqb (topmost y i) i o.own, r.0) in
      (e, rw e r.1)

-- Algorithm 1. Each turn of the loop at u lowers the shortest length, so the loop ends with the children's demands at 0; what has its
-- demand at 0 keeps it, so balancing the children one after another brings every demand below u to 0. The moves are determined by the yard,
-- so the plan is the same whatever bounds its recursions and loops, if only these do not run out.
use mathlib.Core.Path.{◌≡◌, refl, sym, subst}
use mathlib.Core.Bool.{Bool, true, false, ◌&&◌}
use mathlib.Core.List.{List, [], ◌∷◌, ◌++◌, append-nil}
use Prim.Native.Nat.{ℕ, zero, suc, ◌+◌, ◌≤◌, ◌<◌}
use native.Mathlib.Omega.{arith}
use native.Mathlib.Decide.{ℕ_discrete}
use lib.ListN.{length}
use borrow.Author.Tests.{ltb-true, ltb-false}
use Rattle.model.specs.Yard.{Yard, size, pebble, held, holding, root, inside, lacking, surplus, imbalance, shortest, is_child, children, Matched}
use Rattle.model.specs.Judge.{Tree}
use Rattle.model.specs.Push.{Move, after, run}
use Rattle.model.specs.Plan.{needy, nonempty, Rule, choice, Side, fills, turn, settle, each, balance, plan_within, enough, plan_by, plan}
use Rattle.laws.proofs.Basics.{All, all_map, all_below, below_all}
use Rattle.laws.proofs.Sums.{sum_term}
use Rattle.laws.specs.Choice.{Child, Needy}
use Rattle.laws.proofs.Trees.{is_child_law, child_is}
use Rattle.laws.proofs.Judged.{facts, wood}
use Rattle.laws.proofs.Demands.{over_children, child_le, weight, weight_child, weight_pos, weight_le, inside_child, root_even, parts_children}
use Rattle.laws.specs.Algorithms.{need, Serves, Settles, settled, turned, Balances, none, next}
use Rattle.laws.proofs.Runs.{after_append}
use Rattle.laws.proofs.Choice.{Sound, all_needy, none_needy, none_over, choice_sound}
use Rattle.laws.proofs.Shortest.{Good, good_nil, good_append, good_tree, keeps}
use Rattle.laws.proofs.Plan.{turn_fills, turn_draws, settle_end, settle_turn, balance_children, each_cons}
use Rattle.laws.proofs.Serve.{Able, Due, chosen_due, serves_same, serves_shift, inject_serves, extract_serves}

-- a demand of 0
abbrev pub Even : Yard → ℕ → Type 0
Even y v = imbalance y v ≡ 0

-- both are determined by the yard
nil_cons : {c : ℕ} {cs ns : List ℕ} → ns ≡ [] → ns ≡ c ∷ cs → ⊥
nil_cons e f = let z : ◌≡◌ {A = ℕ} 0 1 = cc in omega arith

pub settles_same : {side : Side} {rule : Rule} {y : Yard} {u : ℕ} {ms ns : List Move} → Settles side rule y u ms → Settles side rule y u ns → ms ≡ ns
settles_same (settled e) (settled f) = refl
settles_same (settled e) (turned f s r) = absurd (nil_cons e f)
settles_same (turned e s r) (settled f) = absurd (nil_cons f e)
settles_same {side} {rule} {y} {u} (turned {ms = ms} {ns = ns} e s r) (turned {ms = ms'} {ns = ns'} f s' r') = go (serves_same s s') (λ ls x. settles_same r x)
  where
    go : ms ≡ ms' → ((ls : List Move) → Settles side rule (run y ms) u ls → ns ≡ ls) → ms ++ ns ≡ ms' ++ ns'
    go q ih = rw (ih ns' (rw q r'), q)

pub balances_same : {side : Side} {rule : Rule} {y : Yard} {us : List ℕ} {ms ns : List Move} → Balances side rule y us ms → Balances side rule y us ns → ms ≡ ns
balances_same none none = refl
balances_same {side} {rule} {y} (next {u = u} {us = us} {ms = ms} {ns = ns} {ps = ps} s b r) (next {ms = ms'} {ns = ns'} {ps = ps'} s' b' r') = go (settles_same s s') (λ ls x. balances_same b x) (λ ls x. balances_same r x)
  where
    go : ms ≡ ms' → ((ls : List Move) → Balances side rule (run y ms) (children y u) ls → ns ≡ ls) → ((ls : List Move) → Balances side rule (run y (ms ++ ns)) us ls → ps ≡ ls)
        → ms ++ ns ++ ps ≡ ms' ++ ns' ++ ps'
    go q bh rh =
        let e : ns ≡ ns' = bh ns' (rw q b') in
        rw (rh ps' (rw (e, q) r'), e, q)

-- the child that a turn serves
pub first_needy : (y : Yard) (u c : ℕ) (cs : List ℕ) → needy (imbalance y) y u ≡ c ∷ cs → Child y.parents u c × (0 < imbalance y c)
first_needy y u c cs q = (subst (All (λ c. Child y.parents u c × (0 < imbalance y c))) q (all_needy (imbalance y) y u)).0

-- moves that are good, and after which the children of u are even
pub record EvenKids (y : Yard) (u : ℕ) (ms : List Move) : Type 0 where
  pub good : Good y ms
  pub kids : (c : ℕ) → Child y.parents u c → Even (run y ms) c

-- all inside c is even
abbrev pub Done : Yard → ℕ → Type 0
Done y c = (v : ℕ) → v < size y → inside y.parents c v ≡ true → Even y v

-- what a node needs to be balanced
abbrev pub Fit : Yard → ℕ → Type 0
Fit y c = (c < size y) × Even y c

pub fit_children : (y : Yard) (u : ℕ) (ms : List Move) → EvenKids y u ms → All (Fit (run y ms)) (children y u)
fit_children y u ms s = all_below (Fit (run y ms)) (is_child y.parents u) (size y) (λ c m q. (m, s.kids c (is_child_law y.parents u c m q)))

pub fit_run : (y : Yard) → Tree y → (ms : List Move) → Good y ms → (us : List ℕ) → All (Fit y) us → All (Fit (run y ms)) us
fit_run y t ms g us = all_map (Fit y) (Fit (run y ms)) us (λ v h. (h.0, omega (arith, h.1, keeps y t ms g v h.0)))

done_node : (y : Yard) → Tree y → (u : ℕ) → (ms : List Move) → Even (run y ms) u → All (Done (run y ms)) (children y u) → Done (run y ms) u
done_node y t u ms e a v m i = go (ℕ_discrete v u)
  where
    go : Dec (v ≡ u) → Even (run y ms) v
    go (yes q) = rw q e
    go (no d) =
        let c = inside_child (wood y t) u v m i d in
        below_all (Done (run y ms)) (is_child y.parents u) (size y) a c.0 c.1.lt (child_is y.parents u c.0 c.1) v m c.2

pub root_fit : (y : Yard) → Tree y → Matched y → All (Fit y) (root y ∷ [])
root_fit y t m = (((wood y t).root_lt, root_even y t m), tt)

-- how deep the tree may be below a node
abbrev pub Low : Yard → ℕ → ℕ → Type 0
Low y d c = weight y.parents c ≤ d

-- a side of turns is sound in a yard, whatever its pebbles, if at an even node with a child that is not, it takes a way that is open: the node can
-- give a pebble and some child lacks one, or it has a place and some child has one too many
abbrev pub Open : Yard → ℕ → Bool → Type 0
Open y u b = Able y b u × (0 < over_children y.parents (need y b) u)

abbrev pub Steers : Side → Yard → Type 0
Steers side y = (ps : List ℕ) → Tree (holding y ps) → (u : ℕ) → u < size y → Even (holding y ps) u → (c : ℕ) → Child y.parents u c → 0 < imbalance (holding y ps) c
    → Open (holding y ps) u (side (holding y ps) u)

-- request 2.10's side is sound in every yard: where u is empty, or holds fewer than its targets as no child lacks any, some child has one too many
pub fills_steers : (y : Yard) → Steers fills y
unfolding fills
fills_steers o ps t u l e c k n = go (held y u) refl (needy (lacking y) y u) refl
  where
    y : Yard
    y = holding o ps

    uneven : 0 < over_children y.parents (lacking y) u + over_children y.parents (surplus y) u
    uneven = omega (arith, child_le y.parents (lacking y) u c k, child_le y.parents (surplus y) u c k)

    go : (h : Bool) → held y u ≡ h → (vs : List ℕ) → needy (lacking y) y u ≡ vs → Open y u (h && (nonempty vs))
    go false h vs q =
        let p : pebble y u ≤ 0 = ltb-false 0 (pebble y u) h in
        (omega (arith, (facts y t).capacity_pos u l), omega (arith, uneven, parts_children y t u l))
    go true h [] q = let z = none_over (lacking y) y u q in (omega (arith, uneven, parts_children y t u l, (facts y t).target_le u l), omega (arith, uneven))
    go true h (v ∷ vs) q =
        let a = (subst (All (Needy (lacking y) y u)) q (all_needy (lacking y) y u)).0 in
        (ltb-true 0 (pebble y u) h, omega (arith, a.1, child_le y.parents (lacking y) u v a.0))

module _ (side : Side) (rule : Rule) (sound : Sound rule) where
  pub turn_chosen : (y : Yard) → Tree y → Steers side y → (u : ℕ) → u < size y → Even y u → (c : ℕ) → Child y.parents u c → 0 < imbalance y c
      → Child y.parents u (rule (need y (side y u)) y u) × Due y (side y u) (rule (need y (side y u)) y u)
  turn_chosen y t st u l e c k n = let a = st y.pebbles t u l e c k n in chosen_due rule sound y t (side y u) u a.0 a.1

  pub turn_due : (y : Yard) → Tree y → Steers side y → (u : ℕ) → u < size y → Even y u → (c : ℕ) → Child y.parents u c → 0 < imbalance y c
      → Due y (side y u) (rule (need y (side y u)) y u)
  turn_due y t st u l e c k n = (turn_chosen y t st u l e c k n).1

  pub turned_shift : {y : Yard} {u c : ℕ} {cs : List ℕ} {ms : List Move} → Tree y → Steers side y → u < size y → Even y u → needy (imbalance y) y u ≡ c ∷ cs
      → Serves rule y (side y u) (rule (need y (side y u)) y u) ms → Good y ms × (0 < length ms)
  turned_shift {y} {u} {c} {cs} t st l e q s =
      let n = first_needy y u c cs q in
      let h = serves_shift rule sound y t s (turn_due y t st u l e c n.0 n.1) in
      (h.good, h.some)

  pub settles_good : {y : Yard} {u : ℕ} {ms : List Move} → Settles side rule y u ms → Tree y → Steers side y → u < size y → Even y u → EvenKids y u ms
  unfolding after
  settles_good {y} {u} (settled q) t st l e = record { good = good_nil y; kids = none_needy (imbalance y) y u q }
  settles_good {y} {u} (turned {ms = ms} {ns = ns} q s r) t st l e =
      let g = turned_shift t st l e q s in
      let h = settles_good r (good_tree y t ms g.0) st l (omega (arith, keeps y t ms g.0 u l)) in
      record { good = good_append y ms ns g.0 h.good; kids = rw (after_append ms ns y) h.kids }

  pub balances_good : {y : Yard} {us : List ℕ} {ms : List Move} → Balances side rule y us ms → Tree y → Steers side y → All (Fit y) us → Good y ms × All (Done (run y ms)) us
  balances_good {y} none t st a = (good_nil y, tt)
  balances_good {y} (next {u = u} {us = us} {ms = ms} {ns = ns} {ps = ps} s b r) t st a =
      let h = settles_good s t st a.0.0 a.0.1 in
      let kids = balances_good b (good_tree y t ms h.good) st (fit_children y u ms h) in
      let g = good_append y ms ns h.good kids.0 in
      let z = good_tree y t (ms ++ ns) g in
      let rest = balances_good r z st (fit_run y t (ms ++ ns) g us a.1) in
      let done : Done (run y (ms ++ ns)) u = done_node y t u (ms ++ ns) (omega (arith, a.0.1, keeps y t (ms ++ ns) g u a.0.0)) (rw (after_append ms ns y) kids.1) in (
        good_append y (ms ++ ns) ps g rest.0,
        subst (λ (ks : List ℕ). All (Done (holding y ks)) (u ∷ us)) (sym (after_append (ms ++ ns) ps y))
            ((λ v l i. omega (arith, done v l i, keeps (run y (ms ++ ns)) z ps rest.0 v l)), rest.1),
      )

  -- bounds that do not run out: two calls for each node on the way down, and a turn for each move of the shortest length
  turn_serves : (k : ℕ) (y : Yard) → Tree y → Steers side y → (u : ℕ) → u < size y → Even y u → size y + size y ≤ k → (c : ℕ) (cs : List ℕ) → needy (imbalance y) y u ≡ c ∷ cs
      → Serves rule y (side y u) (rule (need y (side y u)) y u) (turn side rule k y u)
  turn_serves k y t st u l e f c cs q = let n = first_needy y u c cs q in go (side y u) refl (turn_due y t st u l e c n.0 n.1)
    where
      go : (b : Bool) → side y u ≡ b → Due y b (rule (need y b) y u) → Serves rule y b (rule (need y b) y u) (turn side rule k y u)
      go true h d = rw (turn_fills side rule k y u h) (inject_serves rule sound y t k (rule (lacking y) y u) d (omega (arith, weight_le y.parents (rule (lacking y) y u))))
      go false h d = rw (turn_draws side rule k y u h) (extract_serves rule sound y t k (rule (surplus y) y u) d (omega (arith, weight_le y.parents (rule (surplus y) y u))))

  settle_settles : (k t : ℕ) (y : Yard) → Tree y → Steers side y → (u : ℕ) → u < size y → Even y u → size y + size y ≤ k → shortest y ≤ t → Settles side rule y u (settle side rule k t y u)
  unfolding settle shortest
  settle_settles k zero y tr st u l e f h = go (needy (imbalance y) y u) refl
    where
      go : (ns : List ℕ) → needy (imbalance y) y u ≡ ns → Settles side rule y u []
      go [] q = settled q
      go (c ∷ cs) q = let n = first_needy y u c cs q in absurd (omega (arith, n.1, sum_term (size y) c (imbalance y) n.0.lt))
  settle_settles k (suc t) y tr st u l e f h = go (needy (imbalance y) y u) refl (settle_settles k t)
    where
      go : (ns : List ℕ) → needy (imbalance y) y u ≡ ns
          → ((z : Yard) → Tree z → Steers side z → (u : ℕ) → u < size z → Even z u → size z + size z ≤ k → shortest z ≤ t → Settles side rule z u (settle side rule k t z u))
          → Settles side rule y u (settle side rule k (suc t) y u)
      go [] q ih = rw (settle_end side rule k y u t q) (settled q)
      go (c ∷ cs) q ih =
          let s = turn_serves k y tr st u l e f c cs q in
          let g = turned_shift tr st l e q s in
          rw (settle_turn side rule k y u t c cs q)
          (turned q s (ih (run y (turn side rule k y u)) (good_tree y tr (turn side rule k y u) g.0) st u l (omega (arith, keeps y tr (turn side rule k y u) g.0 u l)) f (omega (arith, g.0.spends, g.1))))

  module _ (k : ℕ) where
    abbrev pub Enough : ℕ → Type 0
    Enough d = (us : List ℕ) (y : Yard) → Tree y → Steers side y → enough y ≤ k → All (Fit y) us → All (Low y d) us → Balances side rule y us (each (balance side rule k d) y us)

    each_balances : (d : ℕ) → Enough d → Enough (suc d)
    unfolding each
    each_balances d ih [] y t st f a w = none
    each_balances d ih (u ∷ us) y t st f a w = rw (each_cons (balance side rule k (suc d)) y u us, balance_children side rule k y u d) (next s kids (each_balances d ih us z (good_tree y t (ms ++ ns) g) st (omega (arith, g.spends)) (fit_run y t (ms ++ ns) g us a.1) w.1))
      where
        ms : List Move
        ms = settle side rule k k y u

        s : Settles side rule y u ms
        s = settle_settles k k y t st u a.0.0 a.0.1 (omega arith) (omega arith)

        h : EvenKids y u ms
        h = settles_good s t st a.0.0 a.0.1

        ns : List Move
        ns = each (balance side rule k d) (run y ms) (children y u)

        kids : Balances side rule (run y ms) (children y u) ns
        kids = ih (children y u) (run y ms) (good_tree y t ms h.good) st (omega (arith, h.good.spends)) (fit_children y u ms h)
            (all_below (Low y d) (is_child y.parents u) (size y) (λ c m q. omega (arith, w.0, weight_child (wood y t) u c a.0.0 (is_child_law y.parents u c m q))))

        g : Good y (ms ++ ns)
        g = good_append y ms ns h.good (balances_good kids (good_tree y t ms h.good) st (fit_children y u ms h)).0

        z : Yard
        z = run y (ms ++ ns)

    pub balance_balances : (d : ℕ) → Enough d
    unfolding each
    balance_balances zero [] y t st f a w = none
    balance_balances zero (u ∷ us) y t st f a w = absurd (omega (arith, w.0, weight_pos (wood y t) u a.0.0))
    balance_balances (suc d) us y t st f a w = each_balances d (balance_balances d) us y t st f a w

  -- the plan
  module _ (y : Yard) (t : Tree y) (st : Steers side y) (m : Matched y) where
    within_balances : (k : ℕ) → enough y ≤ k → Balances side rule y (root y ∷ []) (plan_within side rule k y)
    unfolding plan_within each
    within_balances k f = rw (← (append-nil (balance side rule k k y (root y)))) (balance_balances k k (root y ∷ []) y t st f (root_fit y t m) (omega (arith, weight_le y.parents (root y))))

    pub plan_by_balances : Balances side rule y (root y ∷ []) (plan_by side rule y)
    unfolding plan_by
    plan_by_balances = within_balances (enough y) (omega arith)

    -- more fuel changes nothing
    pub plan_by_within : (k : ℕ) → enough y ≤ k → plan_within side rule k y ≡ plan_by side rule y
    plan_by_within k f = balances_same (within_balances k f) plan_by_balances

    -- whatever balances the root is the plan
    pub plan_by_only : (ms : List Move) → Balances side rule y (root y ∷ []) ms → ms ≡ plan_by side rule y
    plan_by_only ms b = balances_same b plan_by_balances

    balanced : Good y (plan_by side rule y) × All (Done (run y (plan_by side rule y))) (root y ∷ [])
    balanced = balances_good plan_by_balances t st (root_fit y t m)

    pub plan_by_good : Good y (plan_by side rule y)
    plan_by_good = balanced.0

    pub plan_by_even : (v : ℕ) → v < size y → Even (run y (plan_by side rule y)) v
    plan_by_even v l = balanced.1.0 v l ((wood y t).to_root v l)

-- the plan balances the root by the planner's turns and rule, and nothing else does
pub plan_balances : (y : Yard) → Tree y → Matched y → Balances fills choice y (root y ∷ []) (plan y)
unfolding plan
plan_balances y t m = plan_by_balances fills choice choice_sound y t (fills_steers y) m

pub plan_only : (y : Yard) → Tree y → Matched y → (ms : List Move) → Balances fills choice y (root y ∷ []) ms → ms ≡ plan y
unfolding plan
plan_only y t = plan_by_only fills choice choice_sound y t (fills_steers y)

-- Striking all moves outside a part from a plan leaves the plan of the part. Whatever the planner reads when it serves a node that passes is
-- the same in the yard with the marks of the nodes that pass alone: whether the node is blocked, and what its children need. A pebble goes
-- only over edges over which one is due, so never from a node that passes to one that does not; and serving a node that does not pass, or
-- finding nothing due at its children, moves nothing in the second yard.
use mathlib.Core.Path.{◌≡◌, refl, sym, ap, ◌∙◌, subst}
use mathlib.Core.Bool.{Bool, true, false, cond}
use mathlib.Core.List.{List, [], ◌∷◌, ◌++◌}
use Prim.Native.Nat.{ℕ, ◌<◌}
use native.Mathlib.Omega.{arith}
use Rattle.model.specs.Yard.{Yard, yard_of, size, parent, pebble, imbalance, Matched}
use Rattle.model.specs.Judge.{Tree}
use Rattle.model.specs.Push.{Move, after, run}
use Rattle.model.specs.Plan.{needy, choice, fills, plan}
use Rattle.model.specs.Parts.{masking}
use Rattle.laws.specs.Parts.{lies_in, kept}
use Rattle.laws.proofs.Basics.{All, all_append}
use Rattle.laws.specs.Choice.{Child}
use Rattle.laws.specs.Algorithms.{crossing, need, blocked, Serves, direct, behind, Settles, settled, turned, Balances, none, next}
use Rattle.laws.proofs.Shortest.{Good, good_append, good_tree, keeps}
use Rattle.laws.proofs.Choice.{none_needy, needy_same, choice_same, fills_same, choice_sound}
use Rattle.laws.proofs.Serve.{Due, blocked_child}
use Rattle.laws.proofs.Balance.{Even, turn_chosen, first_needy, turned_shift, settles_good, Fit, fit_children, fit_run, balances_good, root_fit, fills_steers, plan_balances, plan_only}
use Rattle.laws.proofs.Kept.{kept_append}
use Rattle.laws.proofs.Struck.{Struck, Closed, struck_tree, struck_child, child_imbalance, OneSided, masked_struck, struck_matched, struck_run}

-- both nodes of a move pass as b says
abbrev pub Sided : (ℕ → Bool) → Bool → Move → Type 0
Sided p b m = (p m.from ≡ b) × (p m.to ≡ b)

pub sided_one : (p : ℕ → Bool) (b : Bool) (ms : List Move) → All (Sided p b) ms → All (OneSided p) ms
sided_one p b [] a = tt
sided_one p b (m ∷ ms) a = (a.0.0 ∙ sym a.0.1, sided_one p b ms a.1)

pub sided_kept : (p : ℕ → Bool) (b : Bool) (ms : List Move) → All (Sided p b) ms → kept (lies_in p) ms ≡ cond b ms []
unfolding kept
sided_kept p true [] a = refl
sided_kept p false [] a = refl
sided_kept p true (m ∷ ms) a = rw (a.0.0, a.0.1, sided_kept p true ms a.1)
sided_kept p false (m ∷ ms) a = rw a.0.0 (sided_kept p false ms a.1)

module _ (p : ℕ → Bool) where
  module _ {x : Yard} (t : Tree x) (o : Closed p x) where
    due_same : (b : Bool) (v : ℕ) → Due x b v → p (parent x v) ≡ p v
    due_same b v u = o v u.lt (go b u.needs)
      where
        go : (b : Bool) → 0 < need x b v → 0 < imbalance x v
        go true n = omega arith
        go false n = omega arith

    crossing_sided : (b : Bool) (v : ℕ) → Due x b v → Sided p (p v) (crossing x.parents b v)
    crossing_sided true v u = (due_same true v u, refl)
    crossing_sided false v u = (refl, due_same false v u)

    serves_sided : {b : Bool} {v : ℕ} {ms : List Move} → Serves choice x b v ms → Due x b v → All (Sided p (p v)) ms
    serves_sided {b} {v} (direct e) u = (crossing_sided b v u, tt)
    serves_sided {b} {v} (behind {ms = ms} e s) u =
        let q = blocked_child choice choice_sound x t b v u e in
        let same : p (choice (need x b) x v) ≡ p v = sym (due_same b (choice (need x b) x v) q.1) ∙ ap p q.0.up in
        all_append (Sided p (p v)) ms (crossing x.parents b v ∷ []) (subst (λ c. All (Sided p c) ms) same (serves_sided s q.1)) (crossing_sided b v u, tt)

    module _ {qs ts : List ℕ} (k : Struck p x qs ts) where
      abbrev z : Yard
      z = yard_of x.parents qs ts x.depths

      pebble_same : (v : ℕ) → v < size x → p v ≡ true → pebble z v ≡ pebble x v
      pebble_same v l e = rw e at (k.pebbles v l)

      blocked_same : (b : Bool) (v : ℕ) → v < size x → p v ≡ true → blocked z b v ≡ blocked x b v
      blocked_same b v l e = rw (pebble_same v l e)

      choice_struck : (b : Bool) (v : ℕ) → p v ≡ true → choice (need z b) z v ≡ choice (need x b) x v
      choice_struck b v e = choice_same (need z b) (need x b) z x v refl (λ c q. rw e at (struck_child t k o b v c q))

      serves_struck : {b : Bool} {v : ℕ} {ms : List Move} → Serves choice x b v ms → Due x b v → p v ≡ true → Serves choice z b v ms
      serves_struck {b} {v} (direct e) u a = direct (blocked_same b v u.lt a ∙ e)
      serves_struck {b} {v} (behind {ms = ms} e s) u a =
          let q = blocked_child choice choice_sound x t b v u e in
          behind {ms = ms} (blocked_same b v u.lt a ∙ e) (rw (choice_struck b v a) (serves_struck s q.1 (sym (due_same b (choice (need x b) x v) q.1) ∙ ap p q.0.up ∙ a)))

  pub closed_run : (x : Yard) → Tree x → (ms : List Move) → Good x ms → Closed p x → Closed p (run x ms)
  closed_run x t ms g o c l n = o c l (omega (arith, keeps x t ms g c l))

  -- a turn of the loop at a node, in the one yard and in the other
  module _ {x : Yard} {u c : ℕ} {cs : List ℕ} {ms : List Move} (t : Tree x) (l : u < size x) (e : Even x u) (o : Closed p x) (q : needy (imbalance x) x u ≡ c ∷ cs)
      (s : Serves choice x (fills x u) (choice (need x (fills x u)) x u) ms) where
    due : Child x.parents u (choice (need x (fills x u)) x u) × Due x (fills x u) (choice (need x (fills x u)) x u)
    due = let n = first_needy x u c cs q in turn_chosen fills choice choice_sound x t (fills_steers x) u l e c n.0 n.1

    same : p (choice (need x (fills x u)) x u) ≡ p u
    same = sym (due_same t o (fills x u) (choice (need x (fills x u)) x u) due.1) ∙ ap p due.0.up

    turn_sided : All (Sided p (p u)) ms
    turn_sided = subst (λ b. All (Sided p b) ms) same (serves_sided t o s due.1)

    turn_struck : (qs ts : List ℕ) → Struck p x qs ts → (ns : List Move) → Settles fills choice (run (yard_of x.parents qs ts x.depths) (kept (lies_in p) ms)) u ns
        → Settles fills choice (yard_of x.parents qs ts x.depths) u (kept (lies_in p) ms ++ ns)
    unfolding after
    turn_struck qs ts k ns r = go (p u) refl turn_sided
      where
        z : Yard
        z = yard_of x.parents qs ts x.depths

        go : (b : Bool) → p u ≡ b → All (Sided p b) ms → Settles fills choice z u (kept (lies_in p) ms ++ ns)
        go true a d =
            let f : kept (lies_in p) ms ≡ ms = sided_kept p true ms d in
            let h : fills z u ≡ fills x u = fills_same z x u refl (pebble_same t o k u l a) (λ c j. rw a at (struck_child t k o true u c j)) in
            let w : Serves choice z (fills x u) (choice (need x (fills x u)) x u) ms = serves_struck t o k s due.1 (same ∙ a) in
            rw f (turned (needy_same _ _ z x u refl (λ c j. rw a at (child_imbalance t k o u c j)) ∙ q)
            (subst (λ b. Serves choice z b (choice (need z b) z u) ms) (sym h) (rw (choice_struck t o k (fills x u) u a) w)) (rw f at r))
        go false a d = let f : kept (lies_in p) ms ≡ [] = sided_kept p false ms d in rw f (rw f at r)

  pub settles_struck : {x : Yard} {u : ℕ} {ms : List Move} → Settles fills choice x u ms → Tree x → u < size x → Even x u → Closed p x → (qs ts : List ℕ) → Struck p x qs ts
      → All (Sided p (p u)) ms × Settles fills choice (yard_of x.parents qs ts x.depths) u (kept (lies_in p) ms)
  unfolding kept
  settles_struck {x} {u} (settled q) t l e o qs ts k = (tt, settled (needy_same _ _ (yard_of x.parents qs ts x.depths) x u refl (λ c h. even c h (p u) (child_imbalance t k o u c h)) ∙ q))
    where
      even : (c : ℕ) → Child x.parents u c → (b : Bool) → imbalance (yard_of x.parents qs ts x.depths) c ≡ cond b (imbalance x c) 0 → imbalance (yard_of x.parents qs ts x.depths) c ≡ imbalance x c
      even c h true f = f
      even c h false f = f ∙ sym (none_needy (imbalance x) x u q c h)
  settles_struck {x} {u} (turned {ms = ms} {ns = ns} q s r) t l e o qs ts k =
      let g : Good x ms = (turned_shift fills choice choice_sound t (fills_steers x) l e q s).0 in
      let sides = turn_sided t l e o q s in
      let rest = settles_struck r (good_tree x t ms g) l (omega (arith, keeps x t ms g u l)) (closed_run x t ms g o) (after (yard_of x.parents qs ts x.depths) (kept (lies_in p) ms)) ts
      (struck_run p x t ms g.obeyed (sided_one p (p u) ms sides) qs ts k).1 in
      (all_append (Sided p (p u)) ms ns sides rest.0, rw (kept_append (lies_in p) ms ns) (turn_struck t l e o q s qs ts k (kept (lies_in p) ns) rest.1))

  -- balancing
  balances_struck : {x : Yard} {us : List ℕ} {ms : List Move} → Balances fills choice x us ms → Tree x → All (Fit x) us → Closed p x → (qs ts : List ℕ) → Struck p x qs ts
      → All (OneSided p) ms × Balances fills choice (yard_of x.parents qs ts x.depths) us (kept (lies_in p) ms)
  unfolding kept
  balances_struck none t a o qs ts k = (tt, none)
  balances_struck {x} (next {u = u} {us = us} {ms = ms} {ns = ns} {ps = ps} s b r) t a o qs ts k =
      let z : Yard = yard_of x.parents qs ts x.depths in
      let h = settles_good fills choice choice_sound s t (fills_steers x) a.0.0 a.0.1 in
      let first = settles_struck s t a.0.0 a.0.1 o qs ts k in
      let one = sided_one p (p u) ms first.0 in
      let tree = good_tree x t ms h.good in
      let kids = balances_struck b tree (fit_children x u ms h) (closed_run x t ms h.good o) (after z (kept (lies_in p) ms)) ts (struck_run p x t ms h.good.obeyed one qs ts k).1 in
      let g = good_append x ms ns h.good (balances_good fills choice choice_sound b tree (fills_steers (run x ms)) (fit_children x u ms h)).0 in
      let two = all_append (OneSided p) ms ns one kids.0 in
      let rest = balances_struck r (good_tree x t (ms ++ ns) g) (fit_run x t (ms ++ ns) g us a.1) (closed_run x t (ms ++ ns) g o) (after z (kept (lies_in p) (ms ++ ns))) ts
      (struck_run p x t (ms ++ ns) g.obeyed two qs ts k).1 in (
        all_append (OneSided p) (ms ++ ns) ps two rest.0,
        rw (kept_append (lies_in p) (ms ++ ns) ps, kept_append (lies_in p) ms ns) (next first.1 kids.1 (rw (kept_append (lies_in p) ms ns) at rest.1)),
      )

-- the plan: its moves between nodes that pass are the plan of the yard with the marks of those nodes alone
pub plan_struck : (p : ℕ → Bool) (y : Yard) → Tree y → Matched y → Closed p y → kept (lies_in p) (plan y) ≡ plan (masking p y)
plan_struck p y t m o =
    let k = masked_struck p y t in
    plan_only (masking p y) (struck_tree t k) (struck_matched t k o m) _ (balances_struck p (plan_balances y t m) t (root_fit y t m) o _ _ k).1

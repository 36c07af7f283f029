-- The event call and runs of events (requests 2.5 and 2.8). What an accepted call was handed is known by its tests: the yard's own demands (`caught_was`). A
-- refused one leaves all as it was. So a right demand list stays right through every run (`right_run`) and meets no 23 (`right_fault`), and any is right from
-- the first accepted event on (`caught_run`).
use mathlib.Core.Path.{◌≡◌, refl, sym, ap, ◌∙◌}
use mathlib.Core.Logic.{◌≢◌, ◌↔◌}
use mathlib.Core.Bool.{true, false, false≢true}
use mathlib.Core.List.{List, [], ◌∷◌, ◌++◌}
use mathlib.Core.Option.{Option, none, some}
use Prim.Native.Nat.{ℕ, ◌≤◌, ◌<◌}
use native.Mathlib.Omega.{arith}
use native.Mathlib.Decide.{dec_lt}
use lib.ListN.{length, drop}
use lib.Dec.{ltb, eqb}
use lib.IntN.{ℤ, pos, negsuc, nat_abs}
use borrow.Author.Tests.{ltb-true, eqb-true, lt-ltb, le-ltb, eq-eqb, ne_eqb, not-false}
use Rattle.model.specs.declared.Event.{Event}
use Rattle.model.specs.Yard.{Yard, size, max_demand, below, lowest, demand, entry}
use Rattle.model.specs.Judge.{Fault, fault, first_of, at_lowest, judge, Tree}
use Rattle.model.specs.Calls.Demands.{demands_of, demands_list}
use Rattle.model.specs.Calls.Events.{altered, demands_after, possible, differ, stale, stale_fault, ready_tests, event_tests, event_fault, Console, console, Happening, refusal_of, leaves, run_leaves, Right}
use Rattle.laws.specs.Events.{Ready}
use Rattle.laws.proofs.Basics.{none_below, below_none, none_all, unless_none, at_lowest_none, first_refused, first_passed, single}
use Rattle.laws.proofs.Found.{lowest_is, lowest_none, lowest_fault}
use Rattle.laws.proofs.Signed.{demand_range}
use Rattle.laws.proofs.Ranges.{length_range, listed}
use Rattle.laws.proofs.Equation2.{demands_entry}
use Rattle.laws.proofs.Events.{altered_tree, demands_list_tree, demands_after_right}

-- the tests one by one: each refuses, or is passed
module _ (y : Yard) (list : List ℤ) (e : Event) (v : ℕ) where
  pub ready_judge : {f : Fault} → judge y ≡ some f → first_of (ready_tests y list e v) ≡ some f
  ready_judge j = rw j

  module _ (t : Tree y) where
    pub ready_length : length list ≢ size y → first_of (ready_tests y list e v) ≡ fault 2 0
    ready_length d = rw (t, ne_eqb (length list) (size y) d)

    module _ (k : length list ≡ size y) where
      pub ready_node : size y ≤ v → first_of (ready_tests y list e v) ≡ fault 19 0
      ready_node m = rw (t, eq-eqb (length list) (size y) k, le-ltb v (size y) m)

      module _ (l : v < size y) where
        pub ready_already : possible y e v ≡ false → first_of (ready_tests y list e v) ≡ fault 20 0
        ready_already p = rw (t, eq-eqb (length list) (size y) k, lt-ltb v (size y) l, p)

        pub ready_none : possible y e v ≡ true → first_of (ready_tests y list e v) ≡ none
        ready_none p = rw (t, eq-eqb (length list) (size y) k, lt-ltb v (size y) l, p)

  -- a refusal by one of them is the call's; else the call's is 23 or none
  pub event_refused : {f : Fault} → first_of (ready_tests y list e v) ≡ some f → event_fault y list e v ≡ some f
  unfolding event_fault
  event_refused {f} r = first_refused (ready_tests y list e v) (drop 4 (event_tests y list e v)) f r

  pub event_ready : first_of (ready_tests y list e v) ≡ none → event_fault y list e v ≡ stale_fault y list
  unfolding event_fault
  event_ready r = first_passed (ready_tests y list e v) (drop 4 (event_tests y list e v)) r ∙ single (stale_fault y list)

-- what is known of an event that passes them
pub passed : (y : Yard) (list : List ℤ) (e : Event) (v : ℕ) → first_of (ready_tests y list e v) ≡ none → Ready y list e v
passed y list e v r =
    let p = none_all (ready_tests y list e v) r in
    record {
      tree = p.0;
      long = eqb-true (length list) (size y) (unless_none (eqb (length list) (size y)) 2 0 p.1.0);
      node_lt = ltb-true v (size y) (unless_none (ltb v (size y)) 19 0 p.1.1.0);
      can = unless_none (possible y e v) 20 0 p.1.1.1.0;
    }

-- two numbers do not differ exactly if they are the same
pub same : (a b : ℤ) → differ a b ≡ false → a ≡ b
same (pos a) (pos b) e = ap pos (eqb-true a b (not-false _ e))
same (pos a) (negsuc b) e = cc
same (negsuc a) (pos b) e = cc
same (negsuc a) (negsuc b) e = ap negsuc (eqb-true a b (not-false _ e))

pub not_differ : (a b : ℤ) → a ≡ b → differ a b ≡ false
not_differ a b e = rw (← e) (go a)
  where
    go : (a : ℤ) → differ a a ≡ false
    go (pos a) = rw (eq-eqb a a refl)
    go (negsuc a) = rw (eq-eqb a a refl)

-- 2.8: the comparison is passed by the list that belongs to the yard, and by no other of its length
pub stale_none : (y : Yard) (list : List ℤ) → length list ≡ size y → (stale_fault y list ≡ none) ↔ (list ≡ demands_of y)
stale_none y list l = (
  (λ a. listed (demand y) (pos 0) (size y) list l (λ u k. same _ _ (below_none (size y) (stale y list) (at_lowest_none 23 (below (size y) (stale y list)) a) u k))),
  λ r. ap (at_lowest 23) (none_below (size y) (stale y list) (λ u k. not_differ (entry list u) (demand y u) (rw r (demands_entry y u k)))),
)

module _ (y : Yard) (list : List ℤ) (e : Event) (v : ℕ) (a : event_fault y list e v ≡ none) where
  ready : first_of (ready_tests y list e v) ≡ none
  ready = go (first_of (ready_tests y list e v)) refl
    where
      go : (f : Option Fault) → first_of (ready_tests y list e v) ≡ f → f ≡ none
      go none r = refl
      go (some f) r = sym (event_refused y list e v r) ∙ a

  pub accepted : Ready y list e v
  accepted = passed y list e v ready

  -- the altered yard is a tree again
  pub accepted_tree : Tree (altered y e v)
  accepted_tree = altered_tree y accepted.tree v accepted.node_lt e accepted.can

  -- what was handed in belongs to the yard, so what is left belongs to the altered yard
  pub caught_was : list ≡ demands_of y
  caught_was = (stale_none y list accepted.long).0 (sym (event_ready y list e v ready) ∙ a)

  pub caught_right : demands_after y e v list ≡ demands_of (altered y e v)
  caught_right = ap (demands_after y e v) caught_was ∙ demands_after_right y accepted.tree e v accepted.node_lt accepted.can

  -- so no entry of the list lies outside −2,048 to 2,048, before the event and after it
  pub caught_range : (u : ℕ) → u < size y → (nat_abs (entry list u) ≤ max_demand) × (nat_abs (entry (demands_after y e v list) u) ≤ max_demand)
  unfolding altered
  caught_range u l = (
    rw (caught_was, demands_entry y u l) (demand_range y accepted.tree u),
    rw (caught_right, demands_entry (altered y e v) u l) (demand_range (altered y e v) accepted_tree u),
  )

-- one event of a run
module _ (c : Console) (h : Happening) where
  pub leaves_accepted : refusal_of c h ≡ none → leaves c h ≡ console (altered c.yard h.event h.node) (demands_after c.yard h.event h.node c.demands)
  unfolding refusal_of leaves altered
  leaves_accepted a = rw a

  pub leaves_refused : (f : Fault) → refusal_of c h ≡ some f → leaves c h ≡ c
  unfolding refusal_of leaves
  leaves_refused f a = rw a

  tree_leaves : Tree c.yard → Tree (leaves c h).yard
  unfolding refusal_of
  tree_leaves t = go (refusal_of c h) refl
    where
      go : (r : Option Fault) → refusal_of c h ≡ r → Tree (leaves c h).yard
      go none a = rw (leaves_accepted a) (accepted_tree c.yard c.demands h.event h.node a)
      go (some f) a = rw (leaves_refused f a) t

  pub caught_leaves : refusal_of c h ≡ none → Right (leaves c h)
  unfolding refusal_of
  caught_leaves a = rw (leaves_accepted a) (caught_right c.yard c.demands h.event h.node a)

  right_leaves : Right c → Right (leaves c h)
  unfolding refusal_of
  right_leaves r = go (refusal_of c h) refl
    where
      go : (r : Option Fault) → refusal_of c h ≡ r → Right (leaves c h)
      go none a = caught_leaves a
      go (some f) a = rw (leaves_refused f a) r

-- 2.5: after a run of events in which some are refused, a tree is a tree and the list that belonged to the yard belongs to it
pub tree_run : (hs : List Happening) (c : Console) → Tree c.yard → Tree (run_leaves c hs).yard
unfolding run_leaves
tree_run [] c t = t
tree_run (h ∷ hs) c t = tree_run hs (leaves c h) (tree_leaves c h t)

pub right_run : (hs : List Happening) (c : Console) → Right c → Right (run_leaves c hs)
unfolding run_leaves
right_run [] c r = r
right_run (h ∷ hs) c r = right_run hs (leaves c h) (right_leaves c h r)

-- so it is the list that the account call works out afresh, whatever list that call is lent
pub run_afresh : (hs : List Happening) (c : Console) → Tree c.yard → Right c → (list : List ℤ) → length list ≡ size (run_leaves c hs).yard
    → (run_leaves c hs).demands ≡ demands_list (run_leaves c hs).yard list
run_afresh hs c t r list l = right_run hs c r ∙ sym (demands_list_tree (run_leaves c hs).yard list (tree_run hs c t) l)

-- 2.8: whatever list a run began with, once an event was accepted the list is right, after refused ones too
run_append : (hs gs : List Happening) (c : Console) → run_leaves c (hs ++ gs) ≡ run_leaves (run_leaves c hs) gs
unfolding run_leaves
run_append [] gs c = refl
run_append (h ∷ hs) gs c = run_append hs gs (leaves c h)

pub caught_run : (hs gs : List Happening) (h : Happening) (c : Console) → refusal_of (run_leaves c hs) h ≡ none → Right (run_leaves c (hs ++ h ∷ gs))
unfolding run_leaves
caught_run hs gs h c a = rw (run_append hs (h ∷ gs) c) (right_run gs (leaves (run_leaves c hs) h) (caught_leaves (run_leaves c hs) h a))

-- 23 is never the answer to a right list: it gets that of the tests before
pub right_fault : (y : Yard) (e : Event) (v : ℕ) → event_fault y (demands_of y) e v ≡ first_of (ready_tests y (demands_of y) e v)
right_fault y e v = go (first_of (ready_tests y (demands_of y) e v)) refl
  where
    go : (f : Option Fault) → first_of (ready_tests y (demands_of y) e v) ≡ f → event_fault y (demands_of y) e v ≡ f
    go (some f) r = event_refused y (demands_of y) e v r
    go none r = event_ready y (demands_of y) e v r ∙ (stale_none y (demands_of y) (length_range (demand y) 0 (size y))).1 refl

-- nor is it in a run that began with a right list
pub run_right_fault : (hs : List Happening) (h : Happening) (c : Console) → Right c
    → let d = run_leaves c hs in refusal_of d h ≡ first_of (ready_tests d.yard d.demands h.event h.node)
unfolding refusal_of
run_right_fault hs h c r = let d = run_leaves c hs in rw (right_run hs c r) (right_fault d.yard h.event h.node)

-- and another list is, at the lowest node whose entry differs
pub stale_caught : (y : Yard) (list : List ℤ) (e : Event) (v : ℕ) → Ready y list e v → list ≢ demands_of y
    → (p : ℕ) × (event_fault y list e v ≡ fault 23 p) × (p < size y) × (entry list p ≢ demand y p) × ((u : ℕ) → u < p → entry list u ≡ demand y u)
stale_caught y list e v a d = go (dec_lt p (size y))
  where
    p : ℕ
    p = lowest (size y) (stale y list)

    ready : first_of (ready_tests y list e v) ≡ none
    ready = ready_none y list e v a.tree a.long a.node_lt a.can

    go : Dec (p < size y) → (p : ℕ) × (event_fault y list e v ≡ fault 23 p) × (p < size y) × (entry list p ≢ demand y p) × ((u : ℕ) → u < p → entry list u ≡ demand y u)
    go (no m) = absurd (d ((stale_none y list a.long).0 (ap (at_lowest 23) (lowest_none (size y) (stale y list) p refl (omega arith)))))
    go (yes l) =
        let f = lowest_is (size y) (size y) p (stale y list) refl (omega arith) in (
          p,
          event_ready y list e v ready ∙ lowest_fault (size y) (stale y list) 23 p refl l,
          l,
          (λ s. false≢true (sym (not_differ (entry list p) (demand y p) s) ∙ f.1)),
          λ u m. same _ _ (f.2 u m),
        )

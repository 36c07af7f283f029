-- Each known node reaches the root, and so does each node before v and one whose parent is known; a
-- climb from v that meets no known node in n steps never meets the root, so v is the lowest such
-- node, and one that ends at a known node shows that all its nodes reach the root.
use borrow.Author.Count.{below_more}
use native.Mathlib.Omega.{arith}
use native.Mathlib.Numerals.{add-one}
use Prim.Native.Nat.{ℕ, ◌≤◌, ◌<◌, ◌+◌}
use mathlib.Core.Path.{◌≡◌, refl, sym, ap, ◌∙◌, subst}
use mathlib.Core.Bool.{Bool, true, false, not, false≢true}
use mathlib.Core.List.{List}
use mathlib.Core.Logic.{⊎_elim}
use lib.ListN.{length, get_or, replicate}
use lib.Seq.{get_or-set_same}
use Rattle.model.specs.Yard.{up}
use Rattle.laws.proofs.Climb.{climbs_self}
use Rattle.judge.specs.Climb.{above}
use Rattle.judge.proofs.Lists.{set_either, defaults}
use Rattle.judge.proofs.Climb.{above_next, climbs_past, above_reaches}
use Rattle.lists.proofs.Found.{some_found, none_found}
use Rattle.judge.proofs.circle.first_circle.Invariants.{Reaches}
use Rattle.judge.proofs.circle.first_circle.Goals as goal

-- the first steps + 1 nodes of a climb from v are not the root, if the last of them, u, is not known
unmet : (ps : List ℕ) (known : List Bool) (v root u steps : ℕ) → get_or known root false ≡ true → get_or known u false ≡ false → above steps ps v ≡ u
    → ((j : ℕ) → j < steps → above j ps v ≡ root → ⊥) → (j : ℕ) → j < steps + 1 → above j ps v ≡ root → ⊥
unmet ps known v root u steps r z a b = below_more _ _ b (λ e. false≢true (sym z ∙ ap (λ (w : ℕ). get_or known w false) (sym a ∙ e) ∙ r))

-- they reach the root, if it is
reached : (c : goal.After-mark) (k : ℕ) → k ≤ c.loop-u.steps → Reaches c.args.parents.now c.args.root (above k c.args.parents.now c.nodes.v)
reached c k l =
    let loop = c.loop-u in
    above_reaches c.args.parents.now c.requires.0.node c.args.root loop.steps k c.nodes.v (omega arith) l
    (rw loop.invariant.2 (c.nodes.invariant.1 loop.u c.loop-u-test.false))

pub nodes-init : goal.nodes-init
nodes-init c =
    let root = c.args.root in (
      get_or-set_same (replicate 256 false) root true false (omega arith),
      λ w h. ⊎_elim (λ e. absurd (false≢true (sym (defaults false 256 w) ∙ sym e ∙ h))) (λ e. rw (← e.1) (climbs_self _ _ root)) (set_either false (replicate 256 false) root w true),
      λ w l. absurd (omega arith),
      refl,
    )

pub nodes-preserved-then-known-parents : goal.nodes-preserved-then-known-parents
unfolding above
nodes-preserved-then-known-parents c =
    let loop = c.nodes in
    let here = above_reaches c.args.parents.now c.requires.0.node c.args.root 1 0 loop.v (omega arith) (omega arith) (loop.invariant.1 _ c.if-known-parents.true) in (
      ⊎_elim (λ e. e ∙ loop.invariant.0) (λ e. e.0) (set_either false loop.known loop.v c.args.root true),
      λ w h. ⊎_elim (λ e. loop.invariant.1 w (sym e ∙ h)) (λ e. subst (Reaches c.args.parents.now c.args.root) e.1 here) (set_either false loop.known loop.v w true),
      below_more _ _ loop.invariant.2 here,
      loop.invariant.3,
    )

pub loop-u-init : goal.loop-u-init
unfolding above
loop-u-init c = (omega arith, omega arith, refl, (λ j l. absurd (omega arith)), refl)

pub loop-u-preserved : goal.loop-u-preserved
loop-u-preserved c =
    let loop = c.loop-u in
    let ps = c.args.parents.now in (
      omega arith,
      c.requires.0.node loop.u loop.invariant.1,
      rw add-one (above_next loop.steps ps c.nodes.v ∙ ap (up ps) loop.invariant.2),
      unmet ps c.nodes.known c.nodes.v c.args.root loop.u loop.steps c.nodes.invariant.0 c.loop-u-test.true loop.invariant.2 loop.invariant.3,
      loop.invariant.4,
    )

pub nodes-preserved : goal.nodes-preserved
unfolding above
nodes-preserved c =
    let loop = c.nodes in (
      ⊎_elim (λ e. e ∙ loop.invariant.0) (λ e. e.0) (c.mark.ensures _),
      λ w h. ⊎_elim (λ e. loop.invariant.1 w (sym e ∙ h)) (λ e. rw e.1.2 at (reached c e.1.0 (omega arith))) (c.mark.ensures w),
      below_more _ _ loop.invariant.2 (reached c 0 (omega arith)),
      c.loop-u.invariant.4 ∙ loop.invariant.3,
    )

pub returns-after-nodes : goal.returns-after-nodes
returns-after-nodes c = c.nodes.invariant.3 ∙ none_found _ _ (λ w l. ap not (c.nodes.invariant.2 w (omega arith)))

pub returns-then-steps-n : goal.returns-then-steps-n
returns-then-steps-n c =
    let ps = c.args.parents.now in
    let loop = c.loop-u in
    let far = unmet ps c.nodes.known c.nodes.v c.args.root loop.u loop.steps c.nodes.invariant.0 c.loop-u-test.true loop.invariant.2 loop.invariant.3 in
    let past = climbs_past (length ps) ps c.nodes.v c.args.root (λ j l. far j (omega arith)) in
    some_found _ _ _ (omega arith) (λ w l. ap not (c.nodes.invariant.2 w l)) (ap not past)

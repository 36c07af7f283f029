-- `tree_demands` is refused as the lists are, then as the parents' shape is where gathering leaves more than the root; or else what is gathered are the demands.
use native.Mathlib.Omega.{arith}
use Prim.Native.Nat.{ℕ, ◌≤◌}
use mathlib.Core.Path.{◌≡◌, refl, sym, ap, ◌∙◌}
use mathlib.Core.List.{List, ◌++◌}
use mathlib.Core.Option.{none}
use lib.ListN.{length, drop, replicate, length-append}
use lib.IntN.{ℤ, pos}
use lib.Seq.{length-take-le, drop_at}
use Rattle.model.specs.Given.{listed}
use Rattle.model.specs.Yard.{Yard}
use Rattle.model.specs.Judge.{first_of, list_tests, Tree}
use Rattle.model.specs.Calls.Demands.{demands_of}
use Rattle.laws.proofs.Tests.{judge_lists, judge_shape}
use Rattle.laws.proofs.Refused.{passed_on}
use Rattle.laws.proofs.Equation2.{only_demands}
use Rattle.demand.specs.Filling.{Gathered}
use Rattle.demand.proofs.Answers.{then_lists, then_shape, then_tree}
use Rattle.demand.proofs.matched.tree_demands.Goals as goal

pub returns-in_err-test_lists-clause-result_value : goal.returns-in_err-test_lists-clause-result_value
returns-in_err-test_lists-clause-result_value c =
    passed_on _ _ c.from_residual.ensures.1 (judge_lists (listed c.args.yard.now) _ c.in_err-test_lists.ensures)

pub returns-in_err-test_lists-clause-list_value : goal.returns-in_err-test_lists-clause-list_value
returns-in_err-test_lists-clause-list_value c = then_lists (listed c.args.yard.now) _ (sym c.in_err-test_lists.ensures)

pub returns-then-left-ne1 : goal.returns-then-left-ne1
returns-then-left-ne1 c =
    let a = c.args in
    let y = listed a.yard.now in
    let passed = (sym c.in_ok-test_lists.ensures) in
    let g = c.gather-left in
    let room : length y.parents ≤ length (g.new.list ++ drop (length y.parents) a.list.now) =
    omega (arith, length-append {A = ℤ} g.new.list (drop (length y.parents) a.list.now), g.ensures.long) in record {
      result_value = c.tree_of_tested.ensures.result_value;
      tree_value = c.tree_of_tested.ensures.tree_value;
      list_value = ap (λ (rest : List ℤ). c.clear.new.list ++ rest) (drop_at g.new.list _ (length y.parents) g.ensures.long)
          ∙ then_shape y _ passed (λ t. c.if-left-ne1.true (omega (arith, g.ensures.tree t)))
          (c.clear.ensures ∙ ap (λ (n : ℕ). replicate n (pos 0)) (length-take-le _ _ room));
    }

-- where the root alone is left
tree : (y : Yard) {left : ℕ} {list : List ℤ} → none ≡ first_of (list_tests y) → Gathered y left list → left ≡ 1 → Tree y
tree y passed g e = sym (judge_shape y passed) ∙ g.shape e

pub invariant_of-result : goal.invariant_of-result
invariant_of-result c =
    record { tree = tree _ c.in_ok-test_lists.ensures c.gather-left.ensures (omega (arith, c.if-left-ne1.false)) }

pub returns : goal.returns
returns c =
    let a = c.args in
    let y = listed a.yard.now in
    let e = c.gather-left.ensures in
    let t = tree y c.in_ok-test_lists.ensures e (omega (arith, c.if-left-ne1.false)) in
    let gathered : c.gather-left.new.list ≡ demands_of y = (only_demands y t _ e.long).0 (e.meets (e.tree t)) in record {
      result_value = sym t;
      tree_value = refl;
      list_value = then_tree y _ t gathered;
    }

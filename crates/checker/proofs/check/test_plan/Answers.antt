-- `checker::check::test_plan` meets its contract: refused as a yard with no plan is, or else by the plan.
use mathlib.Core.Path.{sym}
use Rattle.laws.proofs.Calls.{matched_tree, check_matched}
use Rattle.laws.proofs.Refused.{passed_on}
use Rattle.checker.proofs.check.test_plan.Goals as goal

pub returns-in_err-tree : goal.returns-in_err-tree
returns-in_err-tree c =
    let f = sym c.in_err-tree.ensures.result_value in
    passed_on _ _ c.from_residual.ensures.1 (sym (check_matched _ _ f _))

pub test_matched_plan-requires : goal.test_matched_plan-requires
test_matched_plan-requires c =
    let m = matched_tree _ (sym c.in_ok-tree.ensures.result_value) in
    rw c.in_ok-tree.ensures.tree_value m.1

-- `checker::check::check` meets its contract: a plan that is not refused solves the yard, so it has at least the shortest
-- length and the excess does not go below 0. Answering what the model does, the checker is exact.
use native.Mathlib.Omega.{arith}
use mathlib.Core.Path.{sym}
use Rattle.laws.proofs.Refused.{is_passed}
use Rattle.laws.proofs.Demand2.{answers_exact}
use Rattle.checker.proofs.Laws.{check_refused, check_fit, check_long, check_answered}
use Rattle.checker.proofs.check.check.Goals as goal

pub returns-in_err-test_plan : goal.returns-in_err-test_plan
returns-in_err-test_plan c =
    let r = answers_exact _ _ _ (check_refused _ _ _ (sym c.in_err-test_plan.ensures)) in
    rw (is_passed _ _ c.from_residual.ensures.1) (record { result_value = r.0; checker_exact = r.1 })

pub invariant_of-shortest_length : goal.invariant_of-shortest_length
invariant_of-shortest_length c = record { tree = (check_fit _ _ (sym c.in_ok-test_plan.ensures)).0 }

pub overflow_sub-result : goal.overflow_sub-result
overflow_sub-result c =
    let e = (sym c.in_ok-test_plan.ensures) in
    omega (arith, c.shortest_length-length.ensures, check_long _ _ e)

pub returns : goal.returns
returns c =
    let e = (sym c.in_ok-test_plan.ensures) in
    let r = answers_exact _ _ _ (check_answered _ _ e _ (omega (arith, c.shortest_length-length.ensures))) in
    record { result_value = r.0; checker_exact = r.1 }

-- `trial` refuses the yard, then the plan by its length, then the moves taken: those of the plan that the budget allows. What they
-- leave, or the pebbles as they were, is what the trial leaves.
use Prim.Native.Nat.{◌/◌}
use native.Mathlib.Omega.{arith}
use lib.ListN.{length}
use borrow.Author.Tests.{le-leb, lt-leb}
use mathlib.Core.Path.{sym}
use Rattle.laws.proofs.Calls.{sees}
use Rattle.laws.proofs.Refused.{told_on}
use Rattle.checker.proofs.Laws.{whole, not_whole, trial_refused, trial_answered, trial_judged, trial_bytes, trial_moves}
use Rattle.checker.proofs.trial.trial.Goals as goal

pub returns-in_err-test_yard : goal.returns-in_err-test_yard
returns-in_err-test_yard c =
    let r = trial_refused _ _ _ _ (trial_judged _ _ _ _ (sym c.in_err-test_yard.ensures)) in
    record { result_value = told_on _ _ c.from_residual.ensures.1 _ r.0; pebbles_value = r.1 }

pub returns-then-not-whole_plan : goal.returns-then-not-whole_plan
returns-then-not-whole_plan c =
    let w = c.whole_plan in
    let tree = (sym c.in_ok-test_yard.ensures) in
    let r = trial_refused _ _ _ _ (trial_bytes _ _ _ tree _ (not_whole w.result w.ensures (rw c.if-not-whole_plan.true))) in
    record { result_value = r.0; pebbles_value = r.1 }

pub returns-in_err-obey_or_leave : goal.returns-in_err-obey_or_leave
returns-in_err-obey_or_leave c =
    let w = c.whole_plan in
    let tree = (sym c.in_ok-test_yard.ensures) in
    let f = c.obey_or_leave.ensures in
    let whole = whole w.result w.ensures (rw c.if-not-whole_plan.false) in
    let o = trial_moves _ _ _ tree whole _ c.min-taken.ensures _ _ f.result_value f.pebbles_value in
    record { result_value = told_on _ _ c.from_residual-in_err-obey_or_leave.ensures.1 _ (rw (sees o.0 c.in_err-obey_or_leave.was)); pebbles_value = o.1 }

pub returns-then-moves-limit : goal.returns-then-moves-limit
returns-then-moves-limit c =
    let w = c.whole_plan in
    let tree = (sym c.in_ok-test_yard.ensures) in
    let f = c.obey_or_leave.ensures in
    let whole = whole w.result w.ensures (rw c.if-not-whole_plan.false) in
    let o = trial_moves _ _ _ tree whole _ c.min-taken.ensures _ _ f.result_value f.pebbles_value in
    let l = le-leb (length c.args.plan.now / 2) c.args.budget (omega arith) in
    let none = sees o.0 c.in_ok-obey_or_leave.was in
    record { result_value = trial_answered _ _ _ none (omega (arith, c.min-taken.ensures)) l; pebbles_value = o.1 }

pub returns : goal.returns
returns c =
    let w = c.whole_plan in
    let tree = (sym c.in_ok-test_yard.ensures) in
    let f = c.obey_or_leave.ensures in
    let whole = whole w.result w.ensures (rw c.if-not-whole_plan.false) in
    let o = trial_moves _ _ _ tree whole _ c.min-taken.ensures _ _ f.result_value f.pebbles_value in
    let l = lt-leb (length c.args.plan.now / 2) c.args.budget (omega arith) in
    let none = sees o.0 c.in_ok-obey_or_leave.was in
    record { result_value = trial_answered _ _ _ none (omega (arith, c.min-taken.ensures)) l; pebbles_value = o.1 }

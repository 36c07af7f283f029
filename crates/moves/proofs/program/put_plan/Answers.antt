-- `put_plan` prints the sheet of the plan that the planner wrote, or its refusal.
use native.Mathlib.Omega.{arith}
use lib.ListN.{length-take}
use Rattle.moves.proofs.Steps.{plan_number, plan_refused}
use Rattle.moves.proofs.program.put_plan.Goals as goal

pub put_planned-requires : goal.put_planned-requires
put_planned-requires c =
    let n = plan_number _ (rw c.in-Ok.is at c.plan.ensures.result_value) in
    (n.1 _ c.plan.ensures.list_value, simp length-take (omega (arith, n.0, c.requires)))

pub put_refused-requires : goal.put_refused-requires
put_refused-requires c = ((plan_refused _ (rw c.in-Err.is at c.plan.ensures.result_value)).0, omega (arith, c.requires))

pub returns-in-Ok : goal.returns-in-Ok
returns-in-Ok c =
    let n = plan_number _ (rw c.in-Ok.is at c.plan.ensures.result_value) in
    let p = c.put_planned.ensures in
    record { value = rw (← n.2) p.value; out_value = rw (← n.2) p.out_value }

pub returns-in-Err : goal.returns-in-Err
returns-in-Err c =
    let r = plan_refused _ (rw c.in-Err.is at c.plan.ensures.result_value) in
    let p = c.put_refused.ensures in
    record { value = rw (← r.1) p.value; out_value = rw (← r.1) p.out_value }

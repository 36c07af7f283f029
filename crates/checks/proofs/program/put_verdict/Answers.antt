-- `put_verdict` prints by the case of the checker's answer: accepted moves, or the refusal.
use native.Mathlib.Omega.{arith}
use Rattle.sheet.proofs.Writing.{printed_as}
use Rattle.checks.proofs.Printed.{refusal}
use Rattle.checks.proofs.program.put_verdict.Goals as goal

pub put_refused-requires : goal.put_refused-requires
put_refused-requires c =
    let e = rw c.in-Err.is at c.check.ensures.result_value in
    ((refusal _ c.args.plan.now e).0, omega (arith, c.requires))

pub returns-in-Err : goal.returns-in-Err
returns-in-Err c =
    let e = rw c.in-Err.is at c.check.ensures.result_value in
    let f = printed_as c.args.out.now (refusal _ c.args.plan.now e).1 (c.put_refused.ensures.value, c.put_refused.ensures.out_value) in
    record { value = f.0; out_value = f.1 }

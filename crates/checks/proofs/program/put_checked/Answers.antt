-- `put_checked` prints what the checker answers of the plan that was read, or what refuses its sheet.
use mathlib.Core.Path.{sym}
use Prim.Native.Nat.{◌+◌}
use native.Mathlib.Omega.{arith}
use lib.ListN.{length}
use Rattle.laws.proofs.CheckSheets.{plan_row}
use Rattle.checks.proofs.program.put_checked.Goals as goal

pub put_refused-requires : goal.put_refused-requires
put_refused-requires c =
    let e = rw c.in-Err.is at c.read_plan.ensures.plan_value in
    (plan_row (length c.args.yard.now.parents.now + 2) _ (omega (arith, c.requires.0)) (sym e), omega (arith, c.requires.2))

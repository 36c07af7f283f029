-- `tell` reads the next move, if there is one left.
use native.Mathlib.Omega.{arith}
use Rattle.laws.proofs.Calls.{moves_half}
use Rattle.cabinet.proofs.Laws.{next_lt, told_none, told_next}
use Rattle.cabinet.proofs.call.tell.Goals as goal

pub overflow_sub-i : goal.overflow_sub-i
overflow_sub-i c = omega (arith, c.requires, moves_half c.args.plan.now)

pub bounds-plan-i : goal.bounds-plan-i
bounds-plan-i c = omega (arith, next_lt c.args.plan.now c.args.r (omega arith) c.requires)

pub bounds-plan-i-else-r-eq0 : goal.bounds-plan-i-else-r-eq0
bounds-plan-i-else-r-eq0 c = omega (arith, next_lt c.args.plan.now c.args.r (omega arith) c.requires)

pub returns-then-r-eq0 : goal.returns-then-r-eq0
returns-then-r-eq0 c = told_none c.args.plan.now c.args.r c.args.failed c.if-r-eq0.true

pub returns-else-r-eq0 : goal.returns-else-r-eq0
returns-else-r-eq0 c = told_next c.args.plan.now c.args.r c.args.failed (omega arith) c.requires

-- `test_next` refuses a plan by its length, then the move that is next in it.
use native.Mathlib.Omega.{arith}
use Rattle.laws.proofs.Judged.{facts}
use Rattle.laws.proofs.Calls.{moves_half}
use Rattle.cabinet.proofs.Laws.{number, next_lt, next_is, next_tests_law}
use Rattle.cabinet.proofs.test.test_next.Goals as goal

pub overflow_sub-i : goal.overflow_sub-i
overflow_sub-i c = omega (arith, c.requires.1, moves_half c.args.plan.now)

pub bounds-plan-i : goal.bounds-plan-i
bounds-plan-i c = omega (arith, next_lt c.args.plan.now c.args.r c.requires.0 c.requires.1)

pub bounds-plan-i-2 : goal.bounds-plan-i-2
bounds-plan-i-2 c = omega (arith, next_lt c.args.plan.now c.args.r c.requires.0 c.requires.1)

pub test_move-requires : goal.test_move-requires
test_move-requires c =
    let f = facts _ c.args.yard.now.tree in
    (f.pebbles_size, f.depths_size)

pub returns : goal.returns
returns c =
    let a = c.args in
    next_tests_law _ a.plan.now a.r _ _ (rw (c.whole_plan.ensures, c.if-not-whole_plan.false))
    (next_is a.plan.now a.r c.requires.0 c.requires.1) (number a.plan.now a.r) c.test_move.ensures

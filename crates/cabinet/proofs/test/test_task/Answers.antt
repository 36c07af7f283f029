-- `test_task` goes by the command and the status.
use mathlib.Core.Path.{sym, ◌∙◌}
use borrow.Author.Tests.{ne_eqb}
use Rattle.model.specs.Calls.Registers.{whole_moves, task_fault}
use Rattle.laws.proofs.Basics.{single}
use Rattle.laws.proofs.Blocks.{register_fault_none, running_left}
use Rattle.cabinet.proofs.test.test_task.Goals as goal

pub returns-in-1-eq0 : goal.returns-in-1-eq0
unfolding task_fault
returns-in-1-eq0 c = c.test_plan.ensures ∙ rw (c.in-1-eq0.is-0, c.in-1-eq0.is-1) (sym (single _))

pub returns-in-1-default : goal.returns-in-1-default
unfolding task_fault
returns-in-1-default c = rw (c.in-1-default.is-0, ne_eqb _ 0 c.in-1-default.is-1.1)

pub test_next-requires : goal.test_next-requires
test_next-requires c =
    let h = (register_fault_none (whole_moves c.args.plan.now) c.args.r).0 c.requires in
    (running_left h c.in-0-eq1.is-1, h.left_le)

pub returns-in-0-eq1 : goal.returns-in-0-eq1
unfolding task_fault
returns-in-0-eq1 c = c.test_next.ensures ∙ rw (c.in-0-eq1.is-0, c.in-0-eq1.is-1)

pub returns-in_default : goal.returns-in_default
unfolding task_fault
returns-in_default c = rw (c.in_default.is-0, ne_eqb _ 1 c.in_default.is-1.1)

pub returns-in_default-2 : goal.returns-in_default-2
unfolding task_fault
returns-in_default-2 c = rw (ne_eqb _ 1 c.in_default.is-0.0.1, ne_eqb _ 0 c.in_default.is-0.1)

-- `next_registers` goes by the command, the status and what it is told.
use mathlib.Core.Path.{◌∙◌}
use borrow.Author.Tests.{ne_eqb}
use Rattle.model.specs.Calls.Registers.{registers_then}
use Rattle.cabinet.proofs.registers.next_registers.Goals as goal

pub returns-in-1-default : goal.returns-in-1-default
unfolding registers_then
returns-in-1-default c = rw c.in-1-default.is-0 c.counted.ensures

pub returns-in-2-default : goal.returns-in-2-default
unfolding registers_then
returns-in-2-default c = rw c.in-2-default.is-0 c.stopped.ensures

pub returns-in-3-default : goal.returns-in-3-default
unfolding registers_then
returns-in-3-default c = rw c.in-3-default.is-0 c.acknowledged.ensures

pub returns-in-0-eq1 : goal.returns-in-0-eq1
unfolding registers_then
returns-in-0-eq1 c = c.jammed.ensures ∙ rw (c.in-0-eq1.is-0, c.in-0-eq1.is-1, c.if-told.true)

pub returns-in-0-eq1-2 : goal.returns-in-0-eq1-2
unfolding registers_then
returns-in-0-eq1-2 c = rw (c.in-0-eq1.is-0, c.in-0-eq1.is-1, c.if-told.false) c.advanced.ensures

pub returns-in_default : goal.returns-in_default
unfolding registers_then
returns-in_default c = rw (c.in_default.is-0, ne_eqb _ 1 c.in_default.is-1.1)

pub returns-in_default-2 : goal.returns-in_default-2
unfolding registers_then
returns-in_default-2 c =
    let n = c.in_default.is-0 in
    rw (ne_eqb _ 1 n.0.0.0.1, ne_eqb _ 2 n.0.0.1, ne_eqb _ 3 n.0.1, ne_eqb _ 0 n.1)

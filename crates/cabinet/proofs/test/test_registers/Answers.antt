-- `test_registers` asks one register after another.
use mathlib.Core.Path.{sym, ◌∙◌}
use borrow.Author.Tests.{le-leb, lt-leb, not-true, not-false}
use Rattle.model.specs.Calls.Registers.{register_fault}
use Rattle.cabinet.proofs.Laws.{left_right}
use Rattle.cabinet.proofs.test.test_registers.Goals as goal

pub returns-then-r-gt3 : goal.returns-then-r-gt3
unfolding register_fault
returns-then-r-gt3 c = rw (lt-leb _ 3 c.if-r-gt3.true)

pub returns-then-r-gt2 : goal.returns-then-r-gt2
unfolding register_fault
returns-then-r-gt2 c =
    let r = c.args.r in
    let command = le-leb r.command 3 c.if-r-gt3.false in
    rw (command, lt-leb r.status 2 c.if-r-gt2.true)

pub returns-then-left_wrong : goal.returns-then-left_wrong
unfolding register_fault
returns-then-left_wrong c =
    let r = c.args.r in
    let command = le-leb r.command 3 c.if-r-gt3.false in
    let status = le-leb r.status 2 c.if-r-gt2.false in
    let left = not-true (left_right c.args.moves r) (sym c.left_wrong.ensures ∙ c.if-left_wrong.true) in
    rw (command, status, left)

pub returns-then-r-gt3-2 : goal.returns-then-r-gt3-2
unfolding register_fault
returns-then-r-gt3-2 c =
    let r = c.args.r in
    let command = le-leb r.command 3 c.if-r-gt3.false in
    let status = le-leb r.status 2 c.if-r-gt2.false in
    let left = not-false (left_right c.args.moves r) (sym c.left_wrong.ensures ∙ c.if-left_wrong.false) in
    rw (command, status, left, lt-leb r.flags 3 c.if-r-gt3-2.true)

pub returns : goal.returns
unfolding register_fault
returns c =
    let r = c.args.r in
    let command = le-leb r.command 3 c.if-r-gt3.false in
    let status = le-leb r.status 2 c.if-r-gt2.false in
    let left = not-false (left_right c.args.moves r) (sym c.left_wrong.ensures ∙ c.if-left_wrong.false) in
    rw (command, status, left, le-leb r.flags 3 c.if-r-gt3-2.false)

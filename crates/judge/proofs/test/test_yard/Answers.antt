-- `judge::test::test_yard` meets its contract: the lists are tested entry by entry, and what they have passed is what the test of the shape requires.
use mathlib.Core.Path.{sym, ◌∙◌}
use Rattle.model.specs.Given.{listed}
use Rattle.laws.proofs.Judged.{flat}
use Rattle.laws.proofs.Refused.{passed_on}
use Rattle.laws.proofs.Tests.{judge_lists, judge_shape}
use Rattle.judge.proofs.test.test_yard.Goals as goal

pub returns-in_err-test_lists : goal.returns-in_err-test_lists
returns-in_err-test_lists c = passed_on _ c.in_err-test_lists.field-0.0 c.from_residual.ensures.1 (judge_lists _ _ c.in_err-test_lists.ensures)

pub test_shape-requires : goal.test_shape-requires
test_shape-requires c =
    let f = flat (listed c.args.yard.now) (sym c.in_ok-test_lists.ensures) in record { few = f.few.1; node = f.parent_lt }

pub returns : goal.returns
returns c = c.test_shape.ensures ∙ judge_shape (listed c.args.yard.now) c.in_ok-test_lists.ensures

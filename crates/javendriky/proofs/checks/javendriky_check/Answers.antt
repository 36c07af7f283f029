-- `javendriky_check` answers what `test_plan` does, which is small; so it answers 0 where the checker accepts and nowhere else, and the
-- checker is exact.
use mathlib.Core.Path.{ap, ◌∙◌}
use Rattle.model.specs.Calls.Answers.{zeroInC}
use Rattle.laws.proofs.Demand2.{checker_exact_of}
use Rattle.laws.proofs.Places.{check_small, zero_none}
use Rattle.javendriky.proofs.checks.javendriky_check.Goals as goal

pub done-requires : goal.done-requires
done-requires c = rw c.test_plan.ensures (check_small _ _)

pub returns : goal.returns
returns c =
    let n = c.done.ensures ∙ ap zeroInC c.test_plan.ensures in record {
      value = n;
      checker_exact = checker_exact_of _ _ _ (rw n (zero_none _ (check_small _ _)));
    }

-- `judge::tree::tree_of_tested` meets its contract: what the lists have passed is what the test of
-- the shape requires, and the shape is what is left of the judgement.
use mathlib.Core.Path.{refl, sym, ◌∙◌}
use Rattle.model.specs.Given.{listed}
use Rattle.laws.proofs.Judged.{flat}
use Rattle.laws.proofs.Refused.{passed_on}
use Rattle.laws.proofs.Tests.{judge_shape}
use Rattle.judge.proofs.tree.tree_of_tested.Goals as goal

pub test_shape-requires : goal.test_shape-requires
test_shape-requires c = let f = flat (listed c.args.yard.now) c.requires in record { few = f.few.1; node = f.parent_lt }

pub returns-in_err-test_shape-clause-result_value : goal.returns-in_err-test_shape-clause-result_value
returns-in_err-test_shape-clause-result_value c =
    passed_on _ _ c.from_residual.ensures.1 (c.in_err-test_shape.ensures ∙ judge_shape (listed c.args.yard.now) (sym c.requires))

pub invariant_of-result : goal.invariant_of-result
invariant_of-result c = record { tree = sym (c.in_ok-test_shape.ensures ∙ judge_shape (listed c.args.yard.now) (sym c.requires)) }

pub returns : goal.returns
returns c = record {
  result_value = c.in_ok-test_shape.ensures ∙ judge_shape (listed c.args.yard.now) (sym c.requires);
  tree_value = refl;
}

-- `distance::call::test_from` meets its contract: refused as the lists are, then as the shape is; of a tree the distances are from the node
-- itself, if it is one.
use native.Mathlib.Omega.{arith}
use Prim.Native.Nat.{ℕ}
use mathlib.Core.Path.{◌≡◌, refl, sym, ◌∙◌}
use Rattle.model.specs.Given.{listed}
use Rattle.laws.proofs.Tests.{judge_lists, judge_shape}
use Rattle.laws.proofs.Judged.{flat}
use Rattle.laws.proofs.Refused.{passed_on}
use Rattle.distance.proofs.call.test_from.Goals as goal

pub returns-in_err-test_lists : goal.returns-in_err-test_lists
returns-in_err-test_lists c =
    let j = judge_lists _ _ c.in_err-test_lists.ensures in record {
      result_value = passed_on _ _ c.from_residual.ensures.1 j;
      distances = λ m. let no : ◌≡◌ {A = ℕ} 0 1 = cc (j ∙ m) in absurd (omega arith);
    }

pub measure-requires : goal.measure-requires
measure-requires c =
    let f = flat _ (sym c.in_ok-test_lists.ensures) in
    (record { few = f.few.1; node = f.parent_lt }, c.requires.0, c.requires.1, c.or_first.ensures.0)

pub returns : goal.returns
returns c =
    let a = c.args in
    let y = listed a.yard.now in
    let node = c.or_first.ensures in record {
      result_value = c.measure.ensures.result_value ∙ judge_shape y c.in_ok-test_lists.ensures;
      distances = λ t l. rw (node.1 l) at (c.measure.ensures.distances y (record { tree = t; same = refl; node = node.0 }));
    }

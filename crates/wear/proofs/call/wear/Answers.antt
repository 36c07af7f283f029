-- `wear` meets its contract: where the plan has no stretch of the width it is refused as by the checker, then for the width.
use mathlib.Core.Path.{sym, ◌∙◌}
use Rattle.laws.proofs.Refused.{told_on}
use Rattle.wear.proofs.Wearing.{has_some, worn_none, worn_refused}
use Rattle.wear.proofs.call.wear.Goals as goal

pub wear_of_stretches-requires : goal.wear_of_stretches-requires
wear_of_stretches-requires c = has_some _ _ (sym c.has_stretch.ensures ∙ c.if-has_stretch.true)

pub returns-in_err-test_plan : goal.returns-in_err-test_plan
returns-in_err-test_plan c = told_on _ _ c.from_residual.ensures.1 _ (worn_refused _ _ _ _ (sym c.in_err-test_plan.ensures))

pub returns : goal.returns
returns c =
    worn_none _ _ _ (sym c.has_stretch.ensures ∙ c.if-has_stretch.false) (sym c.in_ok-test_plan.ensures)

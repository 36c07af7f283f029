-- `report_at` asks for the report's head.
use Rattle.model.specs.Sheets.{text}
use Rattle.checks.proofs.plan.report_at.Goals as goal

pub returns : goal.returns
unfolding text
returns c = c.stands_at.ensures

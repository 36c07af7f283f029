-- `planner::plan::plan` meets its contract: what the sheet's call answers and leaves meets demands 2 and 3.
use Rattle.planner.proofs.Promise.{promises}
use Rattle.planner.proofs.plan.plan.Goals as goal

pub returns-clause-planner_exact : goal.returns-clause-planner_exact
returns-clause-planner_exact c = let p = c.plan_sheet.ensures in (promises _ _ _ _ p.result_value p.plan_value).1.1.0

pub returns-clause-demand3 : goal.returns-clause-demand3
returns-clause-demand3 c = let p = c.plan_sheet.ensures in (promises _ _ _ _ p.result_value p.plan_value).1.1.1

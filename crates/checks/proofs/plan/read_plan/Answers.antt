-- `read_plan` compares the head and reads the moves behind it.
use mathlib.Core.Path.{sym, ◌∙◌}
use native.Mathlib.Numerals.{add-one}
use lib.ListN.{drop}
use lib.Seq.{drop-drop}
use Rattle.model.specs.Sheets.{text}
use Rattle.checks.proofs.MovesRead.{plan_headless, plan_headed}
use Rattle.checks.proofs.plan.read_plan.Goals as goal

pub returns-then-not-stands_at-clause-plan_value : goal.returns-then-not-stands_at-clause-plan_value
unfolding text
returns-then-not-stands_at-clause-plan_value c =
    let a = c.args in
    plan_headless a.line (drop a.at a.input.now) (sym c.stands_at.ensures ∙ c.if-not-stands_at.true)

pub returns-clause-plan_value : goal.returns-clause-plan_value
unfolding text
returns-clause-plan_value c =
    let a = c.args in
    let h = plan_headed a.line (drop a.at a.input.now) (sym c.stands_at.ensures ∙ c.if-not-stands_at.false) in
    c.read_moves.ensures.plan_value ∙ rw (add-one a.line, ← (drop-drop 8 a.at a.input.now)) h

-- `read_moves` takes line after line: the list holds the first m moves, and the bytes from
-- `next` on are the other lines.
use mathlib.Core.Path.{sym, ◌∙◌}
use native.Mathlib.Omega.{arith}
use lib.ListN.{drop_of_length-le}
use Rattle.reader.specs.Reading.{line_in}
use Rattle.reader.proofs.ReadLines.{seen}
use Rattle.checks.proofs.MovesRead.{so_far_end, so_far_report, so_far_many, so_far_shape, so_far_next}
use Rattle.checks.proofs.plan.read_moves.Goals.{then-next-input-via-then-next-input, then-next-input-via-else-next-input+then-report_at}
use Rattle.checks.proofs.plan.read_moves.Goals as goal

pub returns-then-next-input-clause-plan_value : goal.returns-then-next-input-clause-plan_value
returns-then-next-input-clause-plan_value c = elim c.then-next-input.branch [
  | then-next-input-via-then-next-input w ↦ so_far_end c.loop-m.invariant (drop_of_length-le _ w.if-next-input.true)
  | then-next-input-via-else-next-input+then-report_at w ↦ so_far_report c.loop-m.invariant (sym w.report_at.ensures ∙ w.if-report_at.true)
]

pub returns-in_default-clause-plan_value : goal.returns-in_default-clause-plan_value
returns-in_default-clause-plan_value c =
    let n = c.read_line in
    let e = seen (line_in c.args.input.now n.new.values) n.ensures c.in_default.is in
    so_far_shape c.loop-m.invariant (omega arith) (omega arith) (sym c.report_at.ensures ∙ c.if-report_at.false) e

pub loop-m-preserved : goal.loop-m-preserved
loop-m-preserved c =
    let n = c.read_line in
    let e = seen (line_in c.args.input.now n.new.values) n.ensures c.in-Some.is in
    let f = sym c.report_at.ensures ∙ c.if-report_at.false in
    so_far_next c.loop-m.invariant (omega arith) (omega arith) f n.new.values c.in-Some.behind n.auto.values e

pub returns-clause-plan_value : goal.returns-clause-plan_value
returns-clause-plan_value c = so_far_many c.loop-m.invariant (omega arith)

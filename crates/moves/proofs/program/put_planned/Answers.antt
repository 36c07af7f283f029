-- `put_planned` writes the moves and after them the report, which together are the sheet of the plan.
use native.Mathlib.Omega.{arith}
use Rattle.laws.proofs.Judged.{facts}
use Rattle.sheet.proofs.Rows.{length_move_lines}
use Rattle.sheet.proofs.Writing.{written_as, written_append, written_length, written_front}
use Rattle.moves.proofs.Edges.{planned_sheet}
use Rattle.moves.proofs.program.put_planned.Goals as goal

pub put_plan_report-requires : goal.put_plan_report-requires
put_plan_report-requires c =
    let m = c.put_moves-behind.ensures in
    let l = length_move_lines c.args.plan.now (λ i. (c.type_inv.plan i).fits) in
    (c.requires.0, omega (arith, c.requires.1, (facts _ c.requires.0.tree).few, m.end, l, written_length m))

pub returns : goal.returns
returns c =
    let m = c.put_moves-behind.ensures in
    let r = c.put_plan_report.ensures in
    let l = length_move_lines c.args.plan.now (λ i. (c.type_inv.plan i).fits) in
    let w = written_as (planned_sheet _ c.requires.0) (written_append m r.written) in
    let f = written_front w (omega (arith, c.requires.1, (facts _ c.requires.0.tree).few, m.end, l, r.upper_bound)) in
    record { value = f.0; out_value = f.1 }

-- `put_accepted` writes the head, the two values and the report, whose columns are the crossings of the moves, counted.
use mathlib.Core.Path.{sym}
use Prim.Native.Nat.{◌≤◌}
use native.Mathlib.Omega.{arith}
use lib.ListN.{length, take}
use lib.Seq.{length-take-le}
use Rattle.model.specs.Given.{listed}
use Rattle.model.specs.Sheets.{text}
use Rattle.sheet.proofs.Rows.{length_pair}
use Rattle.sheet.proofs.Edges.{report_short}
use Rattle.sheet.proofs.Writing.{written_append, written_length, written_front}
use Rattle.checks.proofs.Reporting.{accepted_tree, in_yard, values_small, columns_room, accepted_columns, accepted_written}
use Rattle.checks.proofs.program.put_accepted.Goals as goal

pub count_crossings-requires : goal.count_crossings-requires
count_crossings-requires c = in_yard (listed c.args.yard.now) c.requires.0

pub put_line-at-requires : goal.put_line-at-requires
put_line-at-requires c =
    let v = values_small (listed c.args.yard.now) c.requires.0 in
    let t = c.put_text-values.ensures in
    omega (arith, length_pair c.args.moves c.args.excess v.0 v.1, t.end, written_length t, c.requires.1)

pub slice_bounds-ups-end : goal.slice_bounds-ups-end
slice_bounds-ups-end c = (columns_room (listed c.args.yard.now) c.requires.0 c.count_crossings.ensures).0

pub slice_bounds-put_report-end : goal.slice_bounds-put_report-end
slice_bounds-put_report-end c = sym (length-take-le _ _ (columns_room (listed c.args.yard.now) c.requires.0 c.count_crossings.ensures).0)

pub slice_bounds-downs-end : goal.slice_bounds-downs-end
slice_bounds-downs-end c = (columns_room (listed c.args.yard.now) c.requires.0 c.count_crossings.ensures).1

pub slice_bounds-put_report-end-2 : goal.slice_bounds-put_report-end-2
slice_bounds-put_report-end-2 c = sym (length-take-le _ _ (columns_room (listed c.args.yard.now) c.requires.0 c.count_crossings.ensures).1)

pub put_report-requires : goal.put_report-requires
put_report-requires c =
    let y = listed c.args.yard.now in
    let h = c.requires.0 in
    let few = (in_yard y h).few in
    let v = values_small y h in
    let k = c.count_crossings.ensures in
    let t = c.put_text-values.ensures in
    let l = c.put_line-at.ensures in
    let n = length_pair c.args.moves c.args.excess v.0 v.1 in
    let r = length-take-le (length c.args.yard.now.parents.now) c.count_crossings.result.ups (columns_room y h k).0 in
    (accepted_columns y h k, v.0, omega (arith, n, l.end, t.end, c.requires.1, few, r, written_length (written_append t l)))

pub returns : goal.returns
unfolding text
returns c =
    let y = listed c.args.yard.now in
    let h = c.requires.0 in
    let few = (in_yard y h).few in
    let v = values_small y h in
    let k = c.count_crossings.ensures in
    let t = c.put_text-values.ensures in
    let l = c.put_line-at.ensures in
    let n = length_pair c.args.moves c.args.excess v.0 v.1 in
    let us = take (length c.args.yard.now.parents.now) c.count_crossings.result.ups in
    let ds = take (length c.args.yard.now.parents.now) c.count_crossings.result.downs in
    let e = length-take-le (length c.args.yard.now.parents.now) c.count_crossings.result.ups (columns_room y h k).0 in
    let s = report_short us ds c.root_of-root.result c.args.moves (accepted_columns y h k) v.0 in
    let fits : c.put_report.result ≤ length c.args.out.now
    = omega (arith, c.put_report.ensures.end, n, l.end, t.end, c.requires.1, few, e, s) in
    record {
      value = (written_front (accepted_written y h k c.root_of-root.ensures (written_append t l) c.put_report.ensures) fits).0;
      out_value = (written_front (accepted_written y h k c.root_of-root.ensures (written_append t l) c.put_report.ensures) fits).1;
    }

pub invariant_of-root_of : goal.invariant_of-root_of
invariant_of-root_of c = record { tree = accepted_tree _ c.requires.0 }

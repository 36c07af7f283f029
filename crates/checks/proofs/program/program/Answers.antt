-- `program` prints what its input says: the yard sheet in front is read, then the move sheet behind it; a refusal of the reader is printed.
use mathlib.Core.Path.{sym}
use native.Mathlib.Omega.{arith}
use lib.Seq.{length-take-le}
use borrow.Author.Rules.{rules}
use Rattle.laws.proofs.Sheets.{read_sizes}
use Rattle.laws.proofs.YardPart.{yard_part_front}
use Rattle.sheet.proofs.Writing.{printed_as}
use Rattle.reader.proofs.Blank.{read_number, read_refused}
use Rattle.checks.proofs.Printed.{checked, unread}
use Rattle.checks.proofs.program.program.Goals as goal

pub slice_bounds-read_sheet-end : goal.slice_bounds-read_sheet-end
slice_bounds-read_sheet-end c = sym (length-take-le _ _ (omega (arith, c.yard_bytes-end.ensures, (yard_part_front c.args.input.now).1)))

pub put_checked-requires : goal.put_checked-requires
put_checked-requires c =
    let e = c.read_sheet.ensures in
    let f = read_number _ (rw c.in-Ok.is at e.result_value) e.parents_value e.pebbles_value e.targets_value e.depths_value in
    ((read_sizes _ _ f.said).1, omega (arith, c.yard_bytes-end.ensures, (yard_part_front c.args.input.now).1), search rules)

pub put_refused-requires : goal.put_refused-requires
put_refused-requires c =
    let e = read_refused _ (rw c.in-Err.is at c.read_sheet.ensures.result_value) in
    ((unread _ _ c.yard_bytes-end.ensures e).0, search rules)

pub returns-in-Ok : goal.returns-in-Ok
returns-in-Ok c =
    let e = c.read_sheet.ensures in
    let f = read_number _ (rw c.in-Ok.is at e.result_value) e.parents_value e.pebbles_value e.targets_value e.depths_value in
    let p = printed_as _ (checked _ _ c.yard_bytes-end.ensures f.said) (c.put_checked.ensures.value, c.put_checked.ensures.out_value) in
    record { value = p.0; out_value = p.1 }

pub returns-in-Err : goal.returns-in-Err
returns-in-Err c =
    let e = read_refused _ (rw c.in-Err.is at c.read_sheet.ensures.result_value) in
    let p = printed_as _ (unread _ _ c.yard_bytes-end.ensures e).1 (c.put_refused.ensures.value, c.put_refused.ensures.out_value) in
    record { value = p.0; out_value = p.1 }

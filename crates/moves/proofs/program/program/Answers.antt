-- `program` prints what its input says: the lists that were read are planned, and a refusal of the reader is printed.
use borrow.Author.Rules.{rules}
use Rattle.reader.proofs.Blank.{read_number, read_refused}
use Rattle.moves.proofs.Steps.{printed, unread}
use Rattle.moves.proofs.program.program.Goals as goal

pub put_refused-requires : goal.put_refused-requires
put_refused-requires c = ((unread _ (read_refused _ (rw c.in-Err.is at c.read_sheet.ensures.result_value))).0, search rules)

pub returns-in-Ok : goal.returns-in-Ok
returns-in-Ok c =
    let e = c.read_sheet.ensures in
    let f = read_number _ (rw c.in-Ok.is at e.result_value) e.parents_value e.pebbles_value e.targets_value e.depths_value in
    let q = printed _ f.said in
    let p = c.put_plan.ensures in
    record { value = rw (← q) p.value; out_value = rw (← q) p.out_value }

pub returns-in-Err : goal.returns-in-Err
returns-in-Err c =
    let u = unread _ (read_refused _ (rw c.in-Err.is at c.read_sheet.ensures.result_value)) in
    let p = c.put_refused.ensures in
    record { value = rw (← u.1) p.value; out_value = rw (← u.1) p.out_value }

-- `put_sheet` writes the header and then line by line: the lines from node v on are left.
use Rattle.model.specs.Yard.{yard_of}
use Rattle.sheet.proofs.Rows.{rows}
use Rattle.sheet.proofs.Writing.{Left}
use Rattle.sheet.proofs.writer.put_sheet.Given as goal

abbrev pub invariant-loop-v : goal.invariant-loop-v
invariant-loop-v l =
    let y = yard_of l.parents l.pebbles l.targets l.depths in
    Left (rows y l.v) l.at l.sheet (rows y 0) l.initial.at l.initial.sheet

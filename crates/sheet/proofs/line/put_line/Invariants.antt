-- `put_line` writes value after value, each with the byte that ends it: the line from value `i` on is left.
use lib.ListN.{drop}
use Rattle.model.specs.Sheets.{line}
use Rattle.sheet.proofs.Writing.{Left}
use Rattle.sheet.proofs.line.put_line.Given as goal

abbrev pub invariant-loop-i : goal.invariant-loop-i
invariant-loop-i l = Left (line (drop l.i l.values)) l.end l.out (line l.values) l.at l.initial.out

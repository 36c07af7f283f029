-- `read_line` reads field after field: the list holds the first i values, and the others are read behind them.
use lib.ListN.{length}
use Rattle.reader.proofs.ReadLines.{LineSoFar}
use Rattle.reader.proofs.line.read_line.Given as goal

abbrev pub invariant-loop-i : goal.invariant-loop-i
invariant-loop-i l = LineSoFar (length l.initial.values) l.sheet l.at l.values l.next l.i

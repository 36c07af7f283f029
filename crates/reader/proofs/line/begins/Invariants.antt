-- `begins` compares byte by byte: the first `i` are the same.
use mathlib.Core.Path.{◌≡◌}
use lib.ListN.{take}
use Rattle.reader.proofs.line.begins.Given as goal

abbrev pub invariant-loop-i : goal.invariant-loop-i
invariant-loop-i l = take l.i l.list ≡ take l.i l.head

-- `yard_bytes` goes on from byte to byte: the part is the i bytes before and what is left of it.
use mathlib.Core.Path.{◌≡◌}
use Prim.Native.Nat.{◌+◌}
use lib.ListN.{length, drop}
use Rattle.model.specs.CheckSheets.{yard_part}
use Rattle.checks.proofs.part.yard_bytes.Given as goal

abbrev pub invariant-loop-i : goal.invariant-loop-i
invariant-loop-i l = length (yard_part l.input) ≡ l.i + length (yard_part (drop l.i l.input))

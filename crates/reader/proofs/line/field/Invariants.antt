-- `field` reads a value digit by digit: behind its bytes so far, which are the decimal of `value`, lie the bytes from `i` on. It ends at the byte
-- `stop`, or where no value goes on as the bytes do.
use mathlib.Core.Path.{◌≡◌}
use mathlib.Core.List.{◌++◌}
use Prim.Native.Nat.{◌<◌}
use lib.ListN.{drop}
use Rattle.model.specs.Sheets.{decimal}
use Rattle.reader.proofs.line.field.Given as goal

abbrev pub invariant-loop-i : goal.invariant-loop-i
invariant-loop-i l = (l.value < 256) × (drop l.at l.sheet ≡ decimal l.value ++ drop l.i l.sheet)

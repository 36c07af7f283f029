-- `put_decimal` writes the digits of a number from the last to the first: what is left to write, written over the list so far, is the number
-- written over the list as it was. The measure is what is left of the number.
use mathlib.Core.Path.{◌≡◌}
use Prim.Native.Nat.{◌+◌, ◌<◌}
use lib.ListN.{length}
use lib.Seq.{sets}
use Rattle.model.specs.Sheets.{decimal}
use Rattle.sheet.proofs.decimal.put_decimal.Given as goal

abbrev pub invariant-loop-rest : goal.invariant-loop-rest
invariant-loop-rest l =
    (l.i + 1 ≡ l.at + length (decimal l.rest))
    × (l.i < length l.out)
    × (length l.out ≡ length l.initial.out)
    × (sets l.out l.at (decimal l.rest) ≡ sets l.initial.out l.at (decimal l.n))

abbrev pub decreases-loop-rest : goal.decreases-loop-rest
decreases-loop-rest l = l.rest

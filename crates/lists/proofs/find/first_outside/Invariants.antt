-- `first_outside`: no entry before the index is outside, so the first one met is the lowest, and past the end there is none.
use Prim.Native.Nat.{ℕ, ◌<◌}
use mathlib.Core.Path.{◌≡◌}
use mathlib.Core.Bool.{Bool, false, not, ◌&&◌}
use lib.ListN.{get_or}
use lib.Dec.{leb}
use Rattle.lists.proofs.find.first_outside.Given as goal

abbrev pub outside : ℕ → ℕ → ℕ → Bool
outside low high x = not ((leb low x) && (leb x high))

abbrev pub invariant-loop-i : goal.invariant-loop-i
invariant-loop-i l = (v : ℕ) → v < l.i → outside l.low l.high (get_or l.list v 0) ≡ false

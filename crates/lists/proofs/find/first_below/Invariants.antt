-- `first_below`: no entry before the index is below the other's.
use Prim.Native.Nat.{ℕ, ◌<◌}
use mathlib.Core.Path.{◌≡◌}
use mathlib.Core.Bool.{false}
use lib.ListN.{get_or}
use lib.Dec.{ltb}
use Rattle.lists.proofs.find.first_below.Given as goal

abbrev pub invariant-loop-i : goal.invariant-loop-i
invariant-loop-i l = (v : ℕ) → v < l.i → ltb (get_or l.list v 0) (get_or l.other v 0) ≡ false

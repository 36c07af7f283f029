-- `first_at_least`: every entry before the index is below the limit, so the first one met is the lowest, and past the
-- end there is none.
use Prim.Native.Nat.{ℕ, ◌<◌}
use mathlib.Core.Path.{◌≡◌}
use mathlib.Core.Bool.{false}
use lib.ListN.{get_or}
use lib.Dec.{leb}
use Rattle.lists.proofs.find.first_at_least.Given as goal

abbrev pub invariant-loop-i : goal.invariant-loop-i
invariant-loop-i l = (v : ℕ) → v < l.i → leb l.limit (get_or l.list v 0) ≡ false

-- `first_own`: no index before it, from `start` on, is its own entry.
use Prim.Native.Nat.{ℕ, ◌<◌, ◌≤◌}
use mathlib.Core.Path.{◌≡◌}
use mathlib.Core.Bool.{Bool, false, ◌&&◌}
use mathlib.Core.List.{List}
use lib.ListN.{get_or}
use lib.Dec.{leb, eqb}
use Rattle.lists.proofs.find.first_own.Given as goal

abbrev pub own : List ℕ → ℕ → ℕ → Bool
own list start v = (leb start v) && (eqb (get_or list v 0) v)

abbrev pub invariant-loop-i : goal.invariant-loop-i
invariant-loop-i l = (l.start ≤ l.i) × ((v : ℕ) → v < l.i → own l.list l.start v ≡ false)

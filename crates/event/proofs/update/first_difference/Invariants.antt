-- `first_difference`: where none is counted there is none; else it looks at one entry after another.
use mathlib.Core.Path.{◌≡◌}
use mathlib.Core.Bool.{false}
use Prim.Native.Nat.{ℕ, ◌<◌}
use Rattle.event.specs.Change.{differ_at}
use Rattle.event.proofs.update.first_difference.Given as goal

abbrev pub invariant-loop-v : goal.invariant-loop-v
invariant-loop-v l = (u : ℕ) → u < l.v → differ_at l.list l.other u ≡ false

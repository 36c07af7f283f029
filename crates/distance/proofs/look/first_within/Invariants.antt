-- `distance::look::first_within` meets its contract: no node passed holds a pebble within reach.
use mathlib.Core.Path.{◌≡◌}
use mathlib.Core.Bool.{false}
use Prim.Native.Nat.{ℕ, ◌<◌}
use Rattle.distance.specs.Far.{is_within}
use Rattle.distance.proofs.look.first_within.Given as goal

abbrev pub invariant-loop-v : goal.invariant-loop-v
invariant-loop-v l = (w : ℕ) → w < l.v → is_within l.pebbles l.far l.reach w ≡ false

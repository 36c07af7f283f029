-- `moving` is the sum: the count is that of the nodes below v. Each adds at most 255, and there
-- are at most 256, so it fits.
use Prim.Native.Nat.{◌*◌, ◌≤◌}
use mathlib.Core.Path.{◌≡◌}
use Rattle.model.specs.Yard.{sum}
use Rattle.figures.specs.Leaving.{moving_at}
use Rattle.figures.proofs.displaced.moving.Given as goal

abbrev pub invariant-loop-v : goal.invariant-loop-v
invariant-loop-v l = (l.count ≡ sum l.v (moving_at l.pebbles l.depths l.demands l.out)) × (l.count ≤ 255 * l.v)

-- `mark` changes nothing but marks, and those only at the nodes of the climb. In the loop u is the i-th of them, so each store is at one
-- of the first `steps`; a store leaves every other entry as it was.
use Prim.Native.Nat.{◌<◌}
use mathlib.Core.Path.{◌≡◌}
use lib.ListN.{length}
use Rattle.judge.specs.Climb.{above, Marked}
use Rattle.judge.proofs.circle.mark.Given as goal

abbrev pub invariant-loop : goal.invariant-loop
invariant-loop l = (above l.counter l.parents l.v ≡ l.u) × (l.u < length l.parents) × Marked l.parents l.v l.steps l.initial.known l.known

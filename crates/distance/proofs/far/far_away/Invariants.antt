-- `distance::far::far_away` meets its contract: it climbs from v to a node that is known (the laws are in Climbing), in a tree one edge
-- nearer with each step (Marking).
use Prim.Native.Nat.{ℕ, ◌<◌}
use lib.ListN.{length}
use Rattle.model.specs.Yard.{Yard}
use Rattle.distance.specs.Far.{From, Up, Partly}
use Rattle.distance.proofs.Marking.{Rising}
use Rattle.distance.proofs.far.far_away.Given as goal

abbrev pub invariant-loop-climbed : goal.invariant-loop-climbed
invariant-loop-climbed l =
    (l.u < length l.parents) × Up l.parents l.v l.climbed l.u
    × ((y : Yard) (a : ℕ) (f : From y l.parents a) → Partly y a l.list → Rising f l.v l.u l.climbed)

-- `distance::far::write_up` meets its contract: what it writes leads to a node that was known (the laws are in Climbing), in a tree by its
-- distance (Marking).
use mathlib.Core.Path.{◌≡◌}
use Prim.Native.Nat.{ℕ}
use Rattle.model.specs.Yard.{Yard}
use Rattle.model.specs.Distance.{distance}
use Rattle.distance.specs.Far.{From, Partly}
use Rattle.distance.proofs.Climbing.{Writes}
use Rattle.distance.proofs.Marking.{Writing}
use Rattle.distance.proofs.far.write_up.Given as goal

abbrev pub invariant-loop-list : goal.invariant-loop-list
invariant-loop-list l =
    Writes l.parents l.v l.initial.list l.list l.w l.steps
    × ((y : Yard) (a : ℕ) (f : From y l.parents a) → Partly y a l.initial.list → l.far ≡ distance y a l.v → Writing f l.list l.w l.steps)

abbrev pub decreases-loop-list : goal.decreases-loop-list
decreases-loop-list l = l.steps

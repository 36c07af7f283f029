-- `distance::far::mark_way` meets its contract: those that it passes lead to where it is (the laws are in Climbing), and in a tree the
-- steps are the distances (Marking).
use Rattle.model.specs.Yard.{Yard}
use Rattle.distance.specs.Far.{From}
use Rattle.distance.proofs.Climbing.{Leading}
use Rattle.distance.proofs.Marking.{Marking}
use Rattle.distance.proofs.far.mark_way.Given as goal

abbrev pub invariant-loop-steps : goal.invariant-loop-steps
invariant-loop-steps l =
    Leading l.parents l.list l.w × ((y : Yard) (f : From y l.parents l.node) → Marking f l.initial.list l.list l.w l.steps)

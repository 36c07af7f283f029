-- `distance::far::fill` meets its contract: node by node what is not known yet is climbed for and written; where all are known the parents
-- are a tree's (the laws are in Climbing and Marking).
use Rattle.model.specs.Yard.{Yard}
use Rattle.distance.specs.Far.{From, Partly}
use Rattle.distance.proofs.Climbing.{Filled}
use Rattle.distance.proofs.far.fill.Given as goal

abbrev pub invariant-loop-v : goal.invariant-loop-v
invariant-loop-v l =
    Filled l.parents l.list l.v × ((y : Yard) → From y l.parents l.node → Partly y l.node l.initial.list → Partly y l.node l.list)

-- `javendriky_displaced` answers what `displaced` does, which is small.
use Rattle.laws.proofs.Places.{displaced_small}
use Rattle.javendriky.proofs.demands.javendriky_displaced.Goals as goal

pub counted-requires : goal.counted-requires
counted-requires c = rw c.displaced.ensures (displaced_small _)

-- `javendriky_reach` answers and leaves what `reach` does; its answer is small.
use Rattle.laws.proofs.Places.{reach_small}
use Rattle.javendriky.proofs.distances.javendriky_reach.Goals as goal

pub counted-requires : goal.counted-requires
counted-requires c = rw c.reach.ensures.result_value (reach_small _ _ _ _)

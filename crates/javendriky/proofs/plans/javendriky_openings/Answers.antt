-- `javendriky_openings` answers and leaves what `openings` does; its answer is small, so the number tells it.
use Rattle.laws.proofs.Places.{openings_small}
use Rattle.javendriky.proofs.plans.javendriky_openings.Goals as goal

pub counted-requires : goal.counted-requires
counted-requires c = rw c.openings.ensures.result_value (openings_small _ _)

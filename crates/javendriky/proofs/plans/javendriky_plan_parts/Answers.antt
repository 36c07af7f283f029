-- `javendriky_plan_parts` answers and leaves what `plan_parts` does; its answer is small, so the number tells it.
use Rattle.laws.proofs.Places.{parts_small}
use Rattle.javendriky.proofs.plans.javendriky_plan_parts.Goals as goal

pub counted-requires : goal.counted-requires
counted-requires c = rw c.plan_parts.ensures.result_value (parts_small _ _ _)

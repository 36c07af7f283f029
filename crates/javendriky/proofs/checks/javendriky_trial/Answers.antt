-- `javendriky_trial` answers and leaves what `trial` does, and its answer is small.
use Rattle.laws.proofs.Places.{trial_small}
use Rattle.javendriky.proofs.checks.javendriky_trial.Goals as goal

pub tried-requires : goal.tried-requires
tried-requires c = rw c.trial.ensures.result_value (trial_small _ _ _)

-- `happened` answers and leaves what `event_at` does, and a refusal's place is small.
use Rattle.laws.proofs.Places.{event_small}
use Rattle.javendriky.proofs.events.happened.Goals as goal

pub done-requires : goal.done-requires
done-requires c = rw c.event_at.ensures.result_value (event_small _ _ _ _)

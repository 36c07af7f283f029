-- `javendriky_demands` answers and leaves what `demands` does, and a refusal's place is small.
use native.Mathlib.Omega.{arith}
use Rattle.laws.proofs.Places.{small, demands_low}
use Rattle.javendriky.proofs.demands.javendriky_demands.Goals as goal

pub done-requires : goal.done-requires
done-requires c = rw c.demands.ensures.result_value (small 0 (demands_low _ _) (λ _. omega arith))

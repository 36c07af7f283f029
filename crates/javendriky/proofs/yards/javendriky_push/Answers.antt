-- `javendriky_push` answers and leaves what `push_lists` does, and a refusal's place is small.
use native.Mathlib.Omega.{arith}
use Rattle.laws.proofs.Places.{small, push_low}
use Rattle.javendriky.proofs.yards.javendriky_push.Goals as goal

pub done-requires : goal.done-requires
done-requires c = rw c.push_lists.ensures.result_value (small 0 (push_low _ _) (λ _. omega arith))

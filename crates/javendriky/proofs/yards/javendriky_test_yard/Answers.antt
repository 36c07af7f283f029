-- `javendriky_test_yard` answers what `test_yard` does, which is small.
use native.Mathlib.Omega.{arith}
use Rattle.laws.proofs.Places.{small, judge_low}
use Rattle.javendriky.proofs.yards.javendriky_test_yard.Goals as goal

pub done-requires : goal.done-requires
done-requires c = rw c.test_yard.ensures (small 0 (judge_low _) (λ _. omega arith))

-- `javendriky_excess` answers the excess that `check` answers, which is small, or is refused as `check` is.
use native.Mathlib.Omega.{arith}
use Rattle.laws.proofs.Places.{excess_small}
use Rattle.javendriky.proofs.checks.javendriky_excess.Goals as goal

pub overflow_cast-result : goal.overflow_cast-result
overflow_cast-result c = let l = excess_small _ _ (rw c.in-Ok.is at c.check.ensures.result_value) in omega arith

pub refused-requires : goal.refused-requires
refused-requires c = excess_small _ _ (rw c.in-Err.is at c.check.ensures.result_value)

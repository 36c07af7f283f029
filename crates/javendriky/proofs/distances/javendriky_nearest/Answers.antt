-- `javendriky_nearest` answers the node that `nearest` tells and writes the distance, both small, or is refused as it is and leaves the
-- number.
use native.Mathlib.Omega.{arith}
use Prim.Native.Nat.{ℕ}
use mathlib.Core.Path.{◌≡◌}
use Rattle.model.specs.Yard.{Yard}
use Rattle.model.specs.Calls.Answers.{Answer, mapAnswer, Small}
use Rattle.model.specs.Calls.Distances.{Nearest, nearest_answer}
use Rattle.laws.proofs.Places.{nearest_small}
use Rattle.javendriky.proofs.distances.javendriky_nearest.Goals as goal

module _ {a : Answer Nearest} (y : Yard) (v : ℕ) (e : a ≡ nearest_answer y v) where
  small_node : Small (mapAnswer (λ l. l.node) a)
  small_node = rw e (nearest_small y v).0

  small_far : Small (mapAnswer (λ l. l.distance) a)
  small_far = rw e (nearest_small y v).1

pub overflow_cast-distance : goal.overflow_cast-distance
overflow_cast-distance c = let l = small_far _ _ (rw c.in-Ok.is at c.nearest.ensures) in omega arith

pub overflow_cast-result : goal.overflow_cast-result
overflow_cast-result c = let l = small_node _ _ (rw c.in-Ok.is at c.nearest.ensures) in omega arith

pub refused-requires : goal.refused-requires
refused-requires c = small_node _ _ (rw c.in-Err.is at c.nearest.ensures)

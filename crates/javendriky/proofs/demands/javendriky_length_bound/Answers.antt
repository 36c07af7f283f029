-- `javendriky_length_bound` answers the moves that `length_bound` tells and writes the bytes, both small, or is refused as it is and leaves
-- the number.
use native.Mathlib.Omega.{arith}
use mathlib.Core.Path.{◌≡◌}
use Rattle.model.specs.Yard.{Yard}
use Rattle.model.specs.Calls.Answers.{Answer, mapAnswer, Small}
use Rattle.model.specs.Calls.Demands.{Length, bound_answer}
use Rattle.laws.proofs.Places.{moves_small, list_bytes_small}
use Rattle.javendriky.proofs.demands.javendriky_length_bound.Goals as goal

module _ {a : Answer Length} (y : Yard) (e : a ≡ bound_answer y) where
  few_moves : Small (mapAnswer (λ l. l.moves) a)
  few_moves = rw e (moves_small y)

  few_bytes : Small (mapAnswer (λ l. l.list_bytes) a)
  few_bytes = rw e (list_bytes_small y)

pub overflow_cast-bytes : goal.overflow_cast-bytes
overflow_cast-bytes c = let l = few_bytes _ (rw c.in-Ok.is at c.length_bound.ensures) in omega arith

pub overflow_cast-result : goal.overflow_cast-result
overflow_cast-result c = let l = few_moves _ (rw c.in-Ok.is at c.length_bound.ensures) in omega arith

pub refused-requires : goal.refused-requires
refused-requires c = few_moves _ (rw c.in-Err.is at c.length_bound.ensures)

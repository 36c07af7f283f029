-- `javendriky_wear` answers the crossings that `wear` tells and writes the other two values, all small, or is refused as it is and leaves
-- the numbers.
use native.Mathlib.Omega.{arith}
use Prim.Native.Nat.{ℕ}
use mathlib.Core.Path.{◌≡◌}
use mathlib.Core.List.{List}
use Rattle.model.specs.Yard.{Yard}
use Rattle.model.specs.Wear.{Wear}
use Rattle.model.specs.Calls.Answers.{Answer, mapAnswer, Small}
use Rattle.model.specs.Calls.Wear.{wear_answer}
use Rattle.laws.proofs.Places.{wear_small, wear_first_small, wear_edge_small}
use Rattle.javendriky.proofs.wears.javendriky_wear.Goals as goal

module _ {a : Answer Wear} (y : Yard) (bs : List ℕ) (w : ℕ) (e : a ≡ wear_answer y bs w) where
  small_most : Small (mapAnswer (λ w. w.crossings) a)
  small_most = rw e (wear_small y bs w)

  small_first : Small (mapAnswer (λ w. w.first) a)
  small_first = rw e (wear_first_small y bs w)

  small_edge : Small (mapAnswer (λ w. w.edge) a)
  small_edge = rw e (wear_edge_small y bs w)

pub overflow_cast-first : goal.overflow_cast-first
overflow_cast-first c = let l = small_first _ _ _ (rw c.in-Ok.is at c.wear.ensures) in omega arith

pub overflow_cast-edge : goal.overflow_cast-edge
overflow_cast-edge c = let l = small_edge _ _ _ (rw c.in-Ok.is at c.wear.ensures) in omega arith

pub overflow_cast-result : goal.overflow_cast-result
overflow_cast-result c = let l = small_most _ _ _ (rw c.in-Ok.is at c.wear.ensures) in omega arith

pub refused-requires : goal.refused-requires
refused-requires c = small_most _ _ _ (rw c.in-Err.is at c.wear.ensures)

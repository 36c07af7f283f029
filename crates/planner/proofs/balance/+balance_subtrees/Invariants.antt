-- The calls of `planner::balance::balance_subtrees` end, as the height falls; and what is known in its loop: the children from the
-- one at hand on are left.
use mathlib.Core.List.{List}
use Prim.Native.Nat.{ℕ}
use Rattle.model.specs.Yard.{Yard}
use Rattle.planner.specs.Balancing.{entered}
use Rattle.serve.proofs.Siblings.{ahead}
use Rattle.planner.proofs.Children.{LoopEnded, LeftFrom}
use Rattle.planner.proofs.balance.+balance_subtrees.Given as goal

abbrev pub decreases-balance_subtrees : goal.decreases-balance_subtrees
decreases-balance_subtrees l = l.height

abbrev pub invariant-loop-c : goal.invariant-loop-c
invariant-loop-c l =
    (y : Yard) (before : List ℕ) → LoopEnded y before l.t l.initial.s l.initial.plan l.initial.k l.u
    → LeftFrom (entered l.parts) y l.u l.s before l.plan l.k l.c

abbrev pub decreases-loop-c : goal.decreases-loop-c
decreases-loop-c l = ahead l.u l.c

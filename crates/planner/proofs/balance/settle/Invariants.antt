-- What is known in the loop of `planner::balance::settle`: some turns were made, each of which took room of the plan.
use Prim.Native.Nat.{◌-◌, ◌*◌}
use lib.ListN.{length}
use Rattle.model.specs.Yard.{Yard}
use Rattle.planner.specs.Balancing.{AskedEven}
use Rattle.planner.proofs.Settle.{Turned}
use Rattle.planner.proofs.balance.settle.Given as goal

abbrev pub invariant-loop-u : goal.invariant-loop-u
invariant-loop-u l = (y : Yard) → AskedEven y l.t l.initial.s l.initial.plan l.u → Turned y l.u l.s l.initial.plan l.plan l.k

abbrev pub decreases-loop-u : goal.decreases-loop-u
decreases-loop-u l = length l.initial.plan - 2 * l.k

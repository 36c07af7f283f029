-- The loop's invariant says nothing. The measure is what is left of the input.
use Prim.Native.Nat.{◌-◌}
use lib.ListN.{length}
use Rattle.vectors.proofs.run.Given as goal

abbrev pub invariant-loop-at : goal.invariant-loop-at
invariant-loop-at l = Unit {0}

abbrev pub decreases-loop-at : goal.decreases-loop-at
decreases-loop-at l = length l.input - l.at

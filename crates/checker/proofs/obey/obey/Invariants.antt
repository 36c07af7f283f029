-- `obey` makes one step for each move. The loop's invariant: none of the moves made is refused, they have left the pebbles, and the moves
-- that are left decide the answer (`Left`).
use Prim.Native.Nat.{◌≤◌}
use lib.ListN.{take}
use Rattle.model.specs.Yard.{yard_of}
use Rattle.model.specs.Calls.Plans.{moves_of}
use Rattle.checker.proofs.Laws.{Left}
use Rattle.checker.proofs.obey.obey.Given as goal

abbrev pub invariant-loop-i : goal.invariant-loop-i
invariant-loop-i l =
    let y = yard_of l.parents l.initial.pebbles l.targets l.depths in
    (l.i ≤ l.count) × Left y (take l.count (moves_of l.plan)) l.i l.pebbles

-- What is known in the loop of `planner::state::place`: the nodes below v are placed.
use Rattle.planner.specs.Balancing.{Placed}
use Rattle.planner.proofs.state.place.Given as goal

abbrev pub invariant-loop-v : goal.invariant-loop-v
invariant-loop-v l = Placed l.pebbles l.depths l.initial.s l.s l.v

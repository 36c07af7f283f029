-- `distance::look::least` meets its contract: no pebble passed is nearer (the laws are in Pebbles).
use Rattle.distance.specs.Far.{Least}
use Rattle.distance.proofs.look.least.Given as goal

abbrev pub invariant-loop-v : goal.invariant-loop-v
invariant-loop-v l = Least l.pebbles l.far l.v l.nearest

-- The calls of `serve::pebble::clear_node` and `inject_pebble` end: clearing falls below filling by the place that the move takes, and
-- filling a child below clearing.
use Prim.Native.Nat.{◌+◌, ◌*◌}
use Rattle.serve.proofs.pebble.+clear_node_inject_pebble.Given as goal

abbrev pub decreases-clear_node : goal.decreases-clear_node
decreases-clear_node l = 2 * l.end + 1

abbrev pub decreases-inject_pebble : goal.decreases-inject_pebble
decreases-inject_pebble l = 2 * l.end

-- `read_nodes` takes line after line: the arrays hold the first v nodes, and the bytes from `at` on are the other lines. The measure is the nodes
-- that may follow.
use Prim.Native.Nat.{◌-◌, ◌≤◌}
use Rattle.reader.proofs.ReadLines.{SoFar}
use Rattle.reader.proofs.read.read_nodes.Given as goal

abbrev pub invariant-loop-at : goal.invariant-loop-at
invariant-loop-at l = (l.v ≤ 256) × SoFar l.sheet l.parents l.pebbles l.targets l.depths l.at l.v

abbrev pub decreases-loop-at : goal.decreases-loop-at
decreases-loop-at l = 256 - l.v

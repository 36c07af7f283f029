-- `read_moves` takes line after line: the list holds the first m moves, and the bytes from
-- `next` on are the other lines.
use Rattle.checks.proofs.MovesRead.{SoFar}
use Rattle.checks.proofs.plan.read_moves.Given as goal

abbrev pub invariant-loop-m : goal.invariant-loop-m
invariant-loop-m l = SoFar l.input l.at l.first l.plan l.next l.m

-- `put_edges` has written, before each turn, the lines of the edges below v.
use Rattle.sheet.specs.Report.{edge_lines}
use Rattle.sheet.specs.Written.{Written}
use Rattle.sheet.proofs.report.put_edges.Given as goal

abbrev pub invariant-loop-v : goal.invariant-loop-v
invariant-loop-v l = Written (edge_lines l.ups l.downs l.root l.v) l.at l.initial.out l.end l.out

-- `split` has written, before each turn, the first v entries of both columns.
use mathlib.Core.Path.{◌≡◌}
use lib.ListN.{length}
use Rattle.moves.specs.Report.{Split}
use Rattle.moves.proofs.report.split.Given as goal

abbrev pub invariant-loop-v : goal.invariant-loop-v
invariant-loop-v l = (length l.ups ≡ length l.initial.ups) × (length l.downs ≡ length l.initial.downs) × Split l.demands l.ups l.downs l.v

-- `count_crossings` has counted, before each turn, the crossings of the moves that were taken.
use mathlib.Core.Path.{◌≡◌}
use Rattle.std.specs.Slice.Iter.{chunks_exact_rest, chunks_exact_size}
use Rattle.checks.proofs.Counting.{Counting}
use Rattle.checks.proofs.crossings.count_crossings.Given as goal

abbrev pub invariant-loop-pair : goal.invariant-loop-pair
invariant-loop-pair l = (chunks_exact_size l.pair-iterator ≡ 2) × Counting l.parents l.plan (chunks_exact_rest l.pair-iterator) l.ups l.downs

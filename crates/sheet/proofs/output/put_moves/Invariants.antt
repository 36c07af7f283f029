-- `put_moves` writes the head of 8 bytes and then a line for each move: the lines of the pairs not taken are left.
use mathlib.Core.Path.{◌≡◌}
use Rattle.std.specs.Slice.Iter.{chunks_exact_rest, chunks_exact_size}
use Rattle.sheet.proofs.Rows.{moves}
use Rattle.sheet.proofs.Writing.{Left}
use Rattle.sheet.proofs.output.put_moves.Given as goal

abbrev pub invariant-loop-pair : goal.invariant-loop-pair
invariant-loop-pair l =
    (chunks_exact_size l.pair-iterator ≡ 2) × Left (moves (chunks_exact_rest l.pair-iterator)) l.at l.out (moves l.plan) l.initial.at l.initial.out

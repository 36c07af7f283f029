-- `copy` copies one list over another as long. The loop's invariant: the first `i` entries are
-- copied and the others are as they were; at the end none of those is left.
use mathlib.Core.Path.{◌≡◌}
use mathlib.Core.List.{◌++◌}
use lib.ListN.{length, take, drop}
use Rattle.lists.proofs.copy.copy.Given as goal

abbrev pub invariant-loop-i : goal.invariant-loop-i
invariant-loop-i l = (length l.to ≡ length l.from) × (l.to ≡ take l.i l.from ++ drop l.i l.initial.to)

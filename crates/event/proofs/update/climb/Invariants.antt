-- `climb` steps the entries of the nodes on the way: when it has come to w, those below w are stepped (`Climbed`). The way from w is one
-- node shorter with each turn, and at the root one entry is left.
use lib.IntN.{pos, ◌+ℤ◌}
use Rattle.model.specs.Yard.{entry}
use Rattle.laws.proofs.Way.{way_length, Climbed}
use Rattle.event.proofs.update.climb.Given as goal

abbrev pub invariant-loop-w : goal.invariant-loop-w
invariant-loop-w l = Climbed l.parents (λ u. entry l.initial.list u +ℤ l.by) (pos 0) l.node l.initial.list l.list l.w

abbrev pub decreases-loop-w : goal.decreases-loop-w
decreases-loop-w l = way_length l.parents l.w

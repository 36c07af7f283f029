-- What is known in the loop of `serve::choose::choose_of_all`: the last child that needs more than all before it, and where the
-- next ones begin.
use Rattle.model.specs.Yard.{Yard}
use Rattle.serve.specs.Serving.{Sees}
use Rattle.serve.proofs.Looking.{Led, left}
use Rattle.serve.proofs.choose.choose_of_all.Given as goal

abbrev pub invariant-loop-u : goal.invariant-loop-u
invariant-loop-u l = (y : Yard) → Sees y l.t l.s l.u → Led l.away y l.u l.best l.from l.most

abbrev pub decreases-loop-u : goal.decreases-loop-u
decreases-loop-u l = left l.u l.best

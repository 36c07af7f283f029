-- `greatest`: after i turns the number is the most of the first i entries.
use mathlib.Core.Path.{◌≡◌}
use lib.ListN.{get_or}
use Rattle.model.specs.Yard as Yard
use Rattle.lists.proofs.find.greatest.Given as goal

abbrev pub invariant-loop-x : goal.invariant-loop-x
invariant-loop-x l = l.most ≡ Yard.most l.x-index (λ v. get_or l.list v 0)

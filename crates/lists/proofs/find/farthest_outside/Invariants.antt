-- `farthest_outside`: after i turns the number is the most of the first i entries.
use Prim.Native.Nat.{◌-◌, max}
use mathlib.Core.Path.{◌≡◌}
use lib.ListN.{get_or}
use Rattle.model.specs.Yard as Yard
use Rattle.lists.proofs.find.farthest_outside.Given as goal

abbrev pub invariant-loop-x : goal.invariant-loop-x
invariant-loop-x l = l.most ≡ Yard.most l.x-index (λ v. max (l.low - get_or l.list v 0) (get_or l.list v 0 - l.high))

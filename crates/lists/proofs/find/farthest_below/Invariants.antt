-- `farthest_below`: after i turns the number is the most of the first i entries.
use Prim.Native.Nat.{◌-◌}
use mathlib.Core.Path.{◌≡◌}
use lib.ListN.{get_or}
use Rattle.model.specs.Yard as Yard
use Rattle.lists.proofs.find.farthest_below.Given as goal

abbrev pub invariant-loop-i : goal.invariant-loop-i
invariant-loop-i l = l.most ≡ Yard.most l.i (λ v. get_or l.other v 0 - get_or l.list v 0)

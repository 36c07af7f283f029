-- `total` is the sum: after i turns the count is the sum of the first i entries. Each is at most 255, and there are at most 256, so it fits.
use Prim.Native.Nat.{◌*◌, ◌≤◌}
use mathlib.Core.Path.{◌≡◌}
use lib.ListN.{get_or}
use Rattle.model.specs.Yard.{sum}
use Rattle.lists.proofs.total.total.Given as goal

abbrev pub invariant-loop-x : goal.invariant-loop-x
invariant-loop-x l = (l.count ≡ sum l.x-index (λ v. get_or l.list v 0)) × (l.count ≤ 255 * l.x-index)

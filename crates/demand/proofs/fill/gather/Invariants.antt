-- `gather` writes the demands of a tree. The state is `Partial` all the way: no node before v is ready, and in a climb none up to v but u, so none is left
-- where the climb ends, and in the end none at all. Each step of a climb leaves one node less that waits, so it ends.
use Prim.Native.Nat.{ℕ, ◌+◌, ◌<◌}
use mathlib.Core.Path.{◌≡◌}
use lib.ListN.{length, get_or}
use Rattle.model.specs.Given.{listed}
use Rattle.demand.proofs.Partial.{over_waiting, Partial}
use Rattle.demand.proofs.fill.gather.Given as goal

abbrev pub invariant-loop-pending : goal.invariant-loop-pending
invariant-loop-pending l =
    (l.u < length l.yard.parents.now) × Partial (listed l.yard) l.pending l.list
    × ((w : ℕ) → w < l.v + 1 → get_or l.pending w 0 ≡ 1 → w ≡ l.u)
    × (l.left ≡ over_waiting (listed l.yard) l.pending (λ _. 1))

abbrev pub decreases-loop-pending : goal.decreases-loop-pending
decreases-loop-pending l = l.left

abbrev pub invariant-loop-v : goal.invariant-loop-v
invariant-loop-v l =
    Partial (listed l.yard) l.pending l.list
    × ((w : ℕ) → w < l.v → get_or l.pending w 0 ≡ 1 → ⊥)
    × (l.left ≡ over_waiting (listed l.yard) l.pending (λ _. 1))

-- `count_children` counts: each count is how many of the nodes below v have their place there, since a turn adds 1 at one place. That is 256 at most and
-- fits. A node's place is its parent's in one of the halves, so both counts of u together are how many nodes have parent u.
use Prim.Native.Nat.{ℕ, ◌+◌, ◌*◌, ◌%◌, ◌<◌}
use mathlib.Core.List.{List}
use mathlib.Core.Path.{◌≡◌}
use lib.ListN.{length, get_or}
use lib.Dec.{eqb}
use Rattle.model.specs.Yard.{up, one, sum}
use Rattle.demand.proofs.fill.count_children.Given as goal

-- the place of node v
abbrev pub at : List ℕ → ℕ → ℕ
at parents v = up parents v + 256 * (v % 2)

abbrev pub invariant-loop-v : goal.invariant-loop-v
invariant-loop-v l = (length l.counts ≡ 512) × ((i : ℕ) → i < 512 → get_or l.counts i 0 ≡ sum l.v (λ c. one (eqb (at l.parents c) i)))

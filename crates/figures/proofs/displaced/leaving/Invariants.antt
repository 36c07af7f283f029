-- `leaving` counts: a node's count is that of the pebbles that leave it over the edges of the
-- nodes below v, since a turn adds a demand's size at the node that its edge is crossed from. No
-- count is more than 2,048 for each of them.
use Prim.Native.Nat.{ℕ, ◌*◌, ◌≤◌}
use mathlib.Core.Path.{◌≡◌}
use lib.ListN.{length, get_or}
use Rattle.figures.specs.Leaving.{leaving}
use Rattle.figures.proofs.displaced.leaving.Given as goal

abbrev pub invariant-loop-v : goal.invariant-loop-v
invariant-loop-v l =
    (length l.counts ≡ 257) × ((u : ℕ) → get_or l.counts u 0 ≡ leaving l.parents l.demands l.v u)
    × ((u : ℕ) → get_or l.counts u 0 ≤ 2_048 * l.v)

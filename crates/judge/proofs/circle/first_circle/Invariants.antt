-- Each known node reaches the root, and so does each node before v and one whose parent is known; a
-- climb from v that meets no known node in n steps never meets the root, so v is the lowest such
-- node, and one that ends at a known node shows that all its nodes reach the root.
use Prim.Native.Nat.{ℕ, ◌≤◌, ◌<◌, ◌-◌}
use mathlib.Core.Path.{◌≡◌}
use mathlib.Core.Bool.{true, false}
use mathlib.Core.List.{List}
use lib.ListN.{length, get_or}
use Rattle.std.proofs.Common.{None}
use Rattle.model.specs.Yard.{climbs}
use Rattle.judge.specs.Climb.{above}
use Rattle.judge.proofs.circle.first_circle.Given as goal

abbrev pub Reaches : List ℕ → ℕ → ℕ → Type 0
Reaches ps t w = climbs (length ps) ps w t ≡ true

abbrev pub invariant-loop-u : goal.invariant-loop-u
invariant-loop-u l =
    (l.steps ≤ l.n) × (l.u < l.n) × (above l.steps l.parents l.v ≡ l.u)
    × ((j : ℕ) → j < l.steps → above j l.parents l.v ≡ l.root → ⊥) × (l.found ≡ l.initial.found)

abbrev pub decreases-loop-u : goal.decreases-loop-u
decreases-loop-u l = l.n - l.steps

abbrev pub invariant-nodes : goal.invariant-nodes
invariant-nodes l =
    (get_or l.known l.root false ≡ true) × ((w : ℕ) → get_or l.known w false ≡ true → Reaches l.parents l.root w)
    × ((w : ℕ) → w < l.v → Reaches l.parents l.root w) × (l.found ≡ None)

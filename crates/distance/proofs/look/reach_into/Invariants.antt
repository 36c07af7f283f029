-- `distance::look::reach_into` meets its contract: node by node the mark is written and counted (the laws are in Pebbles).
use mathlib.Core.Path.{◌≡◌}
use Prim.Native.Nat.{ℕ, ◌≤◌}
use lib.ListN.{length}
use Rattle.model.specs.Yard.{Yard, size}
use Rattle.distance.specs.Far.{Asked}
use Rattle.distance.proofs.Pebbles.{Reached}
use Rattle.distance.proofs.look.reach_into.Given as goal

abbrev pub invariant-loop-v : goal.invariant-loop-v
invariant-loop-v l =
    (l.count ≤ l.v) × ((y : Yard) (a : ℕ) (q : Asked y a l.pebbles l.far) → length l.initial.list ≡ size y → Reached q l.reach l.v l.list l.count)

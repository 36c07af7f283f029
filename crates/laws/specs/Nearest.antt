-- Request 2.7: what the nearest pebble is, said without searching for it.
use Rattle.std.specs.Prelude.{◌≡◌, true, ℕ, ◌≤◌, ◌<◌}
use Rattle.model.specs.Yard.{Yard, size, held}
use Rattle.model.specs.Distance.{distance}
use Rattle.model.specs.Calls.Distances.{Nearest}

-- from the node a: a node that holds a pebble, with its distance; no other that does is nearer, and none as near has a lower number
pub record IsNearest (y : Yard) (a : ℕ) (r : Nearest) : Type 0 where
  pub node_lt : r.node < size y
  pub holds : held y r.node ≡ true
  pub far : r.distance ≡ distance y a r.node
  pub least : (w : ℕ) → w < size y → held y w ≡ true → r.distance ≤ distance y a w
  pub lowest : (w : ℕ) → w < size y → held y w ≡ true → distance y a w ≡ r.distance → r.node ≤ w

-- Request 2.12: what the wear is, said without computing it.
use Rattle.std.specs.Prelude.{◌≡◌, List, ℕ, ◌≤◌, ◌<◌}
use Rattle.model.specs.Yard.{Yard, size}
use Rattle.model.specs.Push.{Move}
use Rattle.model.specs.Wear.{wear_at, Wear}

-- of the first s stretches none has more crossings of one edge; this one has as many, of this edge; no stretch before it has as many of any; and in it no lower edge has
pub record Worst (y : Yard) (w : ℕ) (ms : List Move) (s : ℕ) (r : Wear) : Type 0 where
  pub first_lt : r.first < s
  pub edge_lt : r.edge < size y
  pub attained : wear_at y w ms r.first r.edge ≡ r.crossings
  pub largest : (i v : ℕ) → i < s → v < size y → wear_at y w ms i v ≤ r.crossings
  pub earliest : (i v : ℕ) → i < r.first → v < size y → wear_at y w ms i v < r.crossings
  pub lowest : (v : ℕ) → v < r.edge → wear_at y w ms r.first v < r.crossings

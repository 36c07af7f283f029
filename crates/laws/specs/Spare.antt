-- Where the spare of an accepted plan lies: on the edges that it crosses both ways.
use Rattle.std.specs.Prelude.{◌≡◌, List, ◌↔◌, ◌⊎◌, ℕ, ◌+◌, ◌*◌, ◌<◌, min}
use Rattle.model.specs.Yard.{Yard, size, sum, root, lacking, surplus, imbalance, shortest}
use Rattle.model.specs.Push.{Move, ups, downs}
use Rattle.model.specs.Calls.Plans.{moves_of}
use Rattle.model.specs.Calls.Checks.{Verdict}

-- how often the edge of v is crossed there and back: once for each crossing one way that one the other way undoes
abbrev pub returns : Yard → List Move → ℕ → ℕ
returns y ms v = min (ups y ms v) (downs y ms v)

-- of a plan that the checker accepts with the verdict r
pub record SpareFound (y : Yard) (bs : List ℕ) (r : Verdict) : Type 0 where
  -- towards the root as often as the subtree of v has too many pebbles at the start, away from it as often as it lacks some, and each way once more for each return
  pub towards : (v : ℕ) → v < size y → ups y (moves_of bs) v ≡ surplus y v + returns y (moves_of bs) v
  pub away : (v : ℕ) → v < size y → downs y (moves_of bs) v ≡ lacking y v + returns y (moves_of bs) v
  pub crossed : (v : ℕ) → v < size y → ups y (moves_of bs) v + downs y (moves_of bs) v ≡ imbalance y v + 2 * returns y (moves_of bs) v
  -- so an edge has spare crossings exactly if it is crossed both ways
  pub both_ways : (v : ℕ) → v < size y → (imbalance y v < ups y (moves_of bs) v + downs y (moves_of bs) v) ↔ ((0 < ups y (moves_of bs) v) × (0 < downs y (moves_of bs) v))
  -- the moves are the shortest length and two for each return, and those two are the excess (spare); the root has no edge
  pub root_none : returns y (moves_of bs) (root y) ≡ 0
  pub moves : r.moves ≡ shortest y + 2 * sum (size y) (returns y (moves_of bs))
  pub excess : r.excess ≡ 2 * sum (size y) (returns y (moves_of bs))
  -- so no push is spare exactly if no edge is crossed both ways
  pub none_spare : (r.excess ≡ 0) ↔ ((v : ℕ) → v < size y → (ups y (moves_of bs) v ≡ 0) ⊎ (downs y (moves_of bs) v ≡ 0))

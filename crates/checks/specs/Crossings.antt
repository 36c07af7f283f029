-- How often the moves of a plan cross each edge.
use Rattle.std.specs.Prelude.{◌≡◌, Bool, true, false, List, [], ℕ, ◌+◌, ◌≤◌, ◌<◌, length, get_or, set}
use Rattle.model.specs.Yard.{Yard, yard_of}
use Rattle.model.specs.Push.{Move, is_up, is_down, count}
use Rattle.model.specs.Calls.Plans.{moves_of}

-- one more at v, if the move crosses its edge
abbrev pub raised : ℕ → Bool → List ℕ → List ℕ
raised v true counts = set counts v (get_or counts v 0 + 1)
raised v false counts = counts

-- a plan that is not too long, of nodes of a yard of at most 256
pub record InYard (parents plan : List ℕ) : Type 0 where
  pub few : length parents ≤ 256
  pub short : length plan ≤ 262_144
  pub node : (i : ℕ) → i < length plan → get_or plan i 0 < length parents

-- the yard of some parents, whose counts do not matter
abbrev pub bare : List ℕ → Yard
bare parents = yard_of parents [] [] []

-- the crossings of some moves, at each edge
abbrev pub CrossingsOf : List ℕ → List Move → List ℕ → List ℕ → Type 0
CrossingsOf parents ms ups downs = (v : ℕ) → (get_or ups v 0 ≡ count (is_up (bare parents) v) ms) × (get_or downs v 0 ≡ count (is_down (bare parents) v) ms)

pub record Counted (parents plan ups downs : List ℕ) : Type 0 where
  pub up_length : length ups ≡ 256
  pub down_length : length downs ≡ 256
  pub are : CrossingsOf parents (moves_of plan) ups downs

-- The crossing report by its two columns (request 2.1): for each edge how often it is crossed towards the root and away from it.
use Rattle.std.specs.Prelude.{◌≡◌, not, cond, List, [], ◌∷◌, ◌++◌, map, ℕ, ◌+◌, ◌*◌, ◌≤◌, ◌<◌, length, get_or, eqb}
use Rattle.model.specs.Yard.{max_size, below}
use Rattle.model.specs.Calls.Answers.{rowUnit}
use Rattle.model.specs.Sheets.{text, line, lines}

-- the line of the edge of v; none for the root
abbrev pub line_unless_root : ℕ → ℕ → ℕ → ℕ → List ℕ
line_unless_root root v up down = cond (not (eqb v root)) (line (v ∷ up ∷ down ∷ [])) []

-- the lines of the edges below v
abbrev pub edge_lines : List ℕ → List ℕ → ℕ → ℕ → List ℕ
edge_lines ups downs root v = lines (map (λ u. u ∷ get_or ups u 0 ∷ get_or downs u 0 ∷ []) (below v (λ u. not (eqb u root))))

-- the whole report, with the number of moves as total
abbrev pub report_of : List ℕ → List ℕ → ℕ → ℕ → List ℕ
report_of ups downs root total = text "track up down\n" ++ (edge_lines ups downs root (length ups) ++ (text "total\n" ++ line (total ∷ [])))

-- two columns of a yard of at most 256 nodes, of numbers below 1,000,000
pub record Columns (ups downs : List ℕ) : Type 0 where
  pub few : length ups ≤ max_size
  pub same : length downs ≡ length ups
  pub up_small : (v : ℕ) → get_or ups v 0 < rowUnit
  pub down_small : (v : ℕ) → get_or downs v 0 < rowUnit

-- room for the report of so many nodes: its heads have 20 bytes, a line of a node and two values below 1,000,000 at most 18, a total below 1,000,000 at most 7
abbrev pub edge_room : ℕ
edge_room = 18

abbrev pub report_room : ℕ → ℕ
report_room nodes = 27 + edge_room * nodes

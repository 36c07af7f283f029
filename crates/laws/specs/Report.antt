-- Request 2.1: what the total of the crossing report is held against.
use Rattle.std.specs.Prelude.{List, [], ◌∷◌, ℕ, ◌+◌}

-- the sum of a list, such as a column
unfoldable pub total : List ℕ → ℕ
total [] = 0
total (k ∷ ks) = k + total ks

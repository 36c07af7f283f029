-- Request 2.12, wear within a stretch of moves: how often one edge (track) is crossed, either way, within some moves in a row.
use Rattle.std.specs.Prelude.{List, ℕ, suc, ◌-◌, length, take, drop, eqb}
use Rattle.model.specs.Yard.{Yard, size, lowest, most}
use Rattle.model.specs.Push.{Move}
use Rattle.model.specs.Follow.{crossings}

-- a stretch: w moves in a row, from move i on; and how many stretches there are
abbrev pub stretch : ℕ → List Move → ℕ → List Move
stretch w ms i = take w (drop i ms)

abbrev pub stretches : ℕ → List Move → ℕ
stretches w ms = suc (length ms) - w

-- how often the edge of v is crossed within the stretch from move i on, and the most that any edge is
unfoldable pub wear_at : Yard → ℕ → List Move → ℕ → ℕ → ℕ
wear_at y w ms i v = crossings y (stretch w ms i) v

abbrev pub busiest : Yard → ℕ → List Move → ℕ → ℕ
busiest y w ms i = most (size y) (wear_at y w ms i)

-- the wear: the crossings, the first move of the stretch, and the edge
pub record Wear : Type 0 where
  pub crossings : ℕ
  pub first : ℕ
  pub edge : ℕ

-- over the first s stretches: the most crossings of one edge within one of them; the first of them that has as many; and the lowest edge that has as many in it
unfoldable pub wear_over : Yard → ℕ → List Move → ℕ → Wear
wear_over y w ms s =
    let c = most s (busiest y w ms) in
    let i = lowest s (λ i. eqb (busiest y w ms i) c) in
    record { crossings = c; first = i; edge = lowest (size y) (λ v. eqb (wear_at y w ms i v) c) }

-- over all of them
abbrev pub wear : Yard → ℕ → List Move → Wear
wear y w ms = wear_over y w ms (stretches w ms)

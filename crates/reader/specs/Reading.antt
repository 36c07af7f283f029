-- What the reader's helpers answer, in the model's words.
use Rattle.std.specs.Prelude.{◌≡◌, List, [], ◌∷◌, ◌++◌, ℕ, ◌≤◌, ◌<◌, length, take, drop}
use Rattle.std.specs.Prelude as Std
use Rattle.std.specs.Prelude.{Some, None, Result, Ok, Err}
use Rattle.std.proofs.Math.Option.{Option, none, some}
use Rattle.model.specs.Yard.{Yard, yard_of, max_size}
use Rattle.model.specs.Calls.Answers.{Answer, answered, refused, mapAnswer}
use Rattle.model.specs.Sheets as Sheets
use Rattle.model.specs.Sheets.{decimal, header, value_count, Field, readNodes, columns}
use Rattle.model.specs.Paper.{paper}
use Rattle.model.specs.declared.Refusal.{Refusal}

-- the value whose decimal is that of u with the byte b behind it; where there is none, no value's decimal begins so
abbrev pub Extended : ℕ → ℕ → Std.Option ℕ → Type 0
Extended u b (Some v) = (v < value_count) × (decimal v ≡ decimal u ++ (b ∷ []))
Extended u b None = (v : ℕ) (w : List ℕ) → v < value_count → decimal v ≡ decimal u ++ (b ∷ w) → ⊥

-- a word, or the values of a line, found in a sheet with the place behind it
abbrev pub word_in : List ℕ → Std.Option (ℕ × ℕ) → Option Field
word_in sheet (Some (v, next)) = some (record { value = v; rest = drop next sheet })
word_in sheet None = none

abbrev pub line_in : List ℕ → List ℕ → Std.Option ℕ → Option Sheets.Line
line_in sheet values (Some next) = some (record { values = values; rest = drop next sheet })
line_in sheet values None = none

-- four arrays of 256 entries
abbrev pub Full : List ℕ → List ℕ → List ℕ → List ℕ → Type 0
Full ps cs ts ds = (length ps ≡ max_size) × (length cs ≡ max_size) × (length ts ≡ max_size) × (length ds ≡ max_size)

-- the yard in the first entries of four arrays, as many as are answered
abbrev pub took : Result ℕ Refusal → List ℕ → List ℕ → List ℕ → List ℕ → Answer Yard
took (Ok n) ps cs ts ds = answered (yard_of (take n ps) (take n cs) (take n ts) (take n ds))
took (Err r) ps cs ts ds = refused (paper r)

abbrev pub counted : Result ℕ Refusal → ℕ
counted (Ok n) = n
counted (Err r) = 0

-- what the lines behind the header say
abbrev pub lines_say : List ℕ → Answer Yard
lines_say sheet = mapAnswer columns (readNodes max_size 0 (drop (length header) sheet))

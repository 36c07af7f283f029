-- What the helpers that write need of their lists, and leave there.
use Rattle.std.specs.Prelude.{◌≡◌, List, ℕ, ◌+◌, ◌*◌, length}
use Rattle.std.proofs.lemmas.List.Edits.{sets}
use Rattle.model.specs.Yard.{Yard, size}

-- `new` is `old` with `word` stored from `at` on, and `behind` the place behind it
pub record Written (word : List ℕ) (at : ℕ) (old : List ℕ) (behind : ℕ) (new : List ℕ) : Type 0 where
  pub list : new ≡ sets old at word
  pub end : behind ≡ at + length word

-- four lists of one length
abbrev pub SameLength : Yard → Type 0
SameLength y = (length y.pebbles ≡ size y) × (length y.targets ≡ size y) × (length y.depths ≡ size y)

-- room for the moves of a plan of so many bytes: the head has 8, and in a line each byte of a move takes at most 4
abbrev pub move_lines_room : ℕ → ℕ
move_lines_room bytes = 8 + 4 * bytes

-- room for a line of two values below 1,000,000; and for a refusal, whose head has as many bytes
abbrev pub pair_room : ℕ
pair_room = 14

abbrev pub refusal_room : ℕ
refusal_room = 28

-- What the program's helpers answer, in the model's words.
use Rattle.std.specs.Prelude.{List, ℕ, ◌*◌, take, Result, Ok, Err}
use Rattle.model.specs.Calls.Answers.{Answer, answered, refused}
use Rattle.model.specs.CheckSheets.{moves_read}
use Rattle.model.specs.Paper.{paper}
use Rattle.model.specs.declared.Refusal.{Refusal}

-- room for all the moves that are read
abbrev pub plan_room : ℕ
plan_room = 2 * moves_read

-- the plan in the first bytes of an array, two for each of the moves that are answered
abbrev pub plan_in : Result ℕ Refusal → List ℕ → Answer (List ℕ)
plan_in (Ok m) plan = answered (take (2 * m) plan)
plan_in (Err r) plan = refused (paper r)

abbrev pub moves_in : Result ℕ Refusal → ℕ
moves_in (Ok m) = m
moves_in (Err r) = 0

-- The check program: what it prints for a yard sheet with moves after it.
use Rattle.std.specs.Prelude.{◌≡◌, true, false, List, [], ◌∷◌, ◌++◌, ◌⊎◌, ℕ, ◌+◌, ◌<◌, length, get_or}
use Rattle.model.specs.Yard.{Yard, size}
use Rattle.model.specs.Judge.{Fault, row}
use Rattle.model.specs.Push.{Move}
use Rattle.model.specs.Calls.Answers.{answered, refused}
use Rattle.model.specs.Calls.Plans.{bytes}
use Rattle.model.specs.Calls.Checks.{Verdict, check_answer}
use Rattle.model.specs.Sheets.{line, yard_sheet, begins, move_head, move_lines, report_head, report, read_yard, refusal_sheet, program_plan, program}
use Rattle.model.specs.CheckSheets.{digit_first, yard_part, moves_read, verdict_sheet, checks}

-- moves that a sheet can hold: of numbers below 256
abbrev pub ByteMoves : List Move → Type 0
ByteMoves ms = (i : ℕ) → get_or (bytes ms) i 0 < 256

-- what ends the moves: the end of the input, or the head of a report
abbrev pub Ends : List ℕ → Type 0
Ends rest = (rest ≡ []) ⊎ (begins report_head rest ≡ true)

-- no line of a move stands in front
abbrev pub NoMove : List ℕ → Type 0
NoMove rest = (m : Move) (behind : List ℕ) → m.from < 256 → m.to < 256 → rest ≡ line (m.from ∷ m.to ∷ []) ++ behind → ⊥

-- what is printed of the checker's answer for a yard and its moves
abbrev pub checked_sheet : Yard → List Move → List ℕ
checked_sheet y ms = verdict_sheet y ms (check_answer y (bytes ms))

-- of a sheet that says the yard (`read_yard sheet ≡ answered y`; `yard_sheet y` is one for every yard that can be written)
pub record SheetsChecked (sheet : List ℕ) (y : Yard) : Type 0 where
  -- with any moves after it, the program prints what the checker answers of the yard and those moves, and the crossing report of those moves
  pub bare : (ms : List Move) → ByteMoves ms → checks (sheet ++ move_lines ms) ≡ checked_sheet y ms
  -- with a report after them, of whatever yard and moves, and anything after that, the same
  pub reported : (ms : List Move) → ByteMoves ms → (z : Yard) (ns : List Move) (rest : List ℕ) → checks (sheet ++ (move_lines ms ++ (report z ns ++ rest))) ≡ checked_sheet y ms
  -- with what the move program printed for it, the number of moves printed, that none is spare, and the report that the move program printed
  pub own : (ms : List Move) → program_plan y ≡ answered ms
      → checks (sheet ++ program sheet) ≡ verdict_sheet y ms (answered (record { moves = length ms; excess = 0 }))
  -- with something after the moves that neither ends them nor begins with a move, 16 and the line where it stands, if no more moves stand before it than the checker
  -- takes: the yard's lines are 1 to n + 1, the head of the moves is line n + 2
  pub damaged : (ms : List Move) → ByteMoves ms → length ms < moves_read → (rest : List ℕ) → ¬ Ends rest → NoMove rest
      → checks (sheet ++ (move_lines ms ++ rest)) ≡ refusal_sheet (row 16 (size y + 3 + length ms))
  -- with anything after it but the head of a move sheet, or with nothing, 15 and that line; a line that begins with a digit would be one of the yard sheet
  pub headless : (rest : List ℕ) → digit_first rest ≡ false → begins move_head rest ≡ false → checks (sheet ++ rest) ≡ refusal_sheet (row 15 (size y + 2))

-- an input that the checker's answer is about: a yard sheet, a move sheet directly after it, and what ends that
pub record Judged (input : List ℕ) (v : Verdict) : Type 0 where
  pub yard : Yard
  pub moves : List Move
  pub rest : List ℕ
  pub is : input ≡ yard_sheet yard ++ (move_lines moves ++ rest)
  pub ends : Ends rest
  pub answer : check_answer yard (bytes moves) ≡ answered v
  pub printed : checks input ≡ verdict_sheet yard moves (answered v)

-- of whatever input: a verdict is printed only of moves that stand there, after the sheet of their yard, and else a refusal
abbrev pub Printed : List ℕ → Type 0
Printed input = ((v : Verdict) × Judged input v) ⊎ ((f : Fault) × (checks input ≡ refusal_sheet f))

-- of whatever input: where the yard sheet in front is refused, that refusal is printed
abbrev pub YardRefused : List ℕ → Type 0
YardRefused input = (f : Fault) → read_yard (yard_part input) ≡ refused f → checks input ≡ refusal_sheet f

-- The check program: what it prints for a yard sheet with a move sheet directly after it. It is for the service fitter, who hands in a sheet altered by
-- hand and relies on the checker. A crossing report (request 2.1) may follow the moves and is not read: the program prints the one of the moves it checked.
use Rattle.std.specs.Prelude.{Bool, true, false, not, cond, ◌&&◌, List, [], ◌∷◌, ◌++◌, ℕ, zero, suc, ◌+◌, length, take, drop, leb, eqb}
use Rattle.std.proofs.Math.Option.{none, some}
use Prim.Native.Char.{code}
use Rattle.model.specs.Yard.{Yard, size}
use Rattle.model.specs.Judge.{row}
use Rattle.model.specs.Push.{Move}
use Rattle.model.specs.Calls.Answers.{Answer, answered, refused, mapAnswer}
use Rattle.model.specs.Calls.Plans.{moves_of}
use Rattle.model.specs.Calls.Checks.{Verdict, check_answer}
use Rattle.model.specs.Sheets.{text, line, line_feed, begins, move_head, report_head, report, readLine, read_yard, refusal_sheet}

-- the yard sheet in front: the first line, and those behind it as long as they begin with a digit, as a node's line does and the head of a move sheet does not
unfoldable pub digit_first : List ℕ → Bool
digit_first [] = false
digit_first (b ∷ bs) = (leb (code "0") b) && (leb b (code "9"))

unfoldable pub yard_part : List ℕ → List ℕ
yard_part [] = []
yard_part (b ∷ bs) = b ∷ cond ((eqb b line_feed) && (not (digit_first bs))) [] (yard_part bs)

-- a move's line has two values, the node it leaves and the one it enters
abbrev pub move_values : ℕ
move_values = 2

-- the bytes of the plan whose lines begin with line l, up to the end or the head of a report, but no more than k moves; 16, a line is of another shape
unfoldable pub readMoves : ℕ → ℕ → List ℕ → Answer (List ℕ)
readMoves zero l bs = answered []
readMoves (suc k) l [] = answered []
readMoves (suc k) l (b ∷ bs) = elim (begins report_head (b ∷ bs)) [
  | true ↦ answered []
  | false ↦ elim (readLine move_values (b ∷ bs)) [ none ↦ refused (row 16 l) | some m ↦ mapAnswer (◌++◌ m.values) (readMoves k (suc l) m.rest) ]
]

-- one move more is read than the checker takes: then it refuses the plan with 9, whatever follows
abbrev pub moves_read : ℕ
moves_read = 131_073

-- the plan of a move sheet whose head is line l: 15, the head differs, lacks its line feed or is missing; then its lines in turn
unfoldable pub readPlan : ℕ → List ℕ → Answer (List ℕ)
readPlan l bs = elim (begins move_head bs) [ false ↦ refused (row 15 l) | true ↦ readMoves moves_read (suc l) (drop (length move_head) bs) ]

-- what is done with an answer, if it is no refusal
abbrev pub and_then : {A B : Type 0} → Answer A → (A → Answer B) → Answer B
and_then (answered a) f = f a
and_then (refused r) f = refused r

-- The two sheets as they are read, before anything is judged: the yard, and the bytes of the plan.
pub record BothSheets : Type 0 where
  pub yard : Yard
  pub plan : List ℕ

abbrev pub with_plan : Yard → List ℕ → BothSheets
with_plan y plan = record { yard = y; plan = plan }

-- The yard's sheet is read first, then the moves' sheet, whose head is the line after it.
unfoldable pub read_sheets : List ℕ → Answer BothSheets
read_sheets bs = and_then (read_yard (yard_part bs)) (λ y. mapAnswer (with_plan y) (readPlan (size y + 2) (drop (length (yard_part bs)) bs)))

-- What is printed of the checker's answer for a yard and its moves: the number of moves and how many of them are spare, and below them the crossing report of
-- these moves; or the refusal and its place.
unfoldable pub verdict_sheet : Yard → List Move → Answer Verdict → List ℕ
verdict_sheet y ms (answered v) = text "moves spare\n" ++ (line (v.moves ∷ v.excess ∷ []) ++ report y ms)
verdict_sheet y ms (refused f) = refusal_sheet f

-- of the sheets as they were read
abbrev pub printed_of_sheets : Answer BothSheets → List ℕ
printed_of_sheets (answered s) = verdict_sheet s.yard (moves_of s.plan) (check_answer s.yard s.plan)
printed_of_sheets (refused f) = refusal_sheet f

-- it judges only so many bytes of its input: more than a yard sheet and a plan of 131,073 moves can have
abbrev pub checked_bytes : ℕ
checked_bytes = 1_060_000

unfoldable pub checks : List ℕ → List ℕ
checks input = printed_of_sheets (read_sheets (take checked_bytes input))

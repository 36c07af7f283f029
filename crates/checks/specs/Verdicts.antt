-- What is printed for accepted moves.
use Rattle.std.specs.Prelude.{◌≡◌, List, ℕ, ◌+◌}
use Rattle.model.specs.Yard.{Yard, size, max_size}
use Rattle.model.specs.Calls.Answers.{answered, mapAnswer}
use Rattle.model.specs.Calls.Plans.{moves_of}
use Rattle.model.specs.Calls.Checks.{Verdict, check_answer}
use Rattle.model.specs.CheckSheets.{with_plan, readPlan, verdict_sheet, printed_of_sheets}
use Rattle.sheet.specs.Written.{pair_room}
use Rattle.sheet.specs.Report.{report_room}

abbrev pub verdict : ℕ → ℕ → Verdict
verdict moves excess = record { moves = moves; excess = excess }

-- the checker accepts the plan for a yard of these parents
pub record Accepted (y : Yard) (parents plan : List ℕ) (v : Verdict) : Type 0 where
  pub is : y.parents ≡ parents
  pub answer : check_answer y plan ≡ answered v

abbrev pub accepted_sheet : Yard → List ℕ → Verdict → List ℕ
accepted_sheet y plan v = verdict_sheet y (moves_of plan) (answered v)

-- what is printed for a yard and a plan, and for a yard and the bytes after its sheet
abbrev pub checked_plan : Yard → List ℕ → List ℕ
checked_plan y plan = verdict_sheet y (moves_of plan) (check_answer y plan)

abbrev pub checked_from : Yard → List ℕ → List ℕ
checked_from y rest = printed_of_sheets (mapAnswer (with_plan y) (readPlan (size y + 2) rest))

-- room for every output: a verdict, whose head has 12 bytes, and the report of the largest yard
abbrev pub verdict_room : ℕ
verdict_room = 12 + pair_room + report_room max_size

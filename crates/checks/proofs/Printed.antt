-- What is printed, by the case of each answer on the way.
use mathlib.Core.Path.{◌≡◌, sym, ap, ◌∙◌}
use mathlib.Core.List.{List}
use Prim.Native.Nat.{ℕ, ◌+◌}
use lib.ListN.{length, take, drop}
use Rattle.model.specs.Yard.{Yard, size}
use Rattle.model.specs.Judge.{Fault}
use Rattle.model.specs.Calls.Answers.{Answer, answered, refused, mapAnswer, Row}
use Rattle.model.specs.Calls.Plans.{moves_of}
use Rattle.model.specs.Calls.Checks.{Verdict, check_answer}
use Rattle.model.specs.Sheets.{read_yard, refusal_sheet}
use Rattle.model.specs.CheckSheets.{yard_part, readPlan, and_then, BothSheets, with_plan, read_sheets, verdict_sheet, printed_of_sheets, checks}
use Rattle.laws.proofs.Places.{checked_small, read_row}
use Rattle.laws.proofs.YardPart.{yard_part_front}
use Rattle.laws.proofs.CheckSheets.{checks_cut}
use Rattle.checks.specs.Verdicts.{accepted_sheet, checked_plan, checked_from}

-- the checker's answer: accepted, or refused with a number and a place that can be printed
pub agreed : (y : Yard) (plan : List ℕ) {v : Verdict} → answered v ≡ check_answer y plan → accepted_sheet y plan v ≡ checked_plan y plan
agreed y plan e = ap (verdict_sheet y (moves_of plan)) e

pub refusal : (y : Yard) (plan : List ℕ) {f : Fault} → refused f ≡ check_answer y plan → Row f × (refusal_sheet f ≡ checked_plan y plan)
unfolding verdict_sheet
refusal y plan e = (checked_small y plan e, ap (verdict_sheet y (moves_of plan)) e)

-- the plan that was read, or what refuses its sheet
module _ (y : Yard) (rest : List ℕ) where
  pub planned : {plan : List ℕ} → answered plan ≡ readPlan (size y + 2) rest → checked_plan y plan ≡ checked_from y rest
  planned p = ap (λ (a : Answer (List ℕ)). printed_of_sheets (mapAnswer (with_plan y) a)) p

  pub unplanned : {f : Fault} → refused f ≡ readPlan (size y + 2) rest → refusal_sheet f ≡ checked_from y rest
  unplanned e = ap (λ (a : Answer (List ℕ)). printed_of_sheets (mapAnswer (with_plan y) a)) e

-- the yard that was read from the front of an input, or what refuses its sheet
module _ (input : List ℕ) (end : ℕ) (n : end ≡ length (yard_part input)) where
  abbrev after : Answer Yard → Answer BothSheets
  after r = and_then r (λ y. mapAnswer (with_plan y) (readPlan (size y + 2) (drop end input)))

  whole : printed_of_sheets (after (read_yard (take end input))) ≡ checks input
  unfolding read_sheets
  whole = rw (n, (yard_part_front input).0) (sym (checks_cut input))

  pub checked : {y : Yard} → read_yard (take end input) ≡ answered y → checked_from y (drop end input) ≡ checks input
  checked e = sym (ap (λ (r : Answer Yard). printed_of_sheets (after r)) e) ∙ whole

  pub unread : {f : Fault} → read_yard (take end input) ≡ refused f → Row f × (refusal_sheet f ≡ checks input)
  unread e = (read_row (take end input) e, sym (ap (λ (r : Answer Yard). printed_of_sheets (after r)) e) ∙ whole)

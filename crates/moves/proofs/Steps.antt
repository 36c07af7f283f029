-- The program, step by step: the sheet of a plan, or of the planner's refusal; what was read, or the reader's refusal.
use mathlib.Core.Path.{◌≡◌, sym, ap, ◌∙◌}
use mathlib.Core.List.{List}
use Prim.Native.Nat.{ℕ, ◌*◌, ◌≤◌}
use native.Mathlib.Omega.{arith}
use lib.ListN.{length, take, replicate, length-replicate}
use Rattle.model.specs.Yard.{Yard}
use Rattle.model.specs.Judge.{Fault}
use Rattle.model.specs.Calls.Answers.{answered, refused, Row}
use Rattle.model.specs.Calls.Plans.{plan_fault, plan_answer, plan_list}
use Rattle.model.specs.Plan.{plan}
use Rattle.model.specs.Sheets.{refusal_sheet, program_plan_bytes, printed_of, read_yard, program}
use Rattle.laws.proofs.Calls.{answer_answered, answer_refused, plan_none}
use Rattle.laws.proofs.Demand3.{written}
use Rattle.laws.proofs.Sheets.{program_cut}
use Rattle.laws.proofs.Places.{plan_small, read_row}
use Rattle.moves.specs.Report.{Planned, planSheet}

-- the planner's answer, with the program's list
abbrev pub zeros : List ℕ
zeros = replicate program_plan_bytes 0

pub room : length zeros ≡ program_plan_bytes
room = length-replicate {A = ℕ} program_plan_bytes 0

module _ (y : Yard) where
  pub plan_number : {m : ℕ} → answered m ≡ plan_answer y zeros
      → (2 * m ≤ program_plan_bytes) × ((list : List ℕ) → list ≡ plan_list y zeros → Planned y (take (2 * m) list)) × (planSheet y ≡ printed_of (answered y))
  plan_number {m} e =
      let a = answer_answered (plan_fault y (length zeros)) (length (plan y)) m (sym e) in
      let n = (plan_none y (length zeros)).0 a.0 in
      let q = rw room at a.0 in
      (omega (arith, n.2, a.1, room), (λ list d. record { tree = n.0; matched = n.1; is = rw d (written y zeros m (sym e)).1 }), rw q)

  pub plan_refused : {f : Fault} → refused f ≡ plan_answer y zeros → Row f × (refusal_sheet f ≡ printed_of (answered y))
  plan_refused {f} e =
      let a = answer_refused (plan_fault y (length zeros)) (length (plan y)) f (sym e) in
      let q = rw room at a in
      (rw (← e) at (plan_small y (length zeros)), rw q)

-- what was read, or the reader's refusal
module _ (bs : List ℕ) where
  pub printed : {y : Yard} → read_yard bs ≡ answered y → printed_of (answered y) ≡ program bs
  printed e = sym (program_cut bs ∙ ap printed_of e)

  pub unread : {f : Fault} → read_yard bs ≡ refused f → Row f × (refusal_sheet f ≡ program bs)
  unread e = (read_row bs e, sym (program_cut bs ∙ ap printed_of e))

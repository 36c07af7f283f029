-- The call that plans part by part (request 2.11).
use Rattle.std.specs.Prelude.{List, [], ◌∷◌, map, ℕ, ◌*◌, length, leb, eqb}
use Rattle.std.proofs.Math.Option.{Option}
use Rattle.model.specs.Yard.{Yard, size}
use Rattle.model.specs.Judge.{Fault, fault, first_of, unless, judge, totals_fault}
use Rattle.model.specs.Parts.{topmost, parts_plan}
use Rattle.model.specs.Calls.Answers.{Answer, answer, lent, overwrite, range}
use Rattle.model.specs.Calls.Plans.{bytes}

-- Refusals 1 to 7 as the planner gives them, then 2 for a part list of another length than n, then 8 with the moves of all parts as place. It writes the parts'
-- plans at the front of the plan list, leaves the bytes behind them, and answers the number of moves; the part list receives each node's topmost node.
abbrev pub parts_tests : Yard → List ℕ → List ℕ → List (Option Fault)
parts_tests y list parts =
    judge y
    ∷ totals_fault y
    ∷ unless (eqb (length parts) (size y)) (fault 2 0)
    ∷ unless (leb (2 * length (parts_plan y)) (length list)) (fault 8 (length (parts_plan y)))
    ∷ []

unfoldable pub parts_fault : Yard → List ℕ → List ℕ → Option Fault
parts_fault y list parts = first_of (parts_tests y list parts)

abbrev pub parts_answer : Yard → List ℕ → List ℕ → Answer ℕ
parts_answer y list parts = answer (parts_fault y list parts) (length (parts_plan y))

abbrev pub parts_plan_list : Yard → List ℕ → List ℕ → List ℕ
parts_plan_list y list parts = lent (parts_fault y list parts) (overwrite (bytes (parts_plan y)) list) list

abbrev pub parts_list : Yard → List ℕ → List ℕ → List ℕ
parts_list y list parts = lent (parts_fault y list parts) (map (topmost y) (range 0 (size y))) parts

-- The call that lists the openings (request 2.13).
use Rattle.std.specs.Prelude.{List, [], ◌∷◌, ℕ, ◌*◌, length, leb}
use Rattle.std.proofs.Math.Option.{Option}
use Rattle.model.specs.Yard.{Yard}
use Rattle.model.specs.Judge.{Fault, fault, first_of, unless, judge, totals_fault}
use Rattle.model.specs.Openings.{openings}
use Rattle.model.specs.Calls.Answers.{Answer, answer, lent, overwrite}
use Rattle.model.specs.Calls.Plans.{bytes}

-- Refusals 1 to 7 as the planner gives them, then 8 if the list has fewer than two bytes for each opening, with the moves needed in this list as place. It writes the
-- openings at the front of the list, leaves the bytes behind them, and answers their number.
abbrev pub openings_tests : Yard → ℕ → List (Option Fault)
openings_tests y room = judge y ∷ totals_fault y ∷ unless (leb (2 * length (openings y)) room) (fault 8 (length (openings y))) ∷ []

unfoldable pub openings_fault : Yard → ℕ → Option Fault
openings_fault y room = first_of (openings_tests y room)

abbrev pub openings_answer : Yard → List ℕ → Answer ℕ
openings_answer y list = answer (openings_fault y (length list)) (length (openings y))

abbrev pub openings_list : Yard → List ℕ → List ℕ
openings_list y list = lent (openings_fault y (length list)) (overwrite (bytes (openings y)) list) list

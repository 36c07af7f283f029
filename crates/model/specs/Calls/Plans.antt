-- The planner's call ('The planner'), and a plan as a list of bytes ('What the yard is').
use Rattle.std.specs.Prelude.{List, [], ◌∷◌, ℕ, ◌*◌, length, leb}
use Rattle.std.proofs.Math.Option.{Option}
use Rattle.model.specs.Yard.{Yard}
use Rattle.model.specs.Judge.{Fault, fault, first_of, unless, judge, totals_fault}
use Rattle.model.specs.Push.{Move, push}
use Rattle.model.specs.Plan.{plan}
use Rattle.model.specs.Calls.Answers.{Answer, answer, lent, overwrite}

-- a plan as bytes, from and to of each move; and the moves of such a list
unfoldable pub bytes : List Move → List ℕ
bytes [] = []
bytes (m ∷ ms) = m.from ∷ m.to ∷ bytes ms

unfoldable pub moves_of : List ℕ → List Move
moves_of [] = []
moves_of (a ∷ []) = []
moves_of (a ∷ b ∷ bs) = push a b ∷ moves_of bs

-- The planner: refusals 1 to 6, 7, then 8 if the list has fewer than two bytes for each move, with the moves needed as place. It writes the
-- plan at the front of the list, leaves the bytes behind it, and answers the number of moves.
abbrev pub plan_tests : Yard → ℕ → List (Option Fault)
plan_tests y room = judge y ∷ totals_fault y ∷ unless (leb (2 * length (plan y)) room) (fault 8 (length (plan y))) ∷ []

unfoldable pub plan_fault : Yard → ℕ → Option Fault
plan_fault y room = first_of (plan_tests y room)

abbrev pub plan_answer : Yard → List ℕ → Answer ℕ
plan_answer y list = answer (plan_fault y (length list)) (length (plan y))

abbrev pub plan_list : Yard → List ℕ → List ℕ
plan_list y list = lent (plan_fault y (length list)) (overwrite (bytes (plan y)) list) list

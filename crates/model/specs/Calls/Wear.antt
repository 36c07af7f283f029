-- The call for the wear (request 2.12).
use Rattle.std.specs.Prelude.{◌&&◌, List, [], ◌∷◌, ℕ, length, leb, ltb}
use Rattle.std.proofs.Math.Option.{Option}
use Rattle.model.specs.Yard.{Yard}
use Rattle.model.specs.Judge.{Fault, fault, first_of, unless}
use Rattle.model.specs.Wear.{Wear, wear}
use Rattle.model.specs.Calls.Answers.{Answer, answer}
use Rattle.model.specs.Calls.Plans.{moves_of}
use Rattle.model.specs.Calls.Checks.{check_fault}

-- The checker's refusals, then 28 for a width of 0 or above the number of moves. It writes nothing.
abbrev pub wear_tests : Yard → List ℕ → ℕ → List (Option Fault)
wear_tests y bs w = check_fault y bs ∷ unless ((ltb 0 w) && (leb w (length (moves_of bs)))) (fault 28 0) ∷ []

unfoldable pub wear_fault : Yard → List ℕ → ℕ → Option Fault
wear_fault y bs w = first_of (wear_tests y bs w)

abbrev pub wear_answer : Yard → List ℕ → ℕ → Answer Wear
wear_answer y bs w = answer (wear_fault y bs w) (wear y w (moves_of bs))

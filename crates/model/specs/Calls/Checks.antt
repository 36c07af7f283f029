-- The checker and the trial ('Checker, trial and three figures').
use Rattle.std.specs.Prelude.{Bool, cond, ◌&&◌, List, [], ◌∷◌, ℕ, suc, ◌+◌, ◌-◌, ◌%◌, length, take, leb, ltb, eqb}
use Rattle.std.proofs.Math.Option.{Option, none}
use Rattle.model.specs.Yard.{Yard, size, pebble, target, below, shortest}
use Rattle.model.specs.Judge.{Fault, fault, first_of, unless, at_lowest, judge, totals_fault}
use Rattle.model.specs.Push.{Move, move_fault, pushed, after, run}
use Rattle.model.specs.Calls.Answers.{Answer, answer, lent}
use Rattle.model.specs.Calls.Plans.{moves_of}

-- the longest plan that checker and trial read, in bytes (request 2.10): 131,072 moves
abbrev pub max_plan_bytes : ℕ
max_plan_bytes = 262_144

-- 9: a plan of odd length, or above 262,144 bytes
abbrev pub bytes_fault : List ℕ → Option Fault
bytes_fault bs = unless ((eqb (length bs % 2) 0) && (leb (length bs) max_plan_bytes)) (fault 9 0)

-- 10 to 13 for each move in turn, in the yard that the pushes before it leave, with its number (from i on) as place
unfoldable pub moves_fault : ℕ → Yard → List Move → Option Fault
moves_fault i y [] = none
moves_fault i y (m ∷ ms) = first_of (move_fault y m i ∷ moves_fault (suc i) (pushed y m) ms ∷ [])

-- 14: a node has fewer pebbles than targets at the end, the lowest such one
abbrev pub end_fault : Yard → Option Fault
end_fault y = at_lowest 14 (below (size y) (λ v. ltb (pebble y v) (target y v)))

-- The checker: refusals 1 to 6, 7, 9, 10 to 13, 14. It answers the number of moves and the excess (spare): moves minus shortest length.
pub record Verdict : Type 0 where
  pub moves : ℕ
  pub excess : ℕ

-- the checker's tests of the moves: 10 to 13 for each in turn, then 14
abbrev pub obey_tests : Yard → List Move → List (Option Fault)
obey_tests y ms = moves_fault 0 y ms ∷ end_fault (run y ms) ∷ []

abbrev pub check_tests : Yard → List ℕ → List (Option Fault)
check_tests y bs = judge y ∷ totals_fault y ∷ bytes_fault bs ∷ obey_tests y (moves_of bs)

unfoldable pub check_fault : Yard → List ℕ → Option Fault
check_fault y bs = first_of (check_tests y bs)

abbrev pub check_answer : Yard → List ℕ → Answer Verdict
check_answer y bs = answer (check_fault y bs) (record { moves = length (moves_of bs); excess = length (moves_of bs) - shortest y })

-- The trial: refusals 1 to 6, 9, then 10 to 13 on the moves that it obeys, which are those from the front until the budget or the plan ends.
-- It answers how many it took and whether the plan ended (also where both end together), and writes the new counts into the pebble list.
pub record Trial : Type 0 where
  pub taken : ℕ
  pub plan_ended : Bool

abbrev pub within : List ℕ → ℕ → List Move
within bs budget = take budget (moves_of bs)

abbrev pub trial_tests : Yard → List ℕ → ℕ → List (Option Fault)
trial_tests y bs budget = judge y ∷ bytes_fault bs ∷ moves_fault 0 y (within bs budget) ∷ []

unfoldable pub trial_fault : Yard → List ℕ → ℕ → Option Fault
trial_fault y bs budget = first_of (trial_tests y bs budget)

abbrev pub trial_answer : Yard → List ℕ → ℕ → Answer Trial
trial_answer y bs budget = answer (trial_fault y bs budget) (record { taken = length (within bs budget); plan_ended = leb (length (moves_of bs)) budget })

abbrev pub trial_pebbles : Yard → List ℕ → ℕ → List ℕ
trial_pebbles y bs budget = lent (trial_fault y bs budget) (after y (within bs budget)) y.pebbles

-- the trial answers the moves taken, plus 500,000 where the budget ended it
abbrev pub trial_in_c : Trial → ℕ
trial_in_c t = t.taken + cond t.plan_ended 0 500_000

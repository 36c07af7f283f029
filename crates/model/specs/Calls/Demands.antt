-- The account call ('Accounts'), the figures bound and disturbed ('Checker, trial and three figures', requests 2.2 and 2.4), and the figure for n alone (request 2.2).
use Rattle.std.specs.Prelude.{◌&&◌, List, [], ◌∷◌, map, ℕ, ◌*◌, ◌/◌, length, leb, ltb, eqb, ℤ}
use Rattle.std.proofs.Math.Option.{Option}
use Rattle.model.specs.Yard.{Yard, size, max_size, max_depth, demand}
use Rattle.model.specs.Judge.{Fault, fault, first_of, unless, judge, matched_fault}
use Rattle.model.specs.Plan.{plan}
use Rattle.model.specs.Follow.{displaced}
use Rattle.model.specs.Calls.Answers.{Answer, answer, lent, range}

-- The account call ('Accounts'): refusals 1 to 6, then 2 for a list of another length than n; it writes the demands of all nodes.
abbrev pub demands_tests : Yard → List ℤ → List (Option Fault)
demands_tests y list = judge y ∷ unless (eqb (length list) (size y)) (fault 2 0) ∷ []

unfoldable pub demands_fault : Yard → List ℤ → Option Fault
demands_fault y list = first_of (demands_tests y list)

-- the demands of all nodes in rising number, as equation 1 has them
abbrev pub demands_of : Yard → List ℤ
demands_of y = map (demand y) (range 0 (size y))

abbrev pub demands_list : Yard → List ℤ → List ℤ
demands_list y list = lent (demands_fault y list) (demands_of y) list

-- The figures: refusals 1 to 7. The bound (request 2.2) is how long the plan is: its moves, and the bytes that a list needs to hold it, two a move
pub record Length : Type 0 where
  pub moves : ℕ
  pub list_bytes : ℕ

abbrev pub length_of : ℕ → Length
length_of moves = record { moves = moves; list_bytes = 2 * moves }

abbrev pub bound_answer : Yard → Answer Length
bound_answer y = answer (matched_fault y) (length_of (length (plan y)))

-- displaced (disturbed, request 2.4) are the pebbles that take part in a move of the plan
abbrev pub displaced_answer : Yard → Answer ℕ
displaced_answer y = answer (matched_fault y) (displaced y)

-- The figure for n alone (requests 2.2 and 2.10): the most moves that a yard of n nodes can need, for each of eight layers a quarter of n × n, rounded down; 1, n is 0 or
-- above 256
abbrev pub longest : ℕ → ℕ
longest n = max_depth * (n * n / 4)

abbrev pub longest_fault : ℕ → Option Fault
longest_fault n = unless ((ltb 0 n) && (leb n max_size)) (fault 1 0)

abbrev pub longest_answer : ℕ → Answer ℕ
longest_answer n = answer (longest_fault n) (longest n)

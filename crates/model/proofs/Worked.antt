-- The starred yards of document 01 ('Yards worked by hand'), the examples of its table of refusals, and yards that pin each choice of a child,
-- as one list of inputs and outcomes: the definitions, computed, give what is written here.
use mathlib.Core.Path.{◌≡◌, refl}
use mathlib.Core.Bool.{Bool, true, false, cond}
use mathlib.Core.List.{List, [], ◌∷◌, map, flatten}
use mathlib.Core.Option.{Option, none}
use Prim.Native.Nat.{ℕ, zero, suc, ◌*◌, ◌≤◌, ◌<◌}
use Prim.Native.String.{String}
use native.Mathlib.Omega.{arith}
use lib.Dec.{eqb}
use lib.ListN.{length, take, drop, replicate}
use lib.IntN.{ℤ, pos, negsuc}
use Rattle.model.specs.declared.Event.{Event}
use Rattle.model.specs.declared.Event.TheVariants.{PebbleArrives, PebbleLeaves, TargetSet, TargetCleared}
use Rattle.model.specs.declared.Refusal.TheVariants.{Width}
use Rattle.model.specs.Paper.{paper}
use Rattle.model.specs.Yard.{Yard, yard_of, fresh, holding, sum, below, roots, climbs, inside, subtotal, most, sumℤ, Equation2, shortest}
use Rattle.model.specs.Judge.{Fault, row_count, row, fault, judge, matched_fault}
use Rattle.model.specs.Push.{Move, push, move_fault, push_fault, legal, shifted, after, accepted, count}
use Rattle.model.specs.Plan.{needy, lowest_child, greatest, neediest_child, choice, fills, inject, extract, turn, settle, each, balance, plan_within, plan_by, plan}
use Rattle.model.specs.Follow.{placed, starts, occurs, At, Follows, route, crossings, came, LastFirst, first_at, last_in, lifo, displaced}
use Rattle.model.specs.Calls.Answers.{Answer, answered, refused, mapAnswer, range, in_c, zeroInC, noted}
use Rattle.model.specs.Calls.Demands.{demands_fault, demands_list, Length, bound_answer, displaced_answer, longest_answer}
use Rattle.model.specs.Calls.Events.{altered, demands_after, event_fault, event_pebbles, event_targets, event_demands, console, Happening, happens, leaves, run_leaves}
use Rattle.model.specs.Distance.{any_of, reaches, distance}
use Rattle.model.specs.Calls.Distances.{Nearest, nearest, nearest_fault, nearest_answer, inReach, reach_fault, reach_list, reach_answer}
use Rattle.model.specs.Calls.Plans.{bytes, moves_of, plan_fault, plan_answer, plan_list}
use Rattle.model.specs.Parts.{climbed, topmost, tops, masked, parts_plan}
use Rattle.model.specs.Calls.Parts.{parts_fault, parts_answer, parts_plan_list, parts_list}
use Rattle.model.specs.Calls.Checks.{moves_fault, Verdict, check_fault, check_answer, Trial, trial_fault, trial_answer, trial_pebbles, trial_in_c}
use Rattle.model.specs.Wear.{wear_at, Wear, wear_over}
use Rattle.model.specs.Calls.Wear.{wear_fault, wear_answer}
use Rattle.model.specs.Openings.{opening, openings}
use Rattle.model.specs.Calls.Openings.{openings_fault, openings_answer, openings_list}
use Rattle.model.specs.Calls.Registers.{block_of, registers_of, bit, set_bit, raised, register_fault, task_fault, step_fault, registers_then, pebbles_then, stepped, line_in_c}
use Rattle.model.specs.Cabinet.{steps}
use Rattle.model.specs.Sheets.{text, digits, decimal, stopBefore, line, lines, header, yard_sheet, max_sheet_bytes, judged_bytes, program_plan_bytes, cut, same, value, field, readLine, readNodes, read_yard, reader, read_answer, filled, write_fault, write_answer, write_list, move_lines, edges, report, move_sheet, refusal_sheet, program}
use Rattle.model.proofs.Yards.{marks, yard, yard_a, demands_a, yard_b, plan_b}

data Input : Type 0 where
  demands_of : Yard → Input
  -- the account call with a list
  account_into : List ℤ → Yard → Input
  length_of : Yard → Input
  test_of : Yard → Input
  -- the plan, and its first move alone
  plan_of : Yard → Input
  first_move_of : Yard → Input
  -- the same with the lowest child first
  lowest_first_move_of : Yard → Input
  -- the planner with a list of so many bytes, all 9
  plan_into : ℕ → Yard → Input
  -- the call that plans part by part, with a plan list and a part list of so many bytes, all 9
  parts_into : ℕ → ℕ → Yard → Input
  check_of : List ℕ → Yard → Input
  trial_of : List ℕ → ℕ → Yard → Input
  -- the wear of a plan, within so many moves
  wear_of : List ℕ → ℕ → Yard → Input
  -- the openings, into a list of so many bytes, all 9
  openings_into : ℕ → Yard → Input
  -- pushes, one after another, each on the yard that the one before gave back
  pushes_of : List Move → Yard → Input
  print_of : String → Input
  -- the reader with lists of so many bytes, all 9, for parents, pebbles, targets and depths; and the writer with a list of so many, all 9
  read_into : List ℕ → ℕ → ℕ → ℕ → ℕ → Input
  -- what it finds in lines, if so many may follow, from a node on
  rows_of : ℕ → ℕ → String → Input
  write_into : ℕ → Yard → Input
  bound_of : Yard → Input
  longest_of : ℕ → Input
  displaced_of : Yard → Input
  -- where the pebbles start, and the one that each of some moves takes
  starts_of : Yard → Input
  taken_of : List Move → Yard → Input
  -- an event at a node, with a demand list; and events one after another
  event_of : Event → ℕ → List ℤ → Yard → Input
  events_of : List Happening → List ℤ → Yard → Input
  -- the distances from a node; the pebble nearest to it; those within reach of it, into a list
  distances_of : ℕ → Yard → Input
  nearestOf : ℕ → Yard → Input
  reach_of : List ℕ → ℕ → ℕ → Yard → Input
  -- a step of the cabinet, told whether the pebble failed to arrive, with a plan and a block; and a first step with so many more
  step_of : Bool → List ℕ → List ℕ → Yard → Input
  steps_of : ℕ → List ℕ → List ℕ → Yard → Input
  -- the bytes 4 to 6 of the block of the cabinet, with so many moves left; and how many are left by these bytes
  block_of_left : ℕ → Input
  left_of_block : ℕ → ℕ → ℕ → Input
  -- a number with a bit set
  set_bit_of : ℕ → ℕ → Input
  -- the same calls as the C program sees them: the planner, the checker, the trial, the bound with what the number for its bytes held, and a step
  plan_in_c : ℕ → Yard → Input
  check_in_c : List ℕ → Yard → Input
  trial_of_in_c : List ℕ → ℕ → Yard → Input
  bound_in_c : ℕ → Yard → Input
  step_in_c : Bool → List ℕ → List ℕ → Yard → Input

data Outcome : Type 0 where
  demands : List ℤ → Outcome
  -- the answer, and the list then
  accounted : Option Fault → List ℤ → Outcome
  number : ℕ → Outcome
  -- the answer in C, and the number behind the pointer then
  numbers : ℕ → ℕ → Outcome
  refusal : Option Fault → Outcome
  moves : List Move → Outcome
  planned : Answer ℕ → List ℕ → Outcome
  -- the answer, and the plan list and the part list then
  parted : Answer ℕ → List ℕ → List ℕ → Outcome
  checked : Answer Verdict → Outcome
  tried : Answer Trial → List ℕ → Outcome
  worn : Answer Wear → Outcome
  left : List ℕ → Outcome
  measured : Answer Length → Outcome
  counted : Answer ℕ → Outcome
  printed : List ℕ → Outcome
  -- the values of lines
  rows : Answer (List (List ℕ)) → Outcome
  -- the reader's answer, and its four lists then
  read : Answer ℕ → List ℕ → List ℕ → List ℕ → List ℕ → Outcome
  -- the answer, and the pebbles, the targets and the demands then
  happened : Option Fault → List ℕ → List ℕ → List ℤ → Outcome
  console_left : List ℕ → List ℕ → List ℤ → Outcome
  located : Answer Nearest → Outcome
  reached : Answer ℕ → List ℕ → Outcome
  -- the line, the block and the pebbles then
  signalled : Answer Bool → List ℕ → List ℕ → Outcome

outcome : Input → Outcome
outcome (demands_of y) = demands (demands_list y (map (λ (_ : ℕ). pos 0) y.parents))
outcome (account_into list y) = accounted (demands_fault y list) (demands_list y list)
outcome (length_of y) = number (shortest y)
outcome (test_of y) = refusal (judge y)
outcome (plan_of y) = moves (plan y)
outcome (first_move_of y) = moves (take 1 (plan y))
outcome (lowest_first_move_of y) = moves (take 1 (plan_by fills lowest_child y))
outcome (plan_into n y) = planned (plan_answer y (replicate n 9)) (plan_list y (replicate n 9))
outcome (parts_into n k y) = let list : List ℕ = replicate n 9 in let parts : List ℕ = replicate k 9 in parted (parts_answer y list parts) (parts_plan_list y list parts) (parts_list y list parts)
outcome (check_of bs y) = checked (check_answer y bs)
outcome (trial_of bs budget y) = tried (trial_answer y bs budget) (trial_pebbles y bs budget)
outcome (wear_of bs w y) = worn (wear_answer y bs w)
outcome (openings_into n y) = planned (openings_answer y (replicate n 9)) (openings_list y (replicate n 9))
outcome (pushes_of ms y) = left (after y ms)
outcome (print_of sheet) = printed (program (text sheet))
outcome (read_into sheet a b c d) = let found : Answer Yard = reader sheet (replicate a 9) (replicate b 9) (replicate c 9) (replicate d 9) in read (read_answer sheet (replicate a 9) (replicate b 9) (replicate c 9) (replicate d 9)) (filled (λ (y : Yard). y.parents) found (replicate a 9)) (filled (λ (y : Yard). y.pebbles) found (replicate b 9)) (filled (λ (y : Yard). y.targets) found (replicate c 9)) (filled (λ (y : Yard). y.depths) found (replicate d 9))
outcome (rows_of k v sheet) = rows (readNodes k v (text sheet))
outcome (write_into n y) = planned (write_answer y (replicate n 9)) (write_list y (replicate n 9))
outcome (bound_of y) = measured (bound_answer y)
outcome (longest_of n) = counted (longest_answer n)
outcome (displaced_of y) = counted (displaced_answer y)
outcome (starts_of y) = left (starts y)
outcome (taken_of ms y) = left (lifo y ms)
outcome (event_of e v list y) = happened (event_fault y list e v) (event_pebbles y list e v) (event_targets y list e v) (event_demands y list e v)
outcome (events_of hs list y) = let c = run_leaves (console y list) hs in console_left c.yard.pebbles c.yard.targets c.demands
outcome (distances_of a y) = left (map (distance y a) (range 0 (length y.parents)))
outcome (nearestOf a y) = located (nearest_answer y a)
outcome (reach_of list a reach y) = reached (reach_answer y list a reach) (reach_list y list a reach)
outcome (step_of failed bs block y) = let s = stepped y bs block failed in signalled s.line s.block s.pebbles
outcome (steps_of k bs block y) = let s = steps k y bs block false in signalled s.line s.block s.pebbles
outcome (block_of_left n) = left (take 3 (drop 4 (block_of (record { command = 1; status = 1; from = 1; to = 1; left = n; mask = 1; flags = 1 }))))
outcome (left_of_block a b c) = number (registers_of (1 ∷ 1 ∷ 1 ∷ 1 ∷ a ∷ b ∷ c ∷ 1 ∷ 1 ∷ [])).left
outcome (set_bit_of k n) = number (set_bit k n)
outcome (plan_in_c n y) = number (in_c (plan_answer y (replicate n 9)))
outcome (check_in_c bs y) = number (zeroInC (check_fault y bs))
outcome (trial_of_in_c bs budget y) = number (in_c (mapAnswer trial_in_c (trial_answer y bs budget)))
outcome (bound_in_c old y) = numbers (in_c (mapAnswer (λ (l : Length). l.moves) (bound_answer y))) (noted (bound_answer y) (λ (l : Length). l.list_bytes) old)
outcome (step_in_c failed bs block y) = number (line_in_c (stepped y bs block failed).line)

record Case : Type 0 where
  input : Input
  expected : Outcome

infix 1 ◌gives◌
◌gives◌ : Input → Outcome → Case
i gives o = record { input = i; expected = o }

-- two pebbles at node 1 and one at node 2
siding : Yard
siding = yard_of (0 ∷ 0 ∷ 0 ∷ []) (0 ∷ 2 ∷ 1 ∷ []) (1 ∷ 1 ∷ 1 ∷ []) (1 ∷ 2 ∷ 2 ∷ [])

-- two parts: 3 with 0 below it, and 1 with 2 below it. The planner begins at 3, the root; part by part 1 comes first, though 0 is the lowest node
two_parts : Yard
two_parts = yard (3 ∷ 3 ∷ 1 ∷ 3 ∷ []) (0 ∷ 2 ∷ []) (1 ∷ 3 ∷ [])

-- two parts: 0 with 2, 4 and 5 below it, and 1 with 3 below it, which the planner comes to between two moves of the other
between : Yard
between = yard (0 ∷ 0 ∷ 0 ∷ 1 ∷ 2 ∷ 2 ∷ []) (2 ∷ 3 ∷ 4 ∷ []) (0 ∷ 1 ∷ 5 ∷ [])

-- a pebble goes there and back, first over edge 1, then over edge 2
star : Yard
star = yard (0 ∷ 0 ∷ 0 ∷ []) (0 ∷ []) (2 ∷ [])

there_and_back : List ℕ
there_and_back = 0 ∷ 1 ∷ 1 ∷ 0 ∷ 0 ∷ 2 ∷ 2 ∷ 0 ∷ 0 ∷ 2 ∷ []

-- so many crossings, from this move on, of this edge
wears : ℕ → ℕ → ℕ → Outcome
wears crossings first edge = worn (answered (record { crossings = crossings; first = first; edge = edge }))

-- an event in yard A that is refused: the yard and the list stay
keeps : Event → ℕ → List ℤ → ℕ → ℕ → Case
keeps e v list n p = event_of e v list yard_a gives happened (fault n p) yard_a.pebbles yard_a.targets list

-- a pebble at a node, so far away
near : ℕ → ℕ → Outcome
near v d = located (answered (record { node = v; distance = d }))

-- the root is the highest node
high_root : Yard
high_root = yard (3 ∷ 3 ∷ 3 ∷ 4 ∷ 4 ∷ []) (1 ∷ 4 ∷ []) []

-- the demands of the yard without a mark
zeros : List ℤ
zeros = pos 0 ∷ pos 0 ∷ pos 0 ∷ pos 0 ∷ pos 0 ∷ []

-- a step that is refused: the block and the pebbles stay
refuses_step : Bool → Yard → List ℕ → List ℕ → ℕ → ℕ → Case
refuses_step failed y bs block n p = step_of failed bs block y gives signalled (refused (row n p)) block y.pebbles

-- with this mask and these flags an idle step answers 1 or 0 in C
rings : ℕ → ℕ → ℕ → Case
rings mask flags n = step_in_c false [] (0 ∷ 0 ∷ 0 ∷ 0 ∷ 0 ∷ 0 ∷ 0 ∷ mask ∷ flags ∷ []) (yard (0 ∷ []) [] []) gives number n

-- steps in yard B, with the pebbles where they then are
step_b : Bool → List ℕ → List ℕ → List ℕ → Input
step_b failed pebbles bs block = step_of failed bs block (holding yard_b pebbles)

refuses_b : Bool → List ℕ → List ℕ → List ℕ → ℕ → ℕ → Case
refuses_b failed pebbles bs block n p = refuses_step failed (holding yard_b pebbles) bs block n p

-- a plan of k rounds there and back
rounds : ℕ → List ℕ
rounds zero = []
rounds (suc k) = 0 ∷ 1 ∷ 1 ∷ 0 ∷ rounds k

-- a yard with so many pebbles and targets at node 1, which is two deep
two_deep : ℕ → ℕ → Yard
two_deep p t = yard_of (0 ∷ 0 ∷ []) (0 ∷ p ∷ []) (0 ∷ t ∷ []) (1 ∷ 2 ∷ [])

-- an event there, accepted: the pebbles and targets at the node before and after, and both demands before and after; and one refused with 20
deep : Event → ℕ → ℕ → ℤ → ℕ → ℕ → ℤ → Case
deep e p t k p' t' k' = event_of e 1 (k ∷ k ∷ []) (two_deep p t) gives happened none (0 ∷ p' ∷ []) (0 ∷ t' ∷ []) (k' ∷ k' ∷ [])

deep_ends : Event → ℕ → ℕ → ℤ → Case
deep_ends e p t k = event_of e 1 (k ∷ k ∷ []) (two_deep p t) gives happened (fault 20 0) (0 ∷ p ∷ []) (0 ∷ t ∷ []) (k ∷ k ∷ [])

-- a sheet of two nodes, in which what is held, what is wanted and the depth all differ: 51 bytes
pair : String
pair = "berth parent car target depth\n0 1 3 0 4\n1 1 0 25 6\n"

pair_yard : Yard
pair_yard = yard_of (1 ∷ 1 ∷ []) (3 ∷ 0 ∷ []) (0 ∷ 25 ∷ []) (4 ∷ 6 ∷ [])

-- the reader refuses: all lists stay
refuses_read : List ℕ → ℕ → ℕ → ℕ → ℕ → ℕ → ℕ → Case
refuses_read sheet a b c d n p = read_into sheet a b c d gives read (refused (row n p)) (replicate a 9) (replicate b 9) (replicate c 9) (replicate d 9)

nines : List ℕ
nines = 9 ∷ 9 ∷ 9 ∷ 9 ∷ 9 ∷ []

cases : List Case
cases =
    -- A
    (demands_of yard_a gives demands demands_a)
    -- the account call: unequal totals are no fault; a list that is too short or too long is, and stays, but refusals 1 to 6 come first
    ∷ (account_into (pos 7 ∷ pos 7 ∷ []) (yard (0 ∷ 0 ∷ []) (0 ∷ 1 ∷ []) []) gives accounted none (negsuc 1 ∷ negsuc 0 ∷ []))
    ∷ (account_into (pos 7 ∷ pos 7 ∷ []) (yard (0 ∷ 0 ∷ []) [] (1 ∷ [])) gives accounted none (pos 1 ∷ pos 1 ∷ []))
    ∷ (account_into (pos 7 ∷ []) (yard (0 ∷ 0 ∷ []) (0 ∷ 1 ∷ []) []) gives accounted (fault 2 0) (pos 7 ∷ []))
    ∷ (account_into (pos 7 ∷ pos 7 ∷ pos 7 ∷ []) (yard (0 ∷ 0 ∷ []) (0 ∷ 1 ∷ []) []) gives accounted (fault 2 0) (pos 7 ∷ pos 7 ∷ pos 7 ∷ []))
    ∷ (account_into [] (yard (0 ∷ 2 ∷ 1 ∷ []) [] []) gives accounted (fault 6 1) [])
    ∷ (length_of yard_a gives number 4)
    ∷ (plan_of yard_a gives moves (push 1 0 ∷ push 0 2 ∷ push 3 1 ∷ push 1 4 ∷ []))
    ∷ (print_of "berth parent car target depth\n0 0 0 0 1\n1 0 1 0 1\n2 0 0 1 1\n3 1 1 0 1\n4 1 0 1 1\n" gives printed (text "from to\n1 0\n0 2\n3 1\n1 4\ntrack up down\n1 1 0\n2 0 1\n3 1 0\n4 0 1\ntotal\n4\n"))
    -- B
    ∷ (plan_into 4 yard_b gives planned (answered 2) plan_b)
    -- C
    ∷ (plan_into 2 (yard (0 ∷ []) (0 ∷ []) (0 ∷ [])) gives planned (answered 0) (9 ∷ 9 ∷ []))
    ∷ (plan_into 2 (yard (0 ∷ []) [] []) gives planned (answered 0) (9 ∷ 9 ∷ []))
    ∷ (plan_into 0 (yard (0 ∷ []) (0 ∷ []) (0 ∷ [])) gives planned (answered 0) [])
    -- D
    ∷ (plan_into 2 (yard (0 ∷ 0 ∷ []) [] []) gives planned (answered 0) (9 ∷ 9 ∷ []))
    ∷ (plan_into 2 (yard (0 ∷ 0 ∷ []) (0 ∷ []) (0 ∷ [])) gives planned (answered 0) (9 ∷ 9 ∷ []))
    ∷ (plan_into 2 (yard (0 ∷ 0 ∷ []) (1 ∷ []) (1 ∷ [])) gives planned (answered 0) (9 ∷ 9 ∷ []))
    ∷ (plan_into 2 (yard (0 ∷ 0 ∷ []) (0 ∷ 1 ∷ []) (0 ∷ 1 ∷ [])) gives planned (answered 0) (9 ∷ 9 ∷ []))
    ∷ (check_of (0 ∷ 1 ∷ 1 ∷ 0 ∷ []) (yard (0 ∷ 0 ∷ []) (0 ∷ []) (0 ∷ [])) gives checked (answered (record { moves = 2; excess = 2 })))
    -- E
    ∷ (plan_into 7 yard_a gives planned (refused (row 8 4)) (9 ∷ 9 ∷ 9 ∷ 9 ∷ 9 ∷ 9 ∷ 9 ∷ []))
    ∷ (plan_into 8 yard_a gives planned (answered 4) (1 ∷ 0 ∷ 0 ∷ 2 ∷ 3 ∷ 1 ∷ 1 ∷ 4 ∷ []))
    ∷ (plan_into 9 yard_a gives planned (answered 4) (1 ∷ 0 ∷ 0 ∷ 2 ∷ 3 ∷ 1 ∷ 1 ∷ 4 ∷ 9 ∷ []))
    -- F
    ∷ (trial_of plan_b 0 yard_b gives tried (answered (record { taken = 0; plan_ended = false })) (1 ∷ 1 ∷ 0 ∷ []))
    ∷ (trial_of plan_b 1 yard_b gives tried (answered (record { taken = 1; plan_ended = false })) (1 ∷ 0 ∷ 1 ∷ []))
    ∷ (trial_of plan_b 2 yard_b gives tried (answered (record { taken = 2; plan_ended = true })) (0 ∷ 1 ∷ 1 ∷ []))
    ∷ (trial_of plan_b 3 yard_b gives tried (answered (record { taken = 2; plan_ended = true })) (0 ∷ 1 ∷ 1 ∷ []))
    -- G
    ∷ (check_of (0 ∷ 1 ∷ []) yard_b gives checked (refused (row 13 0)))
    -- pushes in a list: a refused one gives back the yard, and the next goes on from it
    ∷ (pushes_of (push 0 1 ∷ push 1 2 ∷ push 0 1 ∷ []) yard_b gives left (0 ∷ 1 ∷ 1 ∷ []))
    ∷ (pushes_of (push 1 2 ∷ push 0 2 ∷ push 7 300 ∷ []) yard_b gives left (1 ∷ 0 ∷ 1 ∷ []))
    -- H, and 5 with no root, and with three, of which the second-lowest is named
    ∷ (test_of (yard (1 ∷ 0 ∷ []) [] []) gives refusal (fault 5 0))
    ∷ (test_of (yard (0 ∷ 1 ∷ []) [] []) gives refusal (fault 5 1))
    ∷ (test_of (yard (1 ∷ 1 ∷ 2 ∷ 3 ∷ []) [] []) gives refusal (fault 5 2))
    ∷ (test_of (yard (0 ∷ 2 ∷ 1 ∷ []) [] []) gives refusal (fault 6 1))
    ∷ (check_of [] (yard (0 ∷ 0 ∷ []) (0 ∷ []) (1 ∷ [])) gives checked (refused (row 14 1)))
    -- the table's examples of the other refusals, and some more of the reader's
    ∷ (test_of (yard [] [] []) gives refusal (fault 1 0))
    ∷ (test_of (yard_of (replicate 257 0) [] [] []) gives refusal (fault 1 0))
    ∷ (test_of (yard_of (replicate 256 0) [] [] []) gives refusal (fault 2 0))
    ∷ (test_of (yard_of (0 ∷ 0 ∷ []) (1 ∷ []) (0 ∷ 0 ∷ []) (1 ∷ 1 ∷ [])) gives refusal (fault 2 0))
    ∷ (test_of (yard_of (0 ∷ 0 ∷ []) (0 ∷ 2 ∷ []) (0 ∷ 0 ∷ []) (1 ∷ 1 ∷ [])) gives refusal (fault 27 1))
    ∷ (test_of (yard_of (0 ∷ 0 ∷ 0 ∷ []) (0 ∷ 0 ∷ 2 ∷ []) (2 ∷ 0 ∷ 0 ∷ []) (1 ∷ 1 ∷ 1 ∷ [])) gives refusal (fault 27 2))
    ∷ (test_of (yard (0 ∷ 2 ∷ []) [] []) gives refusal (fault 4 1))
    ∷ (plan_into 2 (yard (0 ∷ 0 ∷ []) (0 ∷ []) (0 ∷ 1 ∷ [])) gives planned (refused (row 7 0)) (9 ∷ 9 ∷ []))
    ∷ (check_of (0 ∷ 1 ∷ 1 ∷ []) (yard (0 ∷ 0 ∷ []) (0 ∷ []) (0 ∷ 1 ∷ [])) gives checked (refused (row 7 0)))
    ∷ (check_of (0 ∷ 1 ∷ 1 ∷ []) (yard (0 ∷ 0 ∷ []) (0 ∷ []) (0 ∷ [])) gives checked (refused (row 9 0)))
    ∷ (check_of (0 ∷ 2 ∷ []) (yard (0 ∷ 0 ∷ []) (0 ∷ []) (0 ∷ [])) gives checked (refused (row 10 0)))
    ∷ (check_of (0 ∷ 0 ∷ []) (yard (0 ∷ 0 ∷ []) (0 ∷ []) (0 ∷ [])) gives checked (refused (row 11 0)))
    ∷ (check_of (1 ∷ 2 ∷ []) (yard (0 ∷ 0 ∷ 0 ∷ []) (1 ∷ []) (2 ∷ [])) gives checked (refused (row 11 0)))
    ∷ (check_of (0 ∷ 1 ∷ 0 ∷ 1 ∷ []) (yard (0 ∷ 0 ∷ []) (0 ∷ []) (0 ∷ [])) gives checked (refused (row 12 1)))
    ∷ (trial_of (0 ∷ 1 ∷ 0 ∷ 1 ∷ []) 2 (yard (0 ∷ 0 ∷ []) (0 ∷ []) []) gives tried (refused (row 12 1)) (1 ∷ 0 ∷ []))
    ∷ (trial_of (0 ∷ 1 ∷ 0 ∷ 1 ∷ []) 1 (yard (0 ∷ 0 ∷ []) (0 ∷ []) []) gives tried (answered (record { taken = 1; plan_ended = false })) (0 ∷ 1 ∷ []))
    ∷ (print_of "berth parent\n" gives printed (text "refusal place\n15 1\n"))
    ∷ (print_of "berth parent car target depth" gives printed (text "refusal place\n15 1\n"))
    ∷ (print_of "berth parent car target depth\n" gives printed (text "refusal place\n1 2\n"))
    ∷ (print_of "berth parent car target depth\n0 00 1 1 1\n" gives printed (text "refusal place\n16 2\n"))
    -- an empty value is none: behind two spaces, in front, at the end
    ∷ (print_of "berth parent car target depth\n0 0  0 1\n" gives printed (text "refusal place\n16 2\n"))
    ∷ (print_of "berth parent car target depth\n 0 0 0 1\n" gives printed (text "refusal place\n16 2\n"))
    ∷ (print_of "berth parent car target depth\n0 0 0 0 \n" gives printed (text "refusal place\n16 2\n"))
    ∷ (print_of "berth parent car target depth\n0 0 0 256 1\n" gives printed (text "refusal place\n16 2\n"))
    ∷ (print_of "berth parent car target depth\n0 0 0 0 1\n1 0 0 0 1" gives printed (text "refusal place\n16 3\n"))
    ∷ (print_of "berth parent car target depth\n1 0 1 1 1\n" gives printed (text "refusal place\n17 2\n"))
    ∷ (print_of "berth parent car target depth\n0 0 2 0 1\n" gives printed (text "refusal place\n27 0\n"))
    -- the numbers that the C program gets: a value as it is, a refusal's number × 1,000,000 plus its place, 0 from the checker; the trial adds 500,000 where the budget ended
    ∷ (plan_in_c 8 yard_a gives number 4)
    ∷ (plan_in_c 7 yard_a gives number 8_000_004)
    ∷ (check_in_c plan_b yard_b gives number 0)
    ∷ (check_in_c (1 ∷ 2 ∷ 2 ∷ 2 ∷ []) yard_b gives number 11_000_001)
    ∷ (trial_of_in_c plan_b 0 yard_b gives number 500_000)
    ∷ (trial_of_in_c plan_b 1 yard_b gives number 500_001)
    ∷ (trial_of_in_c plan_b 2 yard_b gives number 2)
    ∷ (trial_of_in_c plan_b 3 yard_b gives number 2)
    ∷ (trial_of_in_c (1 ∷ 2 ∷ 1 ∷ 2 ∷ []) 2 yard_b gives number 12_000_001)
    ∷ (bound_in_c 7 yard_a gives numbers 4 8)
    ∷ (bound_in_c 7 (yard (0 ∷ []) (0 ∷ []) []) gives numbers 7_000_000 7)
    -- the reader fills the first n entries of its four lists, whose marks are not tested, and no others; each list must have 256 bytes, which comes before the header
    ∷ (read_into (text pair) 256 257 256 258 gives read (answered 2) (1 ∷ 1 ∷ replicate 254 9) (3 ∷ 0 ∷ replicate 255 9) (0 ∷ 25 ∷ replicate 254 9) (4 ∷ 6 ∷ replicate 256 9))
    ∷ refuses_read (text pair) 255 256 256 256 18 0
    ∷ refuses_read (text pair) 256 255 256 256 18 0
    ∷ refuses_read (text pair) 256 256 255 256 18 0
    ∷ refuses_read (text pair) 256 256 256 255 18 0
    ∷ refuses_read [] 256 256 256 0 18 0
    ∷ refuses_read [] 256 256 256 256 15 1
    ∷ refuses_read (text "berth parent car target depth\n0 0 0 0 1\n0 0 0 0 1\n") 256 256 256 256 17 3
    -- node 255 is the last, on line 257: a byte behind it is 1 with line 258 (a whole sheet of 257 nodes is in the comparison)
    ∷ (rows_of 1 255 "255 3 0 1 8\n" gives rows (answered ((255 ∷ 3 ∷ 0 ∷ 1 ∷ 8 ∷ []) ∷ [])))
    ∷ (rows_of 1 255 "255 3 0 1 8\n256" gives rows (refused (row 1 258)))
    -- the writer, whose marks are not tested either: a byte too few, just enough, and one that stays behind; 1, 2 for each list, before 8
    ∷ (write_into 50 pair_yard gives planned (refused (row 8 51)) (replicate 50 9))
    ∷ (write_into 51 pair_yard gives planned (answered 51) (text pair))
    ∷ (write_into 52 pair_yard gives planned (answered 51) (text "berth parent car target depth\n0 1 3 0 4\n1 1 0 25 6\n\t"))
    ∷ (write_into 1 (yard_of [] (0 ∷ []) [] []) gives planned (refused (row 1 0)) (9 ∷ []))
    ∷ (write_into 1 (yard_of (0 ∷ []) [] (0 ∷ []) (1 ∷ [])) gives planned (refused (row 2 0)) (9 ∷ []))
    ∷ (write_into 1 (yard_of (0 ∷ []) (0 ∷ []) [] (1 ∷ [])) gives planned (refused (row 2 0)) (9 ∷ []))
    ∷ (write_into 1 (yard_of (0 ∷ []) (0 ∷ []) (0 ∷ []) []) gives planned (refused (row 2 0)) (9 ∷ []))
    -- request 2.1: reports of one node, of two nodes and no move, and of a root that is not 0; a refused yard prints none
    ∷ (print_of "berth parent car target depth\n0 0 1 1 1\n" gives printed (text "from to\ntrack up down\ntotal\n0\n"))
    ∷ (print_of "berth parent car target depth\n0 0 1 1 1\n1 0 0 0 1\n" gives printed (text "from to\ntrack up down\n1 0 0\ntotal\n0\n"))
    ∷ (print_of "berth parent car target depth\n0 1 1 0 1\n1 1 0 1 1\n" gives printed (text "from to\n0 1\ntrack up down\n0 1 0\ntotal\n1\n"))
    ∷ (print_of "berth parent car target depth\n0 0 1 0 1\n" gives printed (text "refusal place\n7 0\n"))
    -- request 2.2: the lengths of yards A and B, and of yard D, which needs no move; a pebble and no target; n alone
    ∷ (bound_of yard_a gives measured (answered (record { moves = 4; list_bytes = 8 })))
    ∷ (bound_of yard_b gives measured (answered (record { moves = 2; list_bytes = 4 })))
    ∷ (bound_of (yard (0 ∷ 0 ∷ []) (0 ∷ []) (0 ∷ [])) gives measured (answered (record { moves = 0; list_bytes = 0 })))
    ∷ (bound_of (yard (0 ∷ []) (0 ∷ []) []) gives measured (refused (row 7 0)))
    ∷ (longest_of 0 gives counted (refused (row 1 0)))
    ∷ (longest_of 1 gives counted (answered 0))
    ∷ (longest_of 2 gives counted (answered 8))
    ∷ (longest_of 3 gives counted (answered 16))
    ∷ (longest_of 5 gives counted (answered 48))
    ∷ (longest_of 256 gives counted (answered 131_072))
    ∷ (longest_of 257 gives counted (refused (row 1 0)))
    -- request 2.4: both pebbles of A and of B take part, in B one that starts on a target; one that is not pushed does not
    ∷ (displaced_of yard_a gives counted (answered 2))
    ∷ (displaced_of yard_b gives counted (answered 2))
    ∷ (displaced_of (yard (0 ∷ 0 ∷ 0 ∷ []) (1 ∷ 2 ∷ []) (0 ∷ 2 ∷ [])) gives counted (answered 1))
    ∷ (displaced_of (yard (0 ∷ 0 ∷ []) (0 ∷ 1 ∷ []) (0 ∷ 1 ∷ [])) gives counted (answered 0))
    ∷ (displaced_of (yard (0 ∷ 0 ∷ []) (0 ∷ 1 ∷ []) (0 ∷ [])) gives counted (refused (row 7 0)))
    ∷ (taken_of (push 1 2 ∷ push 0 1 ∷ push 1 0 ∷ push 2 1 ∷ []) yard_b gives left (1 ∷ 0 ∷ 0 ∷ 1 ∷ []))
    -- request 2.5, in yard A: each event
    ∷ (event_of PebbleArrives 4 demands_a yard_a gives happened none (0 ∷ 1 ∷ 0 ∷ 1 ∷ 1 ∷ []) (0 ∷ 0 ∷ 1 ∷ 0 ∷ 1 ∷ []) (negsuc 0 ∷ negsuc 1 ∷ pos 1 ∷ negsuc 0 ∷ pos 0 ∷ []))
    ∷ (event_of PebbleLeaves 3 demands_a yard_a gives happened none (0 ∷ 1 ∷ 0 ∷ 0 ∷ 0 ∷ []) (0 ∷ 0 ∷ 1 ∷ 0 ∷ 1 ∷ []) (pos 1 ∷ pos 0 ∷ pos 1 ∷ pos 0 ∷ pos 1 ∷ []))
    ∷ (event_of TargetSet 0 demands_a yard_a gives happened none (0 ∷ 1 ∷ 0 ∷ 1 ∷ 0 ∷ []) (1 ∷ 0 ∷ 1 ∷ 0 ∷ 1 ∷ []) (pos 1 ∷ negsuc 0 ∷ pos 1 ∷ negsuc 0 ∷ pos 1 ∷ []))
    ∷ (event_of TargetCleared 2 demands_a yard_a gives happened none (0 ∷ 1 ∷ 0 ∷ 1 ∷ 0 ∷ []) (0 ∷ 0 ∷ 0 ∷ 0 ∷ 1 ∷ []) (negsuc 0 ∷ negsuc 0 ∷ pos 0 ∷ negsuc 0 ∷ pos 1 ∷ []))
    -- two roots; a list that is too short or too long, before 19; 19, before 20; each event with its mark already so, before 23
    ∷ (event_of PebbleArrives 7 [] (yard (0 ∷ 1 ∷ []) [] []) gives happened (fault 5 1) (0 ∷ 0 ∷ []) (0 ∷ 0 ∷ []) [])
    ∷ keeps PebbleArrives 5 (pos 0 ∷ []) 2 0
    ∷ keeps PebbleArrives 0 (pos 0 ∷ negsuc 0 ∷ pos 1 ∷ negsuc 0 ∷ pos 1 ∷ pos 0 ∷ []) 2 0
    ∷ keeps PebbleLeaves 5 demands_a 19 0
    ∷ keeps PebbleArrives 1 (pos 999 ∷ negsuc 0 ∷ pos 1 ∷ negsuc 0 ∷ pos 1 ∷ []) 20 0
    ∷ keeps PebbleLeaves 0 demands_a 20 0
    ∷ keeps TargetSet 4 demands_a 20 0
    ∷ keeps TargetCleared 1 demands_a 20 0
    -- request 2.8, 23: several entries differ; one off the way, by one, by its sign alone, and beyond the demands' range; the list after an event
    ∷ keeps PebbleArrives 0 zeros 23 1
    ∷ keeps PebbleArrives 0 (pos 0 ∷ negsuc 0 ∷ pos 1 ∷ negsuc 0 ∷ pos 2 ∷ []) 23 4
    ∷ keeps PebbleLeaves 3 (pos 0 ∷ negsuc 0 ∷ pos 1 ∷ pos 1 ∷ pos 1 ∷ []) 23 3
    ∷ keeps TargetSet 1 (pos 0 ∷ negsuc 0 ∷ pos 257 ∷ pos 0 ∷ pos 1 ∷ []) 23 2
    ∷ keeps TargetCleared 4 (negsuc 0 ∷ negsuc 1 ∷ pos 1 ∷ negsuc 0 ∷ pos 0 ∷ []) 23 0
    -- a run in which some are refused (20, 19, and 20 for the pebble that has left)
    ∷ (events_of (happens PebbleArrives 1 ∷ happens PebbleArrives 0 ∷ happens PebbleLeaves 3 ∷ happens TargetSet 9 ∷ happens TargetCleared 4 ∷ happens PebbleLeaves 3 ∷ []) demands_a yard_a
    gives console_left (1 ∷ 1 ∷ 0 ∷ 0 ∷ 0 ∷ []) (0 ∷ 0 ∷ 1 ∷ 0 ∷ 0 ∷ []) (negsuc 0 ∷ negsuc 0 ∷ pos 1 ∷ pos 0 ∷ pos 0 ∷ []))
    -- with an old list each is refused, and nothing is altered
    ∷ (events_of (happens PebbleArrives 0 ∷ happens PebbleLeaves 3 ∷ happens TargetCleared 4 ∷ []) zeros yard_a gives console_left yard_a.pebbles yard_a.targets zeros)
    -- request 2.7: down, up and over the root; from each node; of equals the lowest
    ∷ (distances_of 2 yard_a gives left (1 ∷ 2 ∷ 0 ∷ 3 ∷ 3 ∷ []))
    ∷ (distances_of 3 yard_a gives left (2 ∷ 1 ∷ 3 ∷ 0 ∷ 2 ∷ []))
    ∷ (nearestOf 0 yard_a gives near 1 1)
    ∷ (nearestOf 1 yard_a gives near 1 0)
    ∷ (nearestOf 2 yard_a gives near 1 2)
    ∷ (nearestOf 3 yard_a gives near 3 0)
    ∷ (nearestOf 4 yard_a gives near 1 1)
    ∷ (nearestOf 0 high_root gives near 1 2)
    ∷ (nearestOf 3 high_root gives near 1 1)
    ∷ (nearestOf 4 high_root gives near 4 0)
    ∷ (nearestOf 0 (yard (0 ∷ []) (0 ∷ []) []) gives near 0 0)
    -- a circle; 19, before 22; 22
    ∷ (nearestOf 9 (yard (0 ∷ 2 ∷ 1 ∷ []) [] []) gives located (refused (row 6 1)))
    ∷ (nearestOf 2 (yard (0 ∷ 0 ∷ []) [] (0 ∷ [])) gives located (refused (row 19 0)))
    ∷ (nearestOf 1 (yard (0 ∷ 0 ∷ []) [] (0 ∷ [])) gives located (refused (row 22 0)))
    -- none, one and both pebbles in reach; no pebble at all; a list that is too short or too long, before 19; 19
    ∷ (reach_of nines 4 0 yard_a gives reached (answered 0) (0 ∷ 0 ∷ 0 ∷ 0 ∷ 0 ∷ []))
    ∷ (reach_of nines 4 1 yard_a gives reached (answered 1) (0 ∷ 1 ∷ 0 ∷ 0 ∷ 0 ∷ []))
    ∷ (reach_of nines 4 2 yard_a gives reached (answered 2) (0 ∷ 1 ∷ 0 ∷ 1 ∷ 0 ∷ []))
    ∷ (reach_of nines 2 65_535 yard_a gives reached (answered 2) (0 ∷ 1 ∷ 0 ∷ 1 ∷ 0 ∷ []))
    ∷ (reach_of (9 ∷ []) 0 65_535 (yard (0 ∷ []) [] []) gives reached (answered 0) (0 ∷ []))
    ∷ (reach_of (9 ∷ 9 ∷ []) 5 7 yard_a gives reached (refused (row 2 0)) (9 ∷ 9 ∷ []))
    ∷ (reach_of (9 ∷ nines) 4 2 yard_a gives reached (refused (row 2 0)) (9 ∷ nines))
    ∷ (reach_of nines 5 7 yard_a gives reached (refused (row 19 0)) nines)
    -- children are balanced in rising number
    ∷ (plan_of (yard (0 ∷ 0 ∷ 0 ∷ 1 ∷ 1 ∷ 2 ∷ 2 ∷ []) (3 ∷ 5 ∷ []) (4 ∷ 6 ∷ [])) gives moves (push 3 1 ∷ push 1 4 ∷ push 5 2 ∷ push 2 6 ∷ []))
    -- of equals the lowest: clearing fills the lowest child, drawing draws from the lowest, and so does a turn
    ∷ (plan_of (yard (0 ∷ 0 ∷ 1 ∷ 1 ∷ []) (0 ∷ 1 ∷ []) (2 ∷ 3 ∷ [])) gives moves (push 1 2 ∷ push 0 1 ∷ push 1 3 ∷ []))
    ∷ (plan_of (yard (0 ∷ 0 ∷ 1 ∷ 1 ∷ []) (2 ∷ 3 ∷ []) (0 ∷ 1 ∷ [])) gives moves (push 2 1 ∷ push 1 0 ∷ push 3 1 ∷ []))
    ∷ (plan_of (yard (0 ∷ 0 ∷ 0 ∷ 0 ∷ []) (0 ∷ 3 ∷ []) (1 ∷ 2 ∷ [])) gives moves (push 0 1 ∷ push 3 0 ∷ push 0 2 ∷ []))
    -- a turn draws from the child with most too many (request 2.6's example), and fills the one that lacks most; the next turns meet two equals
    ∷ (plan_of (yard (0 ∷ 0 ∷ 0 ∷ 2 ∷ 0 ∷ 4 ∷ 5 ∷ []) (1 ∷ 2 ∷ 3 ∷ []) (4 ∷ 5 ∷ 6 ∷ [])) gives moves (push 2 0 ∷ push 0 4 ∷ push 1 0 ∷ push 4 5 ∷ push 0 4 ∷ push 3 2 ∷ push 2 0 ∷ push 5 6 ∷ push 4 5 ∷ push 0 4 ∷ []))
    ∷ (plan_of (yard (0 ∷ 0 ∷ 0 ∷ 2 ∷ 0 ∷ 4 ∷ 5 ∷ []) (4 ∷ 5 ∷ 6 ∷ []) (1 ∷ 2 ∷ 3 ∷ [])) gives moves (push 4 0 ∷ push 0 2 ∷ push 5 4 ∷ push 4 0 ∷ push 0 1 ∷ push 6 5 ∷ push 5 4 ∷ push 4 0 ∷ push 2 3 ∷ push 0 2 ∷ []))
    -- clearing fills the child that lacks most, drawing draws from the one with most too many; of two equals behind one with less the lower
    ∷ (first_move_of (yard (0 ∷ 0 ∷ 1 ∷ 1 ∷ 3 ∷ 0 ∷ []) (0 ∷ 1 ∷ 5 ∷ []) (2 ∷ 3 ∷ 4 ∷ [])) gives moves (push 1 3 ∷ []))
    ∷ (first_move_of (yard (0 ∷ 0 ∷ 1 ∷ 1 ∷ 3 ∷ 0 ∷ []) (2 ∷ 3 ∷ 4 ∷ []) (0 ∷ 1 ∷ 5 ∷ [])) gives moves (push 3 1 ∷ []))
    ∷ (first_move_of (yard (0 ∷ 0 ∷ 0 ∷ 2 ∷ 0 ∷ 4 ∷ 0 ∷ 6 ∷ 7 ∷ 8 ∷ []) (1 ∷ 2 ∷ 3 ∷ 4 ∷ 5 ∷ []) (0 ∷ 6 ∷ 7 ∷ 8 ∷ 9 ∷ [])) gives moves (push 2 0 ∷ []))
    -- by the earlier rule, the lowest child
    ∷ (lowest_first_move_of (yard (0 ∷ 0 ∷ 0 ∷ 2 ∷ 0 ∷ 4 ∷ 5 ∷ []) (1 ∷ 2 ∷ 3 ∷ []) (4 ∷ 5 ∷ 6 ∷ [])) gives moves (push 1 0 ∷ []))
    -- the root is not 0, and parents have higher numbers than their children
    ∷ (plan_of (yard (3 ∷ 3 ∷ 3 ∷ 4 ∷ 4 ∷ []) (0 ∷ 1 ∷ []) (2 ∷ 4 ∷ [])) gives moves (push 0 3 ∷ push 3 4 ∷ push 1 3 ∷ push 3 2 ∷ []))
    -- request 2.9. yard B driven to its end: start, the two moves, and an idle step behind them; mask 1 raises the line at the end
    ∷ (step_b false (1 ∷ 1 ∷ 0 ∷ []) plan_b (1 ∷ 0 ∷ 9 ∷ 8 ∷ 0 ∷ 0 ∷ 0 ∷ 1 ∷ 0 ∷ []) gives signalled (answered false) (0 ∷ 1 ∷ 9 ∷ 8 ∷ 2 ∷ 0 ∷ 0 ∷ 1 ∷ 0 ∷ []) (1 ∷ 1 ∷ 0 ∷ []))
    ∷ (step_b false (1 ∷ 1 ∷ 0 ∷ []) plan_b (0 ∷ 1 ∷ 9 ∷ 8 ∷ 2 ∷ 0 ∷ 0 ∷ 1 ∷ 0 ∷ []) gives signalled (answered false) (0 ∷ 1 ∷ 1 ∷ 2 ∷ 1 ∷ 0 ∷ 0 ∷ 1 ∷ 0 ∷ []) (1 ∷ 0 ∷ 1 ∷ []))
    ∷ (step_b false (1 ∷ 0 ∷ 1 ∷ []) plan_b (0 ∷ 1 ∷ 1 ∷ 2 ∷ 1 ∷ 0 ∷ 0 ∷ 1 ∷ 0 ∷ []) gives signalled (answered true) (0 ∷ 0 ∷ 0 ∷ 1 ∷ 0 ∷ 0 ∷ 0 ∷ 1 ∷ 1 ∷ []) (0 ∷ 1 ∷ 1 ∷ []))
    ∷ (step_b false (0 ∷ 1 ∷ 1 ∷ []) plan_b (0 ∷ 0 ∷ 0 ∷ 1 ∷ 0 ∷ 0 ∷ 0 ∷ 1 ∷ 1 ∷ []) gives signalled (answered true) (0 ∷ 0 ∷ 0 ∷ 1 ∷ 0 ∷ 0 ∷ 0 ∷ 1 ∷ 1 ∷ []) (0 ∷ 1 ∷ 1 ∷ []))
    -- a stall in the second move, raised by mask 2; a stalled step; acknowledged; the move again
    ∷ (step_b true (1 ∷ 0 ∷ 1 ∷ []) plan_b (0 ∷ 1 ∷ 1 ∷ 2 ∷ 1 ∷ 0 ∷ 0 ∷ 2 ∷ 0 ∷ []) gives signalled (answered true) (0 ∷ 2 ∷ 1 ∷ 2 ∷ 1 ∷ 0 ∷ 0 ∷ 2 ∷ 2 ∷ []) (1 ∷ 0 ∷ 1 ∷ []))
    ∷ (step_b false (1 ∷ 0 ∷ 1 ∷ []) plan_b (0 ∷ 2 ∷ 1 ∷ 2 ∷ 1 ∷ 0 ∷ 0 ∷ 2 ∷ 2 ∷ []) gives signalled (answered true) (0 ∷ 2 ∷ 1 ∷ 2 ∷ 1 ∷ 0 ∷ 0 ∷ 2 ∷ 2 ∷ []) (1 ∷ 0 ∷ 1 ∷ []))
    ∷ (step_b false (1 ∷ 0 ∷ 1 ∷ []) plan_b (3 ∷ 2 ∷ 1 ∷ 2 ∷ 1 ∷ 0 ∷ 0 ∷ 2 ∷ 2 ∷ []) gives signalled (answered false) (0 ∷ 1 ∷ 1 ∷ 2 ∷ 1 ∷ 0 ∷ 0 ∷ 2 ∷ 0 ∷ []) (1 ∷ 0 ∷ 1 ∷ []))
    ∷ (step_b false (1 ∷ 0 ∷ 1 ∷ []) plan_b (0 ∷ 1 ∷ 1 ∷ 2 ∷ 1 ∷ 0 ∷ 0 ∷ 2 ∷ 0 ∷ []) gives signalled (answered false) (0 ∷ 0 ∷ 0 ∷ 1 ∷ 0 ∷ 0 ∷ 0 ∷ 2 ∷ 1 ∷ []) (0 ∷ 1 ∷ 1 ∷ []))
    -- stop while running and while stalled: the flags stay
    ∷ (step_b false (1 ∷ 0 ∷ 1 ∷ []) plan_b (2 ∷ 1 ∷ 1 ∷ 2 ∷ 1 ∷ 0 ∷ 0 ∷ 0 ∷ 1 ∷ []) gives signalled (answered false) (0 ∷ 0 ∷ 1 ∷ 2 ∷ 0 ∷ 0 ∷ 0 ∷ 0 ∷ 1 ∷ []) (1 ∷ 0 ∷ 1 ∷ []))
    ∷ (step_b true (1 ∷ 0 ∷ 1 ∷ []) plan_b (2 ∷ 2 ∷ 1 ∷ 2 ∷ 1 ∷ 0 ∷ 0 ∷ 2 ∷ 3 ∷ []) gives signalled (answered true) (0 ∷ 0 ∷ 1 ∷ 2 ∷ 0 ∷ 0 ∷ 0 ∷ 2 ∷ 3 ∷ []) (1 ∷ 0 ∷ 1 ∷ []))
    -- acknowledge while idle or running only clears the flags
    ∷ (step_b false (1 ∷ 1 ∷ 0 ∷ []) plan_b (3 ∷ 0 ∷ 5 ∷ 6 ∷ 1 ∷ 0 ∷ 0 ∷ 3 ∷ 3 ∷ []) gives signalled (answered false) (0 ∷ 0 ∷ 5 ∷ 6 ∷ 1 ∷ 0 ∷ 0 ∷ 3 ∷ 0 ∷ []) (1 ∷ 1 ∷ 0 ∷ []))
    ∷ (step_b false (1 ∷ 0 ∷ 1 ∷ []) plan_b (3 ∷ 1 ∷ 1 ∷ 2 ∷ 1 ∷ 0 ∷ 0 ∷ 3 ∷ 2 ∷ []) gives signalled (answered false) (0 ∷ 1 ∷ 1 ∷ 2 ∷ 1 ∷ 0 ∷ 0 ∷ 3 ∷ 0 ∷ []) (1 ∷ 0 ∷ 1 ∷ []))
    -- a failure told with a command, or while not running, is ignored; flags that are set stay set
    ∷ (step_b true (1 ∷ 1 ∷ 0 ∷ []) plan_b (1 ∷ 0 ∷ 9 ∷ 8 ∷ 0 ∷ 0 ∷ 0 ∷ 0 ∷ 3 ∷ []) gives signalled (answered false) (0 ∷ 1 ∷ 9 ∷ 8 ∷ 2 ∷ 0 ∷ 0 ∷ 0 ∷ 3 ∷ []) (1 ∷ 1 ∷ 0 ∷ []))
    ∷ (step_b true (1 ∷ 1 ∷ 0 ∷ []) plan_b (0 ∷ 0 ∷ 9 ∷ 8 ∷ 2 ∷ 0 ∷ 0 ∷ 0 ∷ 0 ∷ []) gives signalled (answered false) (0 ∷ 0 ∷ 9 ∷ 8 ∷ 2 ∷ 0 ∷ 0 ∷ 0 ∷ 0 ∷ []) (1 ∷ 1 ∷ 0 ∷ []))
    ∷ (step_b true (1 ∷ 0 ∷ 1 ∷ []) plan_b (0 ∷ 1 ∷ 1 ∷ 2 ∷ 1 ∷ 0 ∷ 0 ∷ 255 ∷ 3 ∷ []) gives signalled (answered true) (0 ∷ 2 ∷ 1 ∷ 2 ∷ 1 ∷ 0 ∷ 0 ∷ 255 ∷ 3 ∷ []) (1 ∷ 0 ∷ 1 ∷ []))
    ∷ (step_b false (1 ∷ 0 ∷ 1 ∷ []) plan_b (0 ∷ 1 ∷ 1 ∷ 2 ∷ 1 ∷ 0 ∷ 0 ∷ 252 ∷ 3 ∷ []) gives signalled (answered false) (0 ∷ 0 ∷ 0 ∷ 1 ∷ 0 ∷ 0 ∷ 0 ∷ 252 ∷ 3 ∷ []) (0 ∷ 1 ∷ 1 ∷ []))
    -- an empty plan finishes on the spot; so with a flag up
    ∷ (step_of false [] (1 ∷ 0 ∷ 7 ∷ 7 ∷ 0 ∷ 0 ∷ 0 ∷ 1 ∷ 0 ∷ []) (yard_of (0 ∷ []) (1 ∷ []) (1 ∷ []) (1 ∷ [])) gives signalled (answered true) (0 ∷ 0 ∷ 7 ∷ 7 ∷ 0 ∷ 0 ∷ 0 ∷ 1 ∷ 1 ∷ []) (1 ∷ []))
    ∷ (step_of false [] (1 ∷ 0 ∷ 7 ∷ 7 ∷ 0 ∷ 0 ∷ 0 ∷ 2 ∷ 3 ∷ []) (yard_of (0 ∷ []) (0 ∷ []) (0 ∷ []) (1 ∷ [])) gives signalled (answered true) (0 ∷ 0 ∷ 7 ∷ 7 ∷ 0 ∷ 0 ∷ 0 ∷ 2 ∷ 3 ∷ []) (0 ∷ []))
    -- a start with old moves left within the plan
    ∷ (step_b false (1 ∷ 1 ∷ 0 ∷ []) plan_b (1 ∷ 0 ∷ 0 ∷ 0 ∷ 2 ∷ 0 ∷ 0 ∷ 0 ∷ 0 ∷ []) gives signalled (answered false) (0 ∷ 1 ∷ 0 ∷ 0 ∷ 2 ∷ 0 ∷ 0 ∷ 0 ∷ 0 ∷ []) (1 ∷ 1 ∷ 0 ∷ []))
    -- the low byte of the moves left comes first
    ∷ (step_of false (rounds 129) (1 ∷ 0 ∷ 0 ∷ 0 ∷ 0 ∷ 0 ∷ 0 ∷ 0 ∷ 0 ∷ []) (yard_of (0 ∷ 0 ∷ []) (1 ∷ 0 ∷ []) (1 ∷ 0 ∷ []) (1 ∷ 1 ∷ [])) gives signalled (answered false) (0 ∷ 1 ∷ 0 ∷ 0 ∷ 2 ∷ 1 ∷ 0 ∷ 0 ∷ 0 ∷ []) (1 ∷ 0 ∷ []))
    ∷ (step_of false (rounds 129) (0 ∷ 1 ∷ 0 ∷ 0 ∷ 0 ∷ 1 ∷ 0 ∷ 0 ∷ 0 ∷ []) (yard_of (0 ∷ 0 ∷ []) (1 ∷ 0 ∷ []) (1 ∷ 0 ∷ []) (1 ∷ 1 ∷ [])) gives signalled (answered false) (0 ∷ 1 ∷ 0 ∷ 1 ∷ 255 ∷ 0 ∷ 0 ∷ 0 ∷ 0 ∷ []) (0 ∷ 1 ∷ []))
    -- and the third byte last
    ∷ (block_of_left 65_535 gives left (255 ∷ 255 ∷ 0 ∷ []))
    ∷ (block_of_left 65_536 gives left (0 ∷ 0 ∷ 1 ∷ []))
    ∷ (block_of_left 131_072 gives left (0 ∷ 0 ∷ 2 ∷ []))
    ∷ (left_of_block 255 255 0 gives number 65_535)
    ∷ (left_of_block 0 0 1 gives number 65_536)
    ∷ (left_of_block 3 2 1 gives number 66_051)
    -- in C the line is 1 or 0
    ∷ (step_in_c false plan_b (0 ∷ 1 ∷ 1 ∷ 2 ∷ 1 ∷ 0 ∷ 0 ∷ 1 ∷ 0 ∷ []) (holding yard_b (1 ∷ 0 ∷ 1 ∷ [])) gives number 1)
    ∷ (step_in_c false plan_b (0 ∷ 1 ∷ 1 ∷ 2 ∷ 1 ∷ 0 ∷ 0 ∷ 2 ∷ 0 ∷ []) (holding yard_b (1 ∷ 0 ∷ 1 ∷ [])) gives number 0)
    ∷ (step_in_c false plan_b (0 ∷ 1 ∷ 1 ∷ 2 ∷ 1 ∷ 0 ∷ 0 ∷ 2 ∷ 4 ∷ []) (holding yard_b (1 ∷ 0 ∷ 1 ∷ [])) gives number 24_000_008)
    -- the line by mask and flags: a set bit that both have, whatever else the mask has
    ∷ rings 1 1 1
    ∷ rings 3 1 1
    ∷ rings 255 1 1
    ∷ rings 254 1 0
    ∷ rings 2 2 1
    ∷ rings 3 2 1
    ∷ rings 6 2 1
    ∷ rings 253 2 0
    ∷ rings 252 3 0
    ∷ rings 255 0 0
    -- a flag is set beside the other one
    ∷ (step_of false [] (1 ∷ 0 ∷ 7 ∷ 7 ∷ 0 ∷ 0 ∷ 0 ∷ 0 ∷ 2 ∷ []) (yard (0 ∷ []) [] []) gives signalled (answered false) (0 ∷ 0 ∷ 7 ∷ 7 ∷ 0 ∷ 0 ∷ 0 ∷ 0 ∷ 3 ∷ []) (0 ∷ []))
    ∷ (step_b true (1 ∷ 0 ∷ 1 ∷ []) plan_b (0 ∷ 1 ∷ 1 ∷ 2 ∷ 1 ∷ 0 ∷ 0 ∷ 0 ∷ 1 ∷ []) gives signalled (answered false) (0 ∷ 2 ∷ 1 ∷ 2 ∷ 1 ∷ 0 ∷ 0 ∷ 0 ∷ 3 ∷ []) (1 ∷ 0 ∷ 1 ∷ []))
    ∷ (set_bit_of 0 12 gives number 13)
    ∷ (set_bit_of 1 12 gives number 14)
    -- refusals 1 to 6 come first, then 2
    ∷ refuses_step false (yard_of ([]) ([]) ([]) []) [] [] 1 0
    ∷ refuses_step false (yard_of (0 ∷ 2 ∷ 1 ∷ []) (0 ∷ 0 ∷ 0 ∷ []) (0 ∷ 0 ∷ 0 ∷ []) (1 ∷ 1 ∷ 1 ∷ [])) [] (9 ∷ []) 6 1
    ∷ refuses_b false (1 ∷ 1 ∷ 0 ∷ []) plan_b (0 ∷ 0 ∷ 0 ∷ 0 ∷ 0 ∷ 0 ∷ 0 ∷ 0 ∷ []) 2 0
    ∷ refuses_b false (1 ∷ 1 ∷ 0 ∷ []) plan_b (9 ∷ 0 ∷ 0 ∷ 0 ∷ 0 ∷ 0 ∷ 0 ∷ 0 ∷ 0 ∷ 0 ∷ []) 2 0
    -- 24 in its order, with the lowest register
    ∷ refuses_b false (1 ∷ 1 ∷ 0 ∷ []) plan_b (4 ∷ 3 ∷ 0 ∷ 0 ∷ 9 ∷ 0 ∷ 0 ∷ 0 ∷ 4 ∷ []) 24 0
    ∷ refuses_b false (1 ∷ 1 ∷ 0 ∷ []) plan_b (3 ∷ 3 ∷ 0 ∷ 0 ∷ 9 ∷ 0 ∷ 0 ∷ 0 ∷ 4 ∷ []) 24 1
    ∷ refuses_b false (1 ∷ 1 ∷ 0 ∷ []) plan_b (3 ∷ 2 ∷ 0 ∷ 0 ∷ 3 ∷ 0 ∷ 0 ∷ 0 ∷ 4 ∷ []) 24 4
    ∷ refuses_b false (1 ∷ 1 ∷ 0 ∷ []) plan_b (2 ∷ 2 ∷ 0 ∷ 0 ∷ 0 ∷ 0 ∷ 0 ∷ 0 ∷ 4 ∷ []) 24 4
    ∷ refuses_b false (1 ∷ 1 ∷ 0 ∷ []) plan_b (2 ∷ 1 ∷ 0 ∷ 0 ∷ 0 ∷ 0 ∷ 0 ∷ 0 ∷ 4 ∷ []) 24 4
    ∷ refuses_b false (1 ∷ 1 ∷ 0 ∷ []) plan_b (2 ∷ 0 ∷ 0 ∷ 0 ∷ 0 ∷ 1 ∷ 0 ∷ 0 ∷ 4 ∷ []) 24 4
    ∷ refuses_b false (1 ∷ 1 ∷ 0 ∷ []) plan_b (2 ∷ 0 ∷ 0 ∷ 0 ∷ 0 ∷ 0 ∷ 1 ∷ 0 ∷ 4 ∷ []) 24 4
    ∷ refuses_b false (1 ∷ 1 ∷ 0 ∷ []) plan_b (2 ∷ 0 ∷ 0 ∷ 0 ∷ 0 ∷ 0 ∷ 0 ∷ 0 ∷ 4 ∷ []) 24 8
    ∷ refuses_b false (1 ∷ 1 ∷ 0 ∷ []) (1 ∷ 2 ∷ 0 ∷ []) (0 ∷ 0 ∷ 0 ∷ 0 ∷ 2 ∷ 0 ∷ 0 ∷ 0 ∷ 0 ∷ []) 24 4
    -- so refused, a step that would push pushes nothing
    ∷ refuses_b false (1 ∷ 1 ∷ 0 ∷ []) plan_b (0 ∷ 1 ∷ 0 ∷ 0 ∷ 2 ∷ 0 ∷ 0 ∷ 0 ∷ 4 ∷ []) 24 8
    -- 25, behind 24 and before the checker
    ∷ refuses_b false (1 ∷ 1 ∷ 0 ∷ []) (0 ∷ 1 ∷ 0 ∷ []) (1 ∷ 1 ∷ 0 ∷ 0 ∷ 1 ∷ 0 ∷ 0 ∷ 0 ∷ 0 ∷ []) 25 0
    ∷ refuses_b false (1 ∷ 1 ∷ 0 ∷ []) plan_b (1 ∷ 2 ∷ 0 ∷ 0 ∷ 1 ∷ 0 ∷ 0 ∷ 0 ∷ 0 ∷ []) 25 0
    ∷ refuses_b false (1 ∷ 1 ∷ 0 ∷ []) plan_b (1 ∷ 2 ∷ 0 ∷ 0 ∷ 0 ∷ 0 ∷ 0 ∷ 0 ∷ 0 ∷ []) 24 4
    -- start refuses as the checker does: 7, 9, 13, 14
    ∷ refuses_step false (yard_of (0 ∷ 0 ∷ 1 ∷ []) (1 ∷ 0 ∷ 0 ∷ []) (0 ∷ 1 ∷ 1 ∷ []) (1 ∷ 1 ∷ 1 ∷ [])) (1 ∷ 2 ∷ 0 ∷ 1 ∷ 0 ∷ []) (1 ∷ 0 ∷ 0 ∷ 0 ∷ 0 ∷ 0 ∷ 0 ∷ 0 ∷ 0 ∷ []) 7 0
    ∷ refuses_b false (1 ∷ 1 ∷ 0 ∷ []) (1 ∷ 2 ∷ 0 ∷ 1 ∷ 0 ∷ []) (1 ∷ 0 ∷ 0 ∷ 0 ∷ 0 ∷ 0 ∷ 0 ∷ 0 ∷ 0 ∷ []) 9 0
    ∷ refuses_b false (1 ∷ 1 ∷ 0 ∷ []) (0 ∷ 1 ∷ []) (1 ∷ 0 ∷ 0 ∷ 0 ∷ 0 ∷ 0 ∷ 0 ∷ 0 ∷ 0 ∷ []) 13 0
    ∷ refuses_b true (1 ∷ 1 ∷ 0 ∷ []) (1 ∷ 2 ∷ []) (1 ∷ 0 ∷ 0 ∷ 0 ∷ 0 ∷ 0 ∷ 0 ∷ 0 ∷ 0 ∷ []) 14 1
    -- a running step: 9, then 10 to 13 with the number in the plan, also when told of a failure; idle and stalled steps give none of these
    ∷ refuses_b false (1 ∷ 1 ∷ 0 ∷ []) (0 ∷ 1 ∷ 0 ∷ []) (0 ∷ 1 ∷ 0 ∷ 0 ∷ 1 ∷ 0 ∷ 0 ∷ 0 ∷ 0 ∷ []) 9 0
    ∷ refuses_b false (1 ∷ 1 ∷ 0 ∷ []) (1 ∷ 2 ∷ 0 ∷ 3 ∷ []) (0 ∷ 1 ∷ 0 ∷ 0 ∷ 1 ∷ 0 ∷ 0 ∷ 0 ∷ 0 ∷ []) 10 1
    ∷ refuses_b true (1 ∷ 1 ∷ 0 ∷ []) (1 ∷ 2 ∷ 0 ∷ 2 ∷ []) (0 ∷ 1 ∷ 0 ∷ 0 ∷ 1 ∷ 0 ∷ 0 ∷ 0 ∷ 0 ∷ []) 11 1
    ∷ refuses_b false (1 ∷ 1 ∷ 0 ∷ []) (1 ∷ 2 ∷ 2 ∷ 1 ∷ []) (0 ∷ 1 ∷ 0 ∷ 0 ∷ 1 ∷ 0 ∷ 0 ∷ 0 ∷ 0 ∷ []) 12 1
    ∷ refuses_b true (1 ∷ 1 ∷ 0 ∷ []) plan_b (0 ∷ 1 ∷ 0 ∷ 0 ∷ 1 ∷ 0 ∷ 0 ∷ 0 ∷ 0 ∷ []) 13 1
    ∷ (step_b false (1 ∷ 1 ∷ 0 ∷ []) (0 ∷ 1 ∷ 0 ∷ []) (0 ∷ 0 ∷ 0 ∷ 0 ∷ 1 ∷ 0 ∷ 0 ∷ 0 ∷ 0 ∷ []) gives signalled (answered false) (0 ∷ 0 ∷ 0 ∷ 0 ∷ 1 ∷ 0 ∷ 0 ∷ 0 ∷ 0 ∷ []) (1 ∷ 1 ∷ 0 ∷ []))
    ∷ (step_b false (1 ∷ 1 ∷ 0 ∷ []) (0 ∷ 1 ∷ 0 ∷ []) (0 ∷ 2 ∷ 0 ∷ 0 ∷ 1 ∷ 0 ∷ 0 ∷ 0 ∷ 0 ∷ []) gives signalled (answered false) (0 ∷ 2 ∷ 0 ∷ 0 ∷ 1 ∷ 0 ∷ 0 ∷ 0 ∷ 0 ∷ []) (1 ∷ 1 ∷ 0 ∷ []))
    ∷ (step_b false (1 ∷ 1 ∷ 0 ∷ []) (0 ∷ 1 ∷ 0 ∷ []) (2 ∷ 1 ∷ 0 ∷ 0 ∷ 1 ∷ 0 ∷ 0 ∷ 0 ∷ 0 ∷ []) gives signalled (answered false) (0 ∷ 0 ∷ 0 ∷ 0 ∷ 0 ∷ 0 ∷ 0 ∷ 0 ∷ 0 ∷ []) (1 ∷ 1 ∷ 0 ∷ []))
    ∷ (step_b false (1 ∷ 1 ∷ 0 ∷ []) (0 ∷ 1 ∷ 0 ∷ []) (3 ∷ 2 ∷ 0 ∷ 0 ∷ 1 ∷ 0 ∷ 0 ∷ 0 ∷ 0 ∷ []) gives signalled (answered false) (0 ∷ 1 ∷ 0 ∷ 0 ∷ 1 ∷ 0 ∷ 0 ∷ 0 ∷ 0 ∷ []) (1 ∷ 1 ∷ 0 ∷ []))
    -- totals may differ in a running step
    ∷ (step_of false (0 ∷ 1 ∷ []) (0 ∷ 1 ∷ 0 ∷ 0 ∷ 1 ∷ 0 ∷ 0 ∷ 0 ∷ 0 ∷ []) (yard_of (0 ∷ 0 ∷ 1 ∷ []) (1 ∷ 0 ∷ 0 ∷ []) (0 ∷ 1 ∷ 1 ∷ []) (1 ∷ 1 ∷ 1 ∷ [])) gives signalled (answered false) (0 ∷ 0 ∷ 0 ∷ 1 ∷ 0 ∷ 0 ∷ 0 ∷ 0 ∷ 1 ∷ []) (0 ∷ 1 ∷ 0 ∷ []))
    -- the same run by `steps`
    ∷ (steps_of 1 plan_b (1 ∷ 0 ∷ 9 ∷ 8 ∷ 0 ∷ 0 ∷ 0 ∷ 1 ∷ 0 ∷ []) yard_b gives signalled (answered false) (0 ∷ 1 ∷ 1 ∷ 2 ∷ 1 ∷ 0 ∷ 0 ∷ 1 ∷ 0 ∷ []) (1 ∷ 0 ∷ 1 ∷ []))
    ∷ (steps_of 3 plan_b (1 ∷ 0 ∷ 9 ∷ 8 ∷ 0 ∷ 0 ∷ 0 ∷ 1 ∷ 0 ∷ []) yard_b gives signalled (answered true) (0 ∷ 0 ∷ 0 ∷ 1 ∷ 0 ∷ 0 ∷ 0 ∷ 1 ∷ 1 ∷ []) (0 ∷ 1 ∷ 1 ∷ []))
    -- request 2.10. Depths: 26 outside 1 to 8, before 27; of 27 the pebbles before the targets; a line of four values
    ∷ (test_of (yard_of (0 ∷ 0 ∷ []) (2 ∷ 0 ∷ []) (0 ∷ 0 ∷ []) (1 ∷ 0 ∷ [])) gives refusal (fault 26 1))
    ∷ (test_of (yard_of (0 ∷ 0 ∷ []) (8 ∷ 0 ∷ []) (0 ∷ 8 ∷ []) (9 ∷ 8 ∷ [])) gives refusal (fault 26 0))
    ∷ (test_of (yard_of (0 ∷ 0 ∷ []) (8 ∷ 0 ∷ []) (0 ∷ 8 ∷ []) (8 ∷ 8 ∷ [])) gives refusal none)
    ∷ (test_of (yard_of (0 ∷ 0 ∷ []) (0 ∷ 4 ∷ []) (3 ∷ 0 ∷ []) (2 ∷ 3 ∷ [])) gives refusal (fault 27 1))
    -- more targets than the depth, at the lowest such node; 27 before 4
    ∷ (test_of (yard_of (0 ∷ 0 ∷ 0 ∷ 0 ∷ []) (0 ∷ 0 ∷ 2 ∷ 3 ∷ []) (1 ∷ 2 ∷ 3 ∷ 4 ∷ []) (1 ∷ 2 ∷ 2 ∷ 3 ∷ [])) gives refusal (fault 27 2))
    ∷ (test_of (yard_of (9 ∷ 0 ∷ []) (0 ∷ 0 ∷ []) (0 ∷ 2 ∷ []) (1 ∷ 1 ∷ [])) gives refusal (fault 27 1))
    ∷ (test_of (yard_of (0 ∷ 0 ∷ []) (0 ∷ 0 ∷ []) (0 ∷ 0 ∷ []) (1 ∷ [])) gives refusal (fault 2 0))
    ∷ (print_of "berth parent car target depth\n0 0 0 0 9\n" gives printed (text "refusal place\n26 0\n"))
    ∷ (print_of "berth parent car target depth\n0 0 0 0\n" gives printed (text "refusal place\n16 2\n"))
    -- a node with a place is not cleared (yard B with a middle node two deep); a full one is, and an empty one is drawn into, pebble by pebble
    ∷ (plan_of (yard_of (0 ∷ 0 ∷ 1 ∷ []) (1 ∷ 1 ∷ 0 ∷ []) (0 ∷ 1 ∷ 1 ∷ []) (1 ∷ 2 ∷ 1 ∷ [])) gives moves (push 0 1 ∷ push 1 2 ∷ []))
    ∷ (plan_of (yard_of (0 ∷ 0 ∷ 1 ∷ []) (2 ∷ 2 ∷ 0 ∷ []) (0 ∷ 2 ∷ 2 ∷ []) (2 ∷ 2 ∷ 3 ∷ [])) gives moves (push 1 2 ∷ push 0 1 ∷ push 1 2 ∷ push 0 1 ∷ []))
    ∷ (plan_of (yard_of (0 ∷ 0 ∷ 1 ∷ []) (0 ∷ 0 ∷ 3 ∷ []) (2 ∷ 1 ∷ 0 ∷ []) (2 ∷ 2 ∷ 3 ∷ [])) gives moves (push 2 1 ∷ push 1 0 ∷ push 2 1 ∷ push 1 0 ∷ push 2 1 ∷ []))
    ∷ (demands_of (yard_of (0 ∷ 0 ∷ 1 ∷ []) (0 ∷ 0 ∷ 3 ∷ []) (2 ∷ 1 ∷ 0 ∷ []) (2 ∷ 2 ∷ 3 ∷ [])) gives demands (pos 0 ∷ negsuc 1 ∷ negsuc 2 ∷ []))
    -- a node that holds a pebble draws if no child lacks one, and fills first if one does
    ∷ (plan_of (yard_of (0 ∷ 0 ∷ []) (1 ∷ 1 ∷ []) (2 ∷ 0 ∷ []) (2 ∷ 1 ∷ [])) gives moves (push 1 0 ∷ []))
    ∷ (plan_of (yard_of (0 ∷ 0 ∷ 0 ∷ []) (1 ∷ 1 ∷ 0 ∷ []) (1 ∷ 0 ∷ 1 ∷ []) (2 ∷ 1 ∷ 1 ∷ [])) gives moves (push 0 2 ∷ push 1 0 ∷ []))
    -- 12, 13 and 14 of counts: the third push finds no pebble, or no place; a node ends with fewer pebbles than its targets
    ∷ (pushes_of (push 0 1 ∷ push 0 1 ∷ push 0 1 ∷ []) (yard_of (0 ∷ 0 ∷ []) (3 ∷ 0 ∷ []) (0 ∷ 0 ∷ []) (3 ∷ 2 ∷ [])) gives left (1 ∷ 2 ∷ []))
    ∷ (trial_of (0 ∷ 1 ∷ 0 ∷ 1 ∷ 0 ∷ 1 ∷ []) 3 (yard_of (0 ∷ 0 ∷ []) (2 ∷ 0 ∷ []) (0 ∷ 0 ∷ []) (3 ∷ 3 ∷ [])) gives tried (refused (row 12 2)) (2 ∷ 0 ∷ []))
    ∷ (trial_of (0 ∷ 1 ∷ 0 ∷ 1 ∷ 0 ∷ 1 ∷ []) 3 (yard_of (0 ∷ 0 ∷ []) (3 ∷ 0 ∷ []) (0 ∷ 0 ∷ []) (3 ∷ 2 ∷ [])) gives tried (refused (row 13 2)) (3 ∷ 0 ∷ []))
    ∷ (check_of [] (yard_of (0 ∷ 0 ∷ []) (1 ∷ 1 ∷ []) (2 ∷ 0 ∷ []) (2 ∷ 1 ∷ [])) gives checked (refused (row 14 0)))
    ∷ (check_of (0 ∷ 1 ∷ []) (yard_of (0 ∷ 0 ∷ 0 ∷ []) (2 ∷ 0 ∷ 1 ∷ []) (0 ∷ 1 ∷ 2 ∷ []) (2 ∷ 1 ∷ 2 ∷ [])) gives checked (refused (row 14 2)))
    -- of two pebbles one leaves; and a pebble that goes through a node leaves the one there alone, as the last in leaves first
    ∷ (displaced_of (yard_of (0 ∷ 0 ∷ []) (2 ∷ 0 ∷ []) (1 ∷ 1 ∷ []) (2 ∷ 2 ∷ [])) gives counted (answered 1))
    ∷ (displaced_of (yard_of (0 ∷ 0 ∷ 1 ∷ []) (1 ∷ 1 ∷ 0 ∷ []) (0 ∷ 1 ∷ 1 ∷ []) (1 ∷ 2 ∷ 1 ∷ [])) gives counted (answered 1))
    -- a second pebble arrives at a node two deep, and a third finds no place
    ∷ (events_of (happens PebbleArrives 0 ∷ happens PebbleArrives 0 ∷ []) (negsuc 0 ∷ pos 0 ∷ []) (yard_of (0 ∷ 0 ∷ []) (1 ∷ 0 ∷ []) (0 ∷ 0 ∷ []) (2 ∷ 1 ∷ [])) gives console_left (2 ∷ 0 ∷ []) (0 ∷ 0 ∷ []) (negsuc 1 ∷ pos 0 ∷ []))
    -- each event at a node two deep, until there is no room for one more, or none to take
    ∷ deep TargetSet 0 0 (pos 0) 0 1 (pos 1)
    ∷ deep TargetSet 0 1 (pos 1) 0 2 (pos 2)
    ∷ deep_ends TargetSet 0 2 (pos 2)
    ∷ deep TargetCleared 0 2 (pos 2) 0 1 (pos 1)
    ∷ deep TargetCleared 0 1 (pos 1) 0 0 (pos 0)
    ∷ deep_ends TargetCleared 0 0 (pos 0)
    ∷ deep PebbleArrives 0 0 (pos 0) 1 0 (negsuc 0)
    ∷ deep PebbleArrives 1 0 (negsuc 0) 2 0 (negsuc 1)
    ∷ deep_ends PebbleArrives 2 0 (negsuc 1)
    ∷ deep PebbleLeaves 2 0 (negsuc 1) 1 0 (negsuc 0)
    ∷ deep PebbleLeaves 1 0 (negsuc 0) 0 0 (pos 0)
    ∷ deep_ends PebbleLeaves 0 0 (pos 0)
    -- pebbles 0 and 1 start at node 1, pebble 2 at node 2; the one that came back to 1 leaves it before the one that stayed
    ∷ (starts_of siding gives left (1 ∷ 1 ∷ 2 ∷ []))
    ∷ (taken_of (push 1 0 ∷ push 0 1 ∷ push 1 0 ∷ push 1 0 ∷ []) siding gives left (0 ∷ 0 ∷ 0 ∷ 1 ∷ []))
    ∷ (taken_of (push 1 0 ∷ push 2 0 ∷ push 0 1 ∷ push 1 0 ∷ push 0 2 ∷ push 0 2 ∷ []) siding gives left (0 ∷ 2 ∷ 2 ∷ 2 ∷ 2 ∷ 0 ∷ []))
    -- request 2.11. Yard A is one part, as no edge of it has a demand of 0; the byte behind the moves stays
    ∷ (parts_into 9 5 yard_a gives parted (answered 4) (1 ∷ 0 ∷ 0 ∷ 2 ∷ 3 ∷ 1 ∷ 1 ∷ 4 ∷ 9 ∷ []) (0 ∷ 0 ∷ 0 ∷ 0 ∷ 0 ∷ []))
    -- parts in rising number of their topmost nodes, which is not the planner's order
    ∷ (plan_of two_parts gives moves (push 0 3 ∷ push 2 1 ∷ []))
    ∷ (parts_into 4 4 two_parts gives parted (answered 2) (2 ∷ 1 ∷ 0 ∷ 3 ∷ []) (3 ∷ 1 ∷ 1 ∷ 3 ∷ []))
    -- all moves of a part before those of the next
    ∷ (plan_of between gives moves (push 2 0 ∷ push 3 1 ∷ push 4 2 ∷ push 2 5 ∷ []))
    ∷ (parts_into 8 6 between gives parted (answered 4) (2 ∷ 0 ∷ 4 ∷ 2 ∷ 2 ∷ 5 ∷ 3 ∷ 1 ∷ []) (0 ∷ 1 ∷ 0 ∷ 1 ∷ 0 ∷ 0 ∷ []))
    -- a node whose own edge is cut, and whose children's are, is a part of its own, without a move
    ∷ (parts_into 0 2 (yard (0 ∷ 0 ∷ []) (0 ∷ 1 ∷ []) (0 ∷ 1 ∷ [])) gives parted (answered 0) [] (0 ∷ 1 ∷ []))
    -- 7, then 2, then 8 with the moves of all parts
    ∷ (parts_into 0 3 (yard (0 ∷ 0 ∷ []) (0 ∷ []) (0 ∷ 1 ∷ [])) gives parted (refused (row 7 0)) [] (9 ∷ 9 ∷ 9 ∷ []))
    ∷ (parts_into 3 3 two_parts gives parted (refused (row 2 0)) (9 ∷ 9 ∷ 9 ∷ []) (9 ∷ 9 ∷ 9 ∷ []))
    ∷ (parts_into 3 4 two_parts gives parted (refused (row 8 2)) (9 ∷ 9 ∷ 9 ∷ []) (9 ∷ 9 ∷ 9 ∷ 9 ∷ []))
    -- request 2.12. Yard B's plan crosses edge 2 and then edge 1; widths of 0 and above the number of moves, also of a plan without one; the checker speaks first
    ∷ (wear_of plan_b 0 yard_b gives worn (refused (row 28 0)))
    ∷ (wear_of plan_b 1 yard_b gives wears 1 0 2)
    ∷ (wear_of plan_b 2 yard_b gives wears 1 0 1)
    ∷ (wear_of plan_b 3 yard_b gives worn (refused (row 28 0)))
    ∷ (wear_of [] 0 (yard (0 ∷ []) [] []) gives worn (refused (row 28 0)))
    ∷ (wear_of [] 1 (yard (0 ∷ []) [] []) gives worn (refused (row 28 0)))
    ∷ (wear_of (0 ∷ 1 ∷ []) 0 yard_b gives worn (refused (row 13 0)))
    ∷ (wear_of (0 ∷ 1 ∷ 1 ∷ []) 9 yard_b gives worn (refused (row 9 0)))
    -- each width of a plan that the planner did not make: crossings of both ways count, the first of equal stretches, the lowest of equal edges
    ∷ (wear_of there_and_back 1 star gives wears 1 0 1)
    ∷ (wear_of there_and_back 2 star gives wears 2 0 1)
    ∷ (wear_of there_and_back 3 star gives wears 3 2 2)
    ∷ (wear_of there_and_back 4 star gives wears 3 1 2)
    ∷ (wear_of there_and_back 5 star gives wears 3 0 2)
    -- request 2.13. Yard A, with a byte behind, and after its plan's first move; yard B, whose root may not fill the held node below it, but may if it is 2 deep
    ∷ (openings_into 5 yard_a gives planned (answered 2) (1 ∷ 0 ∷ 1 ∷ 4 ∷ 9 ∷ []))
    ∷ (openings_into 4 (yard (0 ∷ 0 ∷ 0 ∷ 1 ∷ 1 ∷ []) (0 ∷ 3 ∷ []) (2 ∷ 4 ∷ [])) gives planned (answered 2) (0 ∷ 2 ∷ 3 ∷ 1 ∷ []))
    ∷ (openings_into 2 yard_b gives planned (answered 1) (1 ∷ 2 ∷ []))
    ∷ (openings_into 4 (yard_of (0 ∷ 0 ∷ 1 ∷ []) (1 ∷ 1 ∷ 0 ∷ []) (0 ∷ 1 ∷ 1 ∷ []) (1 ∷ 2 ∷ 1 ∷ [])) gives planned (answered 2) (0 ∷ 1 ∷ 1 ∷ 2 ∷ []))
    -- a root with two children that lack a pebble, and one that has too many and must wait for a place; a node whose parent stands between its children
    ∷ (openings_into 4 (yard (0 ∷ 0 ∷ 0 ∷ 0 ∷ []) (0 ∷ 3 ∷ []) (1 ∷ 2 ∷ [])) gives planned (answered 2) (0 ∷ 1 ∷ 0 ∷ 2 ∷ []))
    ∷ (openings_into 6 (yard_of (2 ∷ 1 ∷ 1 ∷ 2 ∷ []) (0 ∷ 0 ∷ 3 ∷ 0 ∷ []) (1 ∷ 1 ∷ 0 ∷ 1 ∷ []) (1 ∷ 1 ∷ 3 ∷ 1 ∷ [])) gives planned (answered 3) (2 ∷ 0 ∷ 2 ∷ 1 ∷ 2 ∷ 3 ∷ []))
    -- none where all is done; 8 with the moves needed, and 7 before it
    ∷ (openings_into 2 (yard (0 ∷ 0 ∷ []) (0 ∷ []) (0 ∷ [])) gives planned (answered 0) (9 ∷ 9 ∷ []))
    ∷ (openings_into 3 yard_a gives planned (refused (row 8 2)) (9 ∷ 9 ∷ 9 ∷ []))
    ∷ (openings_into 0 (yard (0 ∷ 0 ∷ []) (0 ∷ []) (0 ∷ 1 ∷ [])) gives planned (refused (row 7 0)) [])
    ∷ []

worked : map (λ (c : Case). outcome c.input) cases ≡ map (λ (c : Case). c.expected) cases
unfolding rings two_deep deep deep_ends pair pair_yard refuses_read reader write_fault yard_sheet wear_fault wear_over wear_at most star there_and_back wears two_parts between flatten climbed topmost tops masked parts_plan parts_fault step_b refuses_step refuses_b rounds block_of registers_of bit set_bit raised register_fault task_fault step_fault registers_then pebbles_then stepped steps near high_root zeros nines any_of reaches distance nearest nearest_fault inReach reach_fault demands_a siding placed occurs first_at last_in displaced demands_after event_fault leaves run_leaves keeps cases ◌gives◌ outcome yard marks yard_a yard_b plan_b sum below roots climbs inside subtotal shortest judge move_fault push_fault legal shifted after accepted count needy lowest_child greatest neediest_child choice fills inject extract turn settle each balance plan_within plan_by plan range demands_fault bytes moves_of plan_fault moves_fault check_fault trial_fault matched_fault text digits decimal stopBefore line lines header cut same value field readLine readNodes read_yard move_lines edges report move_sheet refusal_sheet program opening openings openings_fault
worked = refl

-- two pebbles start at node 1, and one at node 2: whichever is taken, pebble 1 may go the second time, and each has its own route
either : Follows (1 ∷ 1 ∷ 2 ∷ []) (push 1 0 ∷ push 0 1 ∷ push 1 0 ∷ []) (0 ∷ 0 ∷ 1 ∷ []) (1 ∷ 0 ∷ 2 ∷ [])
either = Follows.next first (Follows.next second (Follows.next third Follows.done))
  where
    first : At (1 ∷ 1 ∷ 2 ∷ []) 0 1
    first = (omega arith, refl)

    second : At (0 ∷ 1 ∷ 2 ∷ []) 0 0
    second = (omega arith, refl)

    third : At (1 ∷ 1 ∷ 2 ∷ []) 1 1
    third = (omega arith, refl)

routes : map (λ (i : ℕ). route i (push 1 0 ∷ push 0 1 ∷ push 1 0 ∷ []) (0 ∷ 0 ∷ 1 ∷ [])) (0 ∷ 1 ∷ 2 ∷ []) ≡ (push 1 0 ∷ push 0 1 ∷ []) ∷ (push 1 0 ∷ []) ∷ [] ∷ []
unfolding route
routes = refl

-- an edge crossed towards the root, and there and back
crossed : (crossings siding (push 1 0 ∷ []) 1 ≡ 1) × (crossings siding (push 1 0 ∷ push 0 1 ∷ []) 1 ≡ 2)
unfolding siding count
crossed = (refl, refl)

-- request 2.10: of two pebbles at node 1 the one that came back leaves before the one that stayed
came_back : LastFirst [] (1 ∷ 1 ∷ 2 ∷ []) (push 1 0 ∷ push 0 1 ∷ push 1 0 ∷ []) (0 ∷ 0 ∷ 0 ∷ [])
unfolding came
came_back = LastFirst.next {taken = []} {i = 0} (λ j _. omega arith) (LastFirst.next (λ j _. once (eqb j 0)) (LastFirst.next (λ j _. twice (eqb j 0)) LastFirst.done))
  where
    once : (b : Bool) → cond b 1 0 ≤ 1
    once true = omega arith
    once false = omega arith

    twice : (b : Bool) → cond b 2 (cond b 1 0) ≤ 2
    twice true = omega arith
    twice false = omega arith

-- the longest sheet, of 256 nodes with values of three digits; the program judges more bytes than it has
unfoldable pub longest : Yard
longest = yard_of (replicate 256 255) (replicate 256 255) (replicate 256 255) (replicate 256 255)

pub longest_length : length (yard_sheet longest) ≡ max_sheet_bytes
unfolding longest yard_sheet header text lines line decimal digits range
longest_length = refl

longest_judged : max_sheet_bytes < judged_bytes
longest_judged = omega arith

-- the fresh yard: one node, which is the root, without a pebble or a target, one deep
fresh_yard : fresh ≡ yard (0 ∷ []) [] []
unfolding yard marks
fresh_yard = refl

-- the program's plan list holds 32,768 moves, and the last row of the table is that of a width
program_list : program_plan_bytes ≡ 2 * 32_768
program_list = refl

last_row : paper Width ≡ row row_count 0
last_row = refl

-- an event alters one count of a yard, and nothing else of it
altered_siding : (altered siding PebbleArrives 2 ≡ yard_of (0 ∷ 0 ∷ 0 ∷ []) (0 ∷ 2 ∷ 2 ∷ []) (1 ∷ 1 ∷ 1 ∷ []) (1 ∷ 2 ∷ 2 ∷ [])) × (altered siding TargetSet 1 ≡ yard_of (0 ∷ 0 ∷ 0 ∷ []) (0 ∷ 2 ∷ 1 ∷ []) (1 ∷ 2 ∷ 1 ∷ []) (1 ∷ 2 ∷ 2 ∷ []))
unfolding altered siding
altered_siding = (refl, refl)

-- request 2.3: the demands of yards A and B meet equation 2, entry by entry; in B a node's child is counted once
equation2 : Equation2 yard_a demands_a 0 × Equation2 yard_a demands_a 1 × Equation2 yard_a demands_a 2 × Equation2 yard_a demands_a 3 × Equation2 yard_a demands_a 4
unfolding yard_a yard marks demands_a below sumℤ
equation2 = (refl, refl, refl, refl, refl)

equation2_b : let ks = pos 0 ∷ pos 1 ∷ pos 1 ∷ [] in Equation2 yard_b ks 0 × Equation2 yard_b ks 1 × Equation2 yard_b ks 2
unfolding yard_b yard marks below sumℤ
equation2_b = (refl, refl, refl)

-- What the cases of the answers mean, in document 01's numbers: the row and place of each refusal ('Refusals with an example each'), and the
-- values of each answer.
use Rattle.std.specs.Prelude.{Bool, true, false, ℕ, Result, Ok, Err}
use Rattle.std.proofs.Math.Option.{Option, none, some}
use Rattle.model.specs.declared.Refusal.{Refusal}
use Rattle.model.specs.declared.Refusal.TheVariants.{NodeCount, ListLength, ParentOutside, Roots, Circle, Totals, ListTooShort, PlanLength, NoSuchNode, NotAdjacent, FromEmpty, ToFull, TargetEmpty, Header, LineShape, NodeNumber, ReaderList, NodeOutside, EventImpossible, NoPebble, StaleDemands, Register, NotIdle, Depth, AboveDepth, Width}
use Rattle.model.specs.declared.Checked.{Checked}
use Rattle.model.specs.declared.Tried.{Tried}
use Rattle.model.specs.declared.Tried.TheVariants.{PlanEnded, BudgetEnded}
use Rattle.model.specs.declared.Measured.{Measured}
use Rattle.model.specs.declared.Located.{Located}
use Rattle.model.specs.declared.Signalled.{Signalled}
use Rattle.model.specs.declared.Signalled.TheVariants.{Raised, Quiet}
use Rattle.model.specs.declared.Worn.{Worn}
use Rattle.model.specs.Judge.{Fault, row}
use Rattle.model.specs.Calls.Answers.{Answer, answered, refused}
use Rattle.model.specs.Calls.Checks.{Verdict, Trial}
use Rattle.model.specs.Calls.Demands.{Length}
use Rattle.model.specs.Calls.Distances.{Nearest}
use Rattle.model.specs.Wear.{Wear}

abbrev pub paper : Refusal → Fault
paper (NodeCount p) = row 1 p
paper ListLength = row 2 0
paper (ParentOutside v) = row 4 v
paper (Roots v) = row 5 v
paper (Circle v) = row 6 v
paper Totals = row 7 0
paper (ListTooShort needed) = row 8 needed
paper PlanLength = row 9 0
paper (NoSuchNode m) = row 10 m
paper (NotAdjacent m) = row 11 m
paper (FromEmpty m) = row 12 m
paper (ToFull m) = row 13 m
paper (TargetEmpty v) = row 14 v
paper (Header l) = row 15 l
paper (LineShape l) = row 16 l
paper (NodeNumber l) = row 17 l
paper ReaderList = row 18 0
paper NodeOutside = row 19 0
paper EventImpossible = row 20 0
paper NoPebble = row 22 0
paper (StaleDemands v) = row 23 v
paper (Register r) = row 24 r
paper NotIdle = row 25 0
paper (Depth v) = row 26 v
paper (AboveDepth v) = row 27 v
paper Width = row 28 0

-- no refusal of a call that answers a value, or its refusal
abbrev pub paper_done : {A : Type 0} → Result A Refusal → Option Fault
paper_done (Ok a) = none
paper_done (Err r) = some (paper r)

-- what a value means, or the refusal
abbrev pub paper_told : {A B : Type 0} → (A → B) → Result A Refusal → Answer B
paper_told meaning (Ok a) = answered (meaning a)
paper_told meaning (Err r) = refused (paper r)

-- the number, or the refusal
abbrev pub paper_counted : Result ℕ Refusal → Answer ℕ
paper_counted = paper_told (λ n. n)

-- moves and excess, or the refusal
abbrev pub verdict_of : Checked → Verdict
verdict_of c = record { moves = c.moves; excess = c.excess }

abbrev pub paper_checked : Result Checked Refusal → Answer Verdict
paper_checked = paper_told verdict_of

-- moves taken and which of the two ended it, or the refusal
abbrev pub trial_of : Tried → Trial
trial_of (PlanEnded n) = record { taken = n; plan_ended = true }
trial_of (BudgetEnded n) = record { taken = n; plan_ended = false }

abbrev pub paper_tried : Result Tried Refusal → Answer Trial
paper_tried = paper_told trial_of

-- moves and bytes, or the refusal
abbrev pub length_of : Measured → Length
length_of m = record { moves = m.moves; list_bytes = m.bytes }

abbrev pub paper_measured : Result Measured Refusal → Answer Length
paper_measured = paper_told length_of

-- a node and its distance, or the refusal
abbrev pub nearest_of : Located → Nearest
nearest_of l = record { node = l.node; distance = l.distance }

abbrev pub paper_located : Result Located Refusal → Answer Nearest
paper_located = paper_told nearest_of

-- the crossings, the first move of the stretch and the edge, or the refusal
abbrev pub wear_of : Worn → Wear
wear_of w = record { crossings = w.crossings; first = w.first; edge = w.edge }

abbrev pub paper_worn : Result Worn Refusal → Answer Wear
paper_worn = paper_told wear_of

-- whether the line is raised, or the refusal
abbrev pub is_raised : Signalled → Bool
is_raised Raised = true
is_raised Quiet = false

abbrev pub paper_signalled : Result Signalled Refusal → Answer Bool
paper_signalled = paper_told is_raised

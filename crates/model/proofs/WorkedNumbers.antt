-- The number and the place of each refusal, and the values of each answer, in document 01's numbers: what a sheet prints and a C program gets.
use Prim.Native.Nat.{ℕ}
use mathlib.Core.Path.{◌≡◌, refl}
use mathlib.Core.Bool.{true, false}
use mathlib.Core.List.{[], ◌∷◌, map}
use mathlib.Core.Option.{none}
use Rattle.std.specs.Prelude.{Ok, Err}
use Rattle.model.specs.declared.Refusal.TheVariants.{NodeCount, ListLength, ParentOutside, Roots, Circle, Totals, ListTooShort, PlanLength, NoSuchNode, NotAdjacent, FromEmpty, ToFull, TargetEmpty, Header, LineShape, NodeNumber, ReaderList, NodeOutside, EventImpossible, NoPebble, StaleDemands, Register, NotIdle, Depth, AboveDepth, Width}
use Rattle.model.specs.declared.Tried.TheVariants.{PlanEnded, BudgetEnded}
use Rattle.model.specs.declared.Signalled.TheVariants.{Raised, Quiet}
use Rattle.model.specs.Judge.{row, fault}
use Rattle.model.specs.Calls.Answers.{answered, refused}
use Rattle.model.specs.Paper.{paper, paper_done, paper_counted, paper_checked, paper_tried, paper_measured, paper_located, paper_worn, paper_signalled}

-- 100 stands for a place that the refusal holds
refusals : map paper (NodeCount 100 ∷ ListLength ∷ ParentOutside 100 ∷ Roots 100 ∷ Circle 100 ∷ Totals ∷ ListTooShort 100 ∷ PlanLength ∷ NoSuchNode 100 ∷ NotAdjacent 100 ∷ FromEmpty 100 ∷ ToFull 100 ∷ TargetEmpty 100 ∷ [])
    ≡ (row 1 100 ∷ row 2 0 ∷ row 4 100 ∷ row 5 100 ∷ row 6 100 ∷ row 7 0 ∷ row 8 100 ∷ row 9 0 ∷ row 10 100 ∷ row 11 100 ∷ row 12 100 ∷ row 13 100 ∷ row 14 100 ∷ [])
refusals = refl

refusals_2 : map paper (Header 100 ∷ LineShape 100 ∷ NodeNumber 100 ∷ ReaderList ∷ NodeOutside ∷ EventImpossible ∷ NoPebble ∷ StaleDemands 100 ∷ Register 100 ∷ NotIdle ∷ Depth 100 ∷ AboveDepth 100 ∷ Width ∷ [])
    ≡ (row 15 100 ∷ row 16 100 ∷ row 17 100 ∷ row 18 0 ∷ row 19 0 ∷ row 20 0 ∷ row 22 0 ∷ row 23 100 ∷ row 24 100 ∷ row 25 0 ∷ row 26 100 ∷ row 27 100 ∷ row 28 0 ∷ [])
refusals_2 = refl

-- accepted, and refused with the refusal's number and place
done : map (paper_done {A = ℕ}) (Ok 7 ∷ Err (Roots 3) ∷ []) ≡ none ∷ fault 5 3 ∷ []
done = refl

counted : map paper_counted (Ok 7 ∷ Err (Roots 3) ∷ []) ≡ answered 7 ∷ refused (row 5 3) ∷ []
counted = refl

checked : map paper_checked (Ok (record { moves = 7; excess = 2 }) ∷ Err (Roots 3) ∷ []) ≡ answered (record { moves = 7; excess = 2 }) ∷ refused (row 5 3) ∷ []
checked = refl

tried : map paper_tried (Ok (PlanEnded 7) ∷ Ok (BudgetEnded 6) ∷ Err (Roots 3) ∷ [])
    ≡ answered (record { taken = 7; plan_ended = true }) ∷ answered (record { taken = 6; plan_ended = false }) ∷ refused (row 5 3) ∷ []
tried = refl

measured : map paper_measured (Ok (record { moves = 7; bytes = 14 }) ∷ Err (Roots 3) ∷ []) ≡ answered (record { moves = 7; list_bytes = 14 }) ∷ refused (row 5 3) ∷ []
measured = refl

located : map paper_located (Ok (record { node = 7; distance = 2 }) ∷ Err (Roots 3) ∷ []) ≡ answered (record { node = 7; distance = 2 }) ∷ refused (row 5 3) ∷ []
located = refl

worn : map paper_worn (Ok (record { crossings = 7; first = 2; edge = 4 }) ∷ Err (Roots 3) ∷ []) ≡ answered (record { crossings = 7; first = 2; edge = 4 }) ∷ refused (row 5 3) ∷ []
worn = refl

signalled : map paper_signalled (Ok Raised ∷ Ok Quiet ∷ Err (Roots 3) ∷ []) ≡ answered true ∷ answered false ∷ refused (row 5 3) ∷ []
signalled = refl

-- The writer's answer and the list that it leaves, by what is found: a refusal of the lengths, too little room, or the sheet written.
use mathlib.Core.Path.{◌≡◌, ◌∙◌}
use mathlib.Core.Option.{none, some}
use mathlib.Core.List.{List, [], ◌∷◌}
use Prim.Native.Nat.{ℕ, ◌≤◌, ◌<◌}
use native.Mathlib.Omega.{arith}
use lib.ListN.{length}
use lib.Dec.{leb}
use borrow.Author.Tests.{le-leb, lt-leb}
use Rattle.model.specs.Yard.{Yard}
use Rattle.model.specs.Judge.{Fault, row, fault, first_of, unless, length_tests}
use Rattle.model.specs.Calls.Answers.{answered, refused}
use Rattle.model.specs.Sheets.{yard_sheet, write_fault, write_answer, write_list}
use Rattle.laws.proofs.Basics.{first_refused, first_passed}
use Rattle.sheet.specs.Written.{Written}
use Rattle.sheet.proofs.Writing.{written_front}

module _ (y : Yard) (list : List ℕ) where
  abbrev Fails : Fault → Type 0
  Fails f = (refused f ≡ write_answer y list) × (list ≡ write_list y list)

  fails : (f : Fault) → write_fault y (length list) ≡ some f → Fails f
  fails f e = (rw e, rw e)

  pub write_lengths : {f : Fault} → first_of (length_tests y) ≡ some f → Fails f
  unfolding write_fault
  write_lengths {f} e = fails f (first_refused (length_tests y) (unless (leb (length (yard_sheet y)) (length list)) (fault 8 (length (yard_sheet y))) ∷ []) f e)

  module _ (p : first_of (length_tests y) ≡ none) where
    room : write_fault y (length list) ≡ first_of (unless (leb (length (yard_sheet y)) (length list)) (fault 8 (length (yard_sheet y))) ∷ [])
    unfolding write_fault
    room = first_passed (length_tests y) (unless (leb (length (yard_sheet y)) (length list)) (fault 8 (length (yard_sheet y))) ∷ []) p

    pub write_short : {n : ℕ} → n ≡ length (yard_sheet y) → length list < n → Fails (row 8 n)
    write_short {n} e h = fails (row 8 n) (room ∙ rw (← e, lt-leb n (length list) h))

    pub write_whole : {n e : ℕ} {new : List ℕ} → n ≡ length (yard_sheet y) → n ≤ length list → Written (yard_sheet y) 0 list e new
        → (answered n ≡ write_answer y list) × (new ≡ write_list y list)
    write_whole q h w =
        let p : write_fault y (length list) ≡ none = room ∙ rw (le-leb (length (yard_sheet y)) (length list) (omega arith)) in
        (rw (p, q), rw p (written_front w (omega (arith, w.end))).1)

-- The trial obeys the front of a plan, as much of it as the budget allows. An accepted trial takes as many moves as budget and plan have, and
-- tells and leaves what so many accepted pushes do (`trial_pushes`), one with budget enough refuses the moves that the checker refuses (`trial_check`), and what lies past the budget has
-- no say but by its length (`trial_past`).
use mathlib.Core.Path.{◌≡◌, refl, ap}
use mathlib.Core.Logic.{◌↔◌}
use mathlib.Core.Bool.{true}
use mathlib.Core.List.{List, [], ◌∷◌}
use Prim.Native.Nat.{ℕ, ◌≤◌, min}
use native.Mathlib.Omega.{arith}
use lib.ListN.{length, take, drop, length-take, take-append-drop}
use lib.Seq.{take_all, take_at}
use borrow.Author.Tests.{leb-true, le-leb}
use Rattle.model.specs.Yard.{Yard, Matched}
use Rattle.model.specs.Judge.{first_of, Tree}
use Rattle.model.specs.Push.{after, run, accepted}
use Rattle.model.specs.Calls.Answers.{answered}
use Rattle.model.specs.Calls.Plans.{moves_of}
use Rattle.model.specs.Calls.Checks.{end_fault, check_fault, Trial, within, trial_tests, trial_fault, trial_answer, trial_pebbles}
use Rattle.laws.proofs.Basics.{none_all, first_join}
use Rattle.laws.proofs.Calls.{answer_answered, moves_of_half, totals_none}
use Rattle.laws.proofs.Moves.{moves_fault_accepted}

-- as much as was taken, taken again
pub take_again : {A : Type 0} (n : ℕ) (l : List A) → take (length (take n l)) l ≡ take n l
take_again n l = rw take-append-drop at (take_at (take n l) (drop n l) (length (take n l)) refl)

pub trial_pushes : (y : Yard) (bs : List ℕ) (budget : ℕ) (r : Trial) → trial_answer y bs budget ≡ answered r
    → (r.taken ≡ min budget (length (moves_of bs)))
    × (accepted y (take r.taken (moves_of bs)) ≡ take r.taken (moves_of bs))
    × (trial_pebbles y bs budget ≡ after y (take r.taken (moves_of bs)))
    × ((r.plan_ended ≡ true) ↔ (r.taken ≡ length (moves_of bs)))
unfolding trial_fault
trial_pushes y bs budget r e =
    let a = answer_answered (trial_fault y bs budget) _ r e in
    let p = none_all (trial_tests y bs budget) a.0 in
    let l = length-take budget (moves_of bs) in
    let taken : r.taken ≡ length (within bs budget) = omega (arith, ap (λ (t : Trial). t.taken) a.1) in
    let left : trial_pebbles y bs budget ≡ after y (within bs budget) = rw a.0 in
    rw (taken, take_again budget (moves_of bs), ← a.1) (
      omega (arith, l),
      (moves_fault_accepted (within bs budget) 0 y p.0).0 p.1.1.0,
      left,
      ((λ h. omega (arith, leb-true (length (moves_of bs)) budget h)), λ h. le-leb (length (moves_of bs)) budget (omega arith)),
    )

pub trial_check : (y : Yard) (bs : List ℕ) (budget : ℕ) → Tree y → Matched y → length (moves_of bs) ≤ budget
    → check_fault y bs ≡ first_of (trial_fault y bs budget ∷ end_fault (run y (moves_of bs)) ∷ [])
unfolding check_fault trial_fault
trial_check y bs budget t m l = rw (first_join (trial_tests y bs budget) (end_fault (run y (moves_of bs)) ∷ []), take_all budget (moves_of bs) l, t, (totals_none y).1 m)

pub trial_past : (y : Yard) (bs cs : List ℕ) (budget : ℕ) → length bs ≡ length cs → take budget (moves_of bs) ≡ take budget (moves_of cs)
    → (trial_answer y bs budget ≡ trial_answer y cs budget) × (trial_pebbles y bs budget ≡ trial_pebbles y cs budget)
unfolding trial_fault
trial_past y bs cs budget e f =
    let n : length (moves_of bs) ≡ length (moves_of cs) = omega (arith, moves_of_half bs, moves_of_half cs) in
    (rw (f, e, n), rw (f, e))

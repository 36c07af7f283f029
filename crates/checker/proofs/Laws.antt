-- The moves that a plan's bytes are; a list of moves obeyed one after another; and what decides the answers of the checker and the trial.
use mathlib.Core.Path.{◌≡◌, refl, sym, ◌∙◌}
use mathlib.Core.Bool.{Bool, true, false, not, ◌&&◌}
use mathlib.Core.List.{List, [], ◌∷◌, ◌++◌}
use mathlib.Core.Option.{Option, none, some}
use Prim.Native.Nat.{ℕ, suc, min, ◌+◌, ◌-◌, ◌*◌, ◌/◌, ◌≤◌, ◌<◌}
use native.Mathlib.Numerals.{add-one}
use native.Mathlib.Omega.{arith}
use lib.ListN.{length, take, drop, get_or, replicate, length-take}
use lib.Seq.{length-take-le, length_front, drop-cons, drop-length, get_or-take, take_all, take_at, take-suc}
use lib.Dec.{leb, ltb}
use borrow.Author.Tests.{not-true, not-false}
use Rattle.model.specs.Yard.{Yard, yard_of, size, full, held, holding, shortest, Matched}
use Rattle.model.specs.Judge.{Fault, fault, first_of, unless, judge, Tree}
use Rattle.model.specs.Push.{Move, push, adjacent, move_fault, shifted, after, run}
use Rattle.model.specs.Calls.Answers.{answered, refused, lent}
use Rattle.model.specs.Calls.Plans.{moves_of}
use Rattle.model.specs.Calls.Checks.{bytes_fault, moves_fault, end_fault, Verdict, check_tests, check_fault, check_answer, within, trial_fault, trial_answer, trial_pebbles}
use Rattle.laws.proofs.Basics.{none_all}
use Rattle.laws.proofs.Calls.{moves_of_half, moves_half, move_at, totals_none}
use Rattle.laws.proofs.Step.{step, moved_tree}
use Rattle.laws.proofs.Runs.{after_append, run_one}
use Rattle.laws.proofs.Moves.{move_fault_legal, moves_fault_legal}
use Rattle.laws.proofs.Demand2.{check_excess}
use Rattle.laws.proofs.Trial.{take_again}

-- the front of a plan
module _ (bs : List ℕ) (count : ℕ) (h : 2 * count ≤ length bs) where
  pub front_length : length (take count (moves_of bs)) ≡ count
  front_length = omega (arith, length-take count (moves_of bs), moves_of_half bs)

  pub front_at : (i : ℕ) → i < count → get_or (take count (moves_of bs)) i (push 0 0) ≡ push (get_or bs (2 * i) 0) (get_or bs (2 * i + 1) 0)
  front_at i l = get_or-take count (moves_of bs) i (push 0 0) l ∙ move_at bs i (omega arith)

pub front_all : (bs : List ℕ) → take (length bs / 2) (moves_of bs) ≡ moves_of bs
front_all bs = take_all (length bs / 2) (moves_of bs) (omega (arith, moves_half bs))

-- the first n entries of an array of 256 zeros, and what the array is when other counts come back from where they were lent
pub front_zeros : (n : ℕ) → n ≤ 256 → length (take n (replicate {A = ℕ} 256 0)) ≡ n
front_zeros n l = length-take-le n (replicate 256 0) l

pub record Back (n : ℕ) (counts : List ℕ) : Type 0 where
  pub fits : n ≤ length (counts ++ drop n (replicate 256 0))
  pub long : n ≡ length (take n (counts ++ drop n (replicate 256 0)))
  pub is : take n (counts ++ drop n (replicate 256 0)) ≡ counts

pub came_back : (n : ℕ) (counts : List ℕ) → n ≤ 256 → length counts ≡ length (take n (replicate {A = ℕ} 256 0)) → Back n counts
came_back n counts l k =
    let fits : n ≤ length (counts ++ drop n (replicate 256 0)) = rw (length_front (replicate 256 0) counts n k) l in
    record { fits = fits; long = sym (length-take-le n _ fits); is = take_at counts (drop n (replicate 256 0)) n (k ∙ front_zeros n l) }

-- a test that stands alone, and a refusal, which is not none
alone : (f : Option Fault) → first_of (f ∷ []) ≡ f
alone none = refl
alone (some f) = refl

pub some_not : {f : Fault} {A : Type 0} → some f ≡ none → A
some_not e = let z : ◌≡◌ {A = ℕ} 0 1 = cc in absurd (omega arith)

-- refusal 9, by its test
module _ {f : Option Fault} (b : Bool) (e : f ≡ unless b (fault 9 0)) where
  pub whole : not b ≡ false → f ≡ none
  whole h = e ∙ rw (not-false b h)

  pub not_whole : not b ≡ true → f ≡ fault 9 0
  not_whole h = e ∙ rw (not-true b h)

-- the place of a move's refusal is the one it was judged for
move_fault_at : (y : Yard) (m : Move) (place : ℕ) {f : Fault} → move_fault y m place ≡ some f → f.place ≡ place
unfolding move_fault
move_fault_at y m place {f} = go ((ltb m.from (size y)) && (ltb m.to (size y))) (adjacent y m.from m.to) (held y m.from) (not (full y m.to))
  where
    go : (a b c d : Bool) → first_of (unless a (fault 10 place) ∷ unless b (fault 11 place) ∷ unless c (fault 12 place) ∷ unless d (fault 13 place) ∷ []) ≡ some f → f.place ≡ place
    go true true true true e = some_not (sym e)
    go true true true false e = cc
    go true true false d e = cc
    go true false c d e = cc
    go false b c d e = cc

-- the moves `ms` of a yard, of which the first `i` are obeyed and none is refused: those left decide the answer, those obeyed have left the pebbles
module _ (y : Yard) (ms : List Move) where
  abbrev pub Left : ℕ → List ℕ → Type 0
  Left i qs = Tree (holding y qs) × (moves_fault 0 y ms ≡ moves_fault i (holding y qs) (drop i ms)) × (qs ≡ after y (take i ms))

  module _ (i : ℕ) (qs : List ℕ) (h : Left i qs) where
    pub left_none : length ms ≡ i → (none ≡ moves_fault 0 y ms) × (qs ≡ after y ms)
    unfolding moves_fault
    left_none e =
        let d : drop i ms ≡ [] = rw (← e) (drop-length ms) in
        (sym (h.1 ∙ rw d), h.2 ∙ rw (take_all i ms (omega arith)))

    -- the next move, judged without the targets
    module _ (m : Move) (l : i < length ms) (e : get_or ms i (push 0 0) ≡ m) where
      next : drop i ms ≡ m ∷ drop (suc i) ms
      next = drop-cons ms i (push 0 0) l ∙ rw e

      pub left_refused : (f : Fault) (place : ℕ) → move_fault (yard_of y.parents qs [] y.depths) m place ≡ some f → place ≡ i → (some f ≡ moves_fault 0 y ms) × (f.place ≡ i)
      unfolding moves_fault move_fault
      left_refused f place k q = (sym (h.1 ∙ rw (next, ← q, k)), move_fault_at (yard_of y.parents qs [] y.depths) m place k ∙ q)

      pub left_next : move_fault (yard_of y.parents qs [] y.depths) m i ≡ none → Left (i + 1) (shifted qs m)
      unfolding move_fault
      left_next k =
          let z = holding y qs in
          let g = (move_fault_legal z h.0 m i).0 k in
          rw add-one (
            moved_tree z m (step z m g),
            h.1 ∙ rw (next, moves_fault_legal z m (drop (suc i) ms) g i, k) (alone _),
            sym (rw (take-suc ms i (push 0 0) l, e, after_append (take i ms) (m ∷ []) y, ← h.2) (run_one z m g).0),
          )

-- the checker on a tree with as many pebbles as targets: refusal 9, then the moves and the end
module _ (y : Yard) (t : Tree y) (m : Matched y) (bs : List ℕ) where
  pub check_bytes : (f : Fault) → bytes_fault bs ≡ some f → check_fault y bs ≡ some f
  unfolding check_fault
  check_bytes f e = rw (t, (totals_none y).1 m, e)

  pub check_moves : bytes_fault bs ≡ none → check_fault y bs ≡ first_of (moves_fault 0 y (moves_of bs) ∷ end_fault (run y (moves_of bs)) ∷ [])
  unfolding check_fault
  check_moves e = rw (t, (totals_none y).1 m, e)

-- a plan that the checker refuses
pub check_refused : (y : Yard) (bs : List ℕ) (f : Fault) → check_fault y bs ≡ some f → refused f ≡ check_answer y bs
check_refused y bs f e = rw e

-- a plan that the checker accepts is of such a tree, and not too short
module _ (y : Yard) (bs : List ℕ) (e : check_fault y bs ≡ none) where
  pub check_fit : Tree y × Matched y
  unfolding check_fault
  check_fit = let a = none_all (check_tests y bs) e in (a.0, (totals_none y).0 a.1.0)

  pub check_long : shortest y ≤ length bs / 2
  check_long =
      let v : Verdict = record { moves = length (moves_of bs); excess = length (moves_of bs) - shortest y } in
      omega (arith, moves_half bs, check_excess y check_fit.0 check_fit.1 bs v (rw e))

  pub check_answered : (x : ℕ) → x ≡ length bs / 2 - shortest y → answered (record { moves = length bs / 2; excess = x }) ≡ check_answer y bs
  check_answered x l = rw (e, l, moves_half bs)

-- the trial: refusals 1 to 6, then 9, then the moves taken, which are those within the budget
taken_is : (bs : List ℕ) (budget taken : ℕ) → taken ≡ min (length bs / 2) budget → taken ≡ length (within bs budget)
taken_is bs budget taken e = omega (arith, length-take budget (moves_of bs), moves_half bs)

module _ (y : Yard) (bs : List ℕ) (budget : ℕ) where
  pub trial_refused : (f : Fault) → trial_fault y bs budget ≡ some f → (refused f ≡ trial_answer y bs budget) × (y.pebbles ≡ trial_pebbles y bs budget)
  trial_refused f e = (rw e, rw e)

  pub trial_answered : {taken : ℕ} {b : Bool} → trial_fault y bs budget ≡ none → taken ≡ min (length bs / 2) budget → leb (length bs / 2) budget ≡ b
      → answered (record { taken = taken; plan_ended = b }) ≡ trial_answer y bs budget
  trial_answered {taken} f e l = rw (f, ← (taken_is bs budget taken e), ← (moves_half bs), l)

  pub trial_judged : (f : Fault) → judge y ≡ some f → trial_fault y bs budget ≡ some f
  unfolding trial_fault
  trial_judged f e = rw e

  module _ (t : Tree y) where
    pub trial_bytes : (f : Fault) → bytes_fault bs ≡ some f → trial_fault y bs budget ≡ some f
    unfolding trial_fault
    trial_bytes f e = rw (t, e)

    pub trial_moves : bytes_fault bs ≡ none → (taken : ℕ) → taken ≡ min (length bs / 2) budget
        → (r : Option Fault) (qs : List ℕ) → r ≡ moves_fault 0 y (take taken (moves_of bs)) → qs ≡ lent r (after y (take taken (moves_of bs))) y.pebbles
        → (r ≡ trial_fault y bs budget) × (qs ≡ trial_pebbles y bs budget)
    unfolding trial_fault
    trial_moves b taken e r qs p q =
        let front : take taken (moves_of bs) ≡ within bs budget = rw (taken_is bs budget taken e) (take_again budget (moves_of bs)) in
        let d : r ≡ trial_fault y bs budget = p ∙ rw (front, t, b) (sym (alone _)) in
        (d, q ∙ rw (d, front))

-- The moves of a plan, one after another. On a tree no test of refusals 10 to 13 meets a move exactly if the push is legal, wherever the move
-- stands, and a legal push leaves a tree: so none of the moves is refused exactly if each is accepted.
use mathlib.Core.Path.{◌≡◌, refl, ap, ◌∙◌}
use mathlib.Core.Logic.{◌↔◌}
use mathlib.Core.Bool.{Bool, true, not, ◌&&◌}
use mathlib.Core.List.{List, [], ◌∷◌}
use mathlib.Core.Option.{none}
use Prim.Native.Nat.{ℕ, suc}
use lib.Dec.{ltb}
use Rattle.model.specs.Yard.{Yard, size, full, held}
use Rattle.model.specs.Judge.{fault, first_of, unless, Tree}
use Rattle.model.specs.Push.{Move, adjacent, move_tests, move_fault, push_fault, legal, moved, pushed, after, run, accepted}
use Rattle.model.specs.Calls.Checks.{moves_fault}
use Rattle.laws.proofs.Basics.{none_all, all_none, unless_none}
use Rattle.laws.proofs.Step.{none_is, step, legal_step, moved_tree}
use Rattle.laws.proofs.Runs.{Obeys, obeys}

-- move_fault
move_fault_place : (y : Yard) (m : Move) (i j : ℕ) → move_fault y m i ≡ none → move_fault y m j ≡ none
unfolding move_fault
move_fault_place y m i j e =
    let p = none_all (move_tests y m i) e in
    all_none (move_tests y m j) (
      there ((ltb m.from (size y)) && (ltb m.to (size y))) 10 p.0,
      (there (adjacent y m.from m.to) 11 p.1.0, (there (held y m.from) 12 p.1.1.0, (there (not (full y m.to)) 13 p.1.1.1.0, tt))),
    )
  where
    there : (b : Bool) (n : ℕ) → unless b (fault n i) ≡ none → unless b (fault n j) ≡ none
    there b n e = rw (unless_none b n i e)

pub move_fault_legal : (y : Yard) → Tree y → (m : Move) (i : ℕ) → (move_fault y m i ≡ none) ↔ (legal y m ≡ true)
unfolding legal push_fault
move_fault_legal y t m i = (
  (λ e. rw (t, move_fault_place y m i 0 e)),
  λ e. move_fault_place y m 0 i (none_all (move_fault y m 0 ∷ []) (none_is _ (rw t at e))).0,
)

-- the first move, if it is legal
module _ (y : Yard) (m : Move) (ms : List Move) (e : legal y m ≡ true) where
  accepted_legal : accepted y (m ∷ ms) ≡ m ∷ accepted (moved y m) ms
  unfolding accepted
  accepted_legal = rw e

  pub after_legal : after y (m ∷ ms) ≡ after (moved y m) ms
  unfolding after
  after_legal = rw e

  pub moves_fault_legal : (i : ℕ) → moves_fault i y (m ∷ ms) ≡ first_of (move_fault y m i ∷ moves_fault (suc i) (moved y m) ms ∷ [])
  unfolding moves_fault
  moves_fault_legal i = rw e

-- a list of legal pushes is accepted as it stands, and leads where it says
pub obeys_accepted : {y z : Yard} {ms : List Move} → Obeys y ms z → (accepted y ms ≡ ms) × (after y ms ≡ z.pebbles)
unfolding accepted after
obeys_accepted Obeys.done = (refl, refl)
obeys_accepted (Obeys.next {y} {m = m} {ms = ms} s o) = (
  accepted_legal y m ms (legal_step y m s) ∙ ap (λ (l : List Move). m ∷ l) (obeys_accepted o).0,
  after_legal y m ms (legal_step y m s) ∙ (obeys_accepted o).1,
)

pub accepted_obeys : (y : Yard) → Tree y → (ms : List Move) → accepted y ms ≡ ms → Obeys y ms (run y ms)
accepted_obeys y t ms e = rw e at (obeys ms y t)

-- moves_fault
moves_fault_obeys : {y z : Yard} {ms : List Move} → Obeys y ms z → (i : ℕ) → moves_fault i y ms ≡ none
unfolding moves_fault
moves_fault_obeys Obeys.done i = refl
moves_fault_obeys (Obeys.next {y} {m = m} {ms = ms} s o) i =
    rw (moves_fault_legal y m ms (legal_step y m s) i, (move_fault_legal y s.tree m i).1 (legal_step y m s), moves_fault_obeys o (suc i))

none_accepted : (ms : List Move) (i : ℕ) (y : Yard) → Tree y → moves_fault i y ms ≡ none → accepted y ms ≡ ms
unfolding moves_fault accepted
none_accepted [] i y t e = refl
none_accepted (m ∷ ms) i y t e =
    let p = none_all (move_fault y m i ∷ moves_fault (suc i) (pushed y m) ms ∷ []) e in
    let l : legal y m ≡ true = (move_fault_legal y t m i).0 p.0 in
    accepted_legal y m ms l ∙ ap (λ (k : List Move). m ∷ k) (none_accepted ms (suc i) (moved y m) (moved_tree y m (step y m l)) (rw l at p.1.0))

pub moves_fault_accepted : (ms : List Move) (i : ℕ) (y : Yard) → Tree y → (moves_fault i y ms ≡ none) ↔ (accepted y ms ≡ ms)
moves_fault_accepted ms i y t = (none_accepted ms i y t, λ e. moves_fault_obeys (accepted_obeys y t ms e) i)

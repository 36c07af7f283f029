-- Laws of answers, of plans as bytes, and of the tests that several calls share.
use mathlib.Core.Path.{◌≡◌, refl, sym, ap, ◌∙◌}
use mathlib.Core.Logic.{◌≢◌, ◌↔◌}
use mathlib.Core.Bool.{Bool, true, false, not, ◌&&◌}
use mathlib.Core.List.{List, [], ◌∷◌}
use mathlib.Core.Option.{Option, none, some, some-injective}
use Prim.Native.Nat.{ℕ, zero, suc, ◌+◌, ◌*◌, ◌/◌, ◌≤◌, ◌<◌}
use native.Mathlib.Omega.{arith}
use lib.ListN.{length, get_or, take, drop}
use lib.Seq.{take_at}
use lib.Dec.{ltb}
use borrow.Author.Tests.{eqb-true, eq-eqb, ne_eqb, leb-true, le-leb}
use Rattle.model.specs.Yard.{Yard, size, full, held, pebbleCount, targetCount, Matched}
use Rattle.model.specs.Judge.{Fault, row, fault, first_of, unless, at_lowest, judge, Tree, totals_fault, matched_tests, matched_fault}
use Rattle.model.specs.Push.{Move, push, adjacent, move_tests, move_fault, pushed}
use Rattle.model.specs.Plan.{plan}
use Rattle.model.specs.Calls.Answers.{answered, refused, answer, overwrite}
use Rattle.model.specs.Calls.Plans.{bytes, moves_of, plan_tests, plan_fault}
use Rattle.model.specs.Calls.Checks.{moves_fault, check_tests, check_fault}
use Rattle.model.specs.Paper.{paper_done}
use Rattle.std.specs.Prelude.{Result}
use Rattle.model.specs.declared.Refusal.{Refusal}
use Rattle.laws.proofs.Basics.{All, none_all, all_none, unless_none, first_refused}

-- what a function's answer says, where it is known
pub sees : {A : Type 0} {d e : Result A Refusal} {f : Option Fault} → paper_done d ≡ f → d ≡ e → f ≡ paper_done e
sees p q = sym p ∙ ap paper_done q

-- answer
pub answer_answered : {A : Type 0} (f : Option Fault) (a b : A) → answer f a ≡ answered b → (f ≡ none) × (a ≡ b)
answer_answered none a b e = (refl, cc)
answer_answered (some f) a b e = (cc, cc)

pub answer_refused : {A : Type 0} (f : Option Fault) (a : A) (r : Fault) → answer f a ≡ refused r → f ≡ some r
answer_refused none a r e = cc
answer_refused (some f) a r e = cc

-- bytes, moves_of
pub moves_of_bytes : (ms : List Move) → moves_of (bytes ms) ≡ ms
unfolding moves_of bytes
moves_of_bytes [] = refl
moves_of_bytes (m ∷ ms) = ap (λ (l : List Move). m ∷ l) (moves_of_bytes ms)

pub length_bytes : (ms : List Move) → length (bytes ms) ≡ 2 * length ms
unfolding bytes
length_bytes [] = refl
length_bytes (m ∷ ms) = omega (arith, length_bytes ms)

pub moves_of_half : (bs : List ℕ) → (2 * length (moves_of bs) ≤ length bs) × (length bs ≤ 2 * length (moves_of bs) + 1)
unfolding moves_of
moves_of_half [] = omega arith
moves_of_half (a ∷ []) = omega arith
moves_of_half (a ∷ b ∷ bs) = omega (arith, moves_of_half bs)

-- half as many moves as bytes, and the two bytes of each
pub moves_half : (bs : List ℕ) → length bs / 2 ≡ length (moves_of bs)
moves_half bs = omega (arith, moves_of_half bs)

pub move_at : (bs : List ℕ) (i : ℕ) → 2 * i + 1 < length bs → get_or (moves_of bs) i (push 0 0) ≡ push (get_or bs (2 * i) 0) (get_or bs (2 * i + 1) 0)
unfolding moves_of
move_at [] i l = absurd (omega arith)
move_at (a ∷ []) i l = absurd (omega arith)
move_at (a ∷ b ∷ bs) zero l = refl
move_at (a ∷ b ∷ bs) (suc i) l =
    let e : 2 * suc i ≡ suc (suc (2 * i)) = omega arith in
    let f : 2 * suc i + 1 ≡ suc (suc (2 * i + 1)) = omega arith in
    rw (f, e) (move_at bs i (omega arith))

-- overwrite: its front read back
pub take_overwrite : (front list : List ℕ) (n : ℕ) → length front ≡ n → take n (overwrite front list) ≡ front
take_overwrite front list n e = take_at front (drop (length front) list) n e

-- the totals
pub totals_none : (y : Yard) → (totals_fault y ≡ none) ↔ Matched y
totals_none y = ((λ e. eqb-true (pebbleCount y) (targetCount y) (unless_none _ 7 0 e)), λ m. rw (eq-eqb (pebbleCount y) (targetCount y) m))

pub totals_differ : (y : Yard) → (totals_fault y ≡ fault 7 0) ↔ (¬ Matched y)
totals_differ y = ((λ e m. let z : ◌≡◌ {A = ℕ} 0 1 = cc ((totals_none y).1 m) in omega arith), λ d. rw (ne_eqb (pebbleCount y) (targetCount y) d))

-- plan_fault
module _ (y : Yard) (room : ℕ) where
  pub plan_none : (plan_fault y room ≡ none) ↔ (Tree y × Matched y × (2 * length (plan y) ≤ room))
  unfolding plan_fault
  plan_none = (
    (λ e.
        let a = none_all (plan_tests y room) e in
        (a.0, (totals_none y).0 a.1.0, leb-true (2 * length (plan y)) room (unless_none _ 8 (length (plan y)) a.1.1.0))),
    λ h. all_none (plan_tests y room) (h.0, ((totals_none y).1 h.1, (rw (le-leb (2 * length (plan y)) room h.2), tt))),
  )

-- refusals of another number than n, at any place
abbrev pub Other : ℕ → Option Fault → Type 0
Other n f = (p : ℕ) → f ≡ fault n p → ⊥

pub other_none : (n : ℕ) → Other n none
other_none n p e = let z : ◌≡◌ {A = ℕ} 0 1 = cc in omega arith

pub other_fault : (n k p : ℕ) → k ≢ n → Other n (fault k p)
other_fault n k p d q e = d (ap (λ (f : Fault). f.number) (some-injective (row k p) (row n q) e))

pub other_unless : (n k p : ℕ) → k ≢ n → (b : Bool) → Other n (unless b (fault k p))
other_unless n k p d true = other_none n
other_unless n k p d false = other_fault n k p d

pub other_lowest : (n k : ℕ) → k ≢ n → (vs : List ℕ) → Other n (at_lowest k vs)
other_lowest n k d [] = other_none n
other_lowest n k d (v ∷ vs) = other_fault n k v d

pub other_first : (n : ℕ) (fs : List (Option Fault)) → All (Other n) fs → Other n (first_of fs)
other_first n [] a = other_none n
other_first n (none ∷ fs) a = other_first n fs a.1
other_first n (some f ∷ fs) a = a.0

pub other_moves : (n : ℕ) → n ≤ 9 → (ms : List Move) (i : ℕ) (y : Yard) → Other n (moves_fault i y ms)
unfolding moves_fault move_fault
other_moves n l [] i y = other_none n
other_moves n l (m ∷ ms) i y = other_first n (move_fault y m i ∷ moves_fault (suc i) (pushed y m) ms ∷ []) (
  other_first n (move_tests y m i) (
    other_unless n 10 i (omega arith) ((ltb m.from (size y)) && (ltb m.to (size y))),
    (
      other_unless n 11 i (omega arith) (adjacent y m.from m.to),
      (other_unless n 12 i (omega arith) (held y m.from), (other_unless n 13 i (omega arith) (not (full y m.to)), tt)),
    ),
  ),
  (other_moves n l ms (suc i) (pushed y m), tt),
)

-- a tree is refused with 7 by the calls that test the totals next, and exactly if the totals differ
pub seven : {A : Type 0} (y : Yard) → Tree y → (a : A) (fs : List (Option Fault)) → All (Other 7) fs → (answer (first_of (judge y ∷ totals_fault y ∷ fs)) a ≡ refused (row 7 0)) ↔ (¬ Matched y)
seven y t a fs o = (
  (λ e m. other_first 7 fs o 0 (rw (t, (totals_none y).1 m) at (answer_refused (first_of (judge y ∷ totals_fault y ∷ fs)) a (row 7 0) e))),
  λ d. rw (t, (totals_differ y).1 d),
)

-- the calls that begin with refusals 1 to 7
module _ (y : Yard) where
  pub matched_refused : {f : Fault} → judge y ≡ some f → matched_fault y ≡ some f
  unfolding matched_fault
  matched_refused e = rw e

  pub matched_totals : Tree y → (Matched y → ⊥) → matched_fault y ≡ fault 7 0
  unfolding matched_fault
  matched_totals t d = rw (t, (totals_differ y).1 d)

  pub matched_none : Tree y → Matched y → matched_fault y ≡ none
  unfolding matched_fault
  matched_none t m = rw (t, (totals_none y).1 m)

  pub matched_tree : matched_fault y ≡ none → Tree y × Matched y
  unfolding matched_fault
  matched_tree e = let a = none_all (matched_tests y) e in (a.0, (totals_none y).0 a.1.0)

  module _ (f : Fault) (e : matched_fault y ≡ some f) where
    pub plan_matched : (room : ℕ) → plan_fault y room ≡ some f
    unfolding matched_fault plan_fault
    plan_matched room = first_refused (matched_tests y) (drop 2 (plan_tests y room)) f e

    pub check_matched : (bs : List ℕ) → check_fault y bs ≡ some f
    unfolding matched_fault check_fault
    check_matched bs = first_refused (matched_tests y) (drop 2 (check_tests y bs)) f e

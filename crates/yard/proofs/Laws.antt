-- The tests of a move, and a push of four lists by them.
use mathlib.Core.Path.{◌≡◌, refl, sym, ◌∙◌}
use mathlib.Core.Bool.{Bool, true, false, not, cond, ◌&&◌}
use mathlib.Core.List.{List, [], ◌∷◌}
use mathlib.Core.Option.{Option, none, some}
use Prim.Native.Nat.{ℕ}
use native.Mathlib.Omega.{arith}
use lib.Dec.{ltb}
use borrow.Author.Tests.{lt-ltb}
use Rattle.model.specs.Yard.{Yard, yard_of, size, held, full}
use Rattle.model.specs.Judge.{Fault, fault, first_of, unless, judge, Tree}
use Rattle.model.specs.Push.{Move, adjacent, move_tests, move_fault, push_fault, is_none, legal, shifted, pushed_pebbles}
use Rattle.model.specs.Calls.Answers.{lent}
use Rattle.laws.proofs.Basics.{first_join}

-- whether a move meets none of its tests, as one question, in the order in which the code asks it
pub move_free : (y : Yard) (m : Move) (place : ℕ)
    → is_none (move_fault y m place) ≡ (((ltb m.from (size y)) && (ltb m.to (size y))) && ((held y m.from) && ((not (full y m.to)) && (adjacent y m.from m.to))))
unfolding move_fault
move_free y m place = go ((ltb m.from (size y)) && (ltb m.to (size y))) (adjacent y m.from m.to) (held y m.from) (not (full y m.to))
  where
    go : (a b c d : Bool) → is_none (first_of (unless a (fault 10 place) ∷ unless b (fault 11 place) ∷ unless c (fault 12 place) ∷ unless d (fault 13 place) ∷ [])) ≡ (a && (c && (d && b)))
    go true true true true = refl
    go true true true false = refl
    go true true false d = refl
    go true false true true = refl
    go true false true false = refl
    go true false false d = refl
    go false b c d = refl

-- a last test that something meets is met
pub last_met : (b : Bool) (n p : ℕ) → is_none (first_of (unless b (fault n p) ∷ [])) ≡ false → first_of (unless b (fault n p) ∷ []) ≡ fault n p
last_met true n p e = cc
last_met false n p e = refl

-- a node whose count is not 0 holds a pebble
pub holds : (n : ℕ) → (n ≡ 0 → ⊥) → ltb 0 n ≡ true
holds n h = lt-ltb 0 n (omega arith)

-- a push of lists that refusals 1 to 6 meet, and of lists that they do not: then the move's own tests, which read no targets, decide
pub push_refused : (y : Yard) (m : Move) {f : Fault} → judge y ≡ some f → push_fault y m ≡ some f
unfolding push_fault
push_refused y m e = rw e

push_tree : (ps qs ts ds : List ℕ) (m : Move) → judge (yard_of ps qs ts ds) ≡ none → push_fault (yard_of ps qs ts ds) m ≡ move_fault (yard_of ps qs [] ds) m 0
unfolding push_fault move_fault
push_tree ps qs ts ds m e = rw e (first_join (move_tests (yard_of ps qs ts ds) m 0) [])

-- and so a step with place 0 is a push
lent_cond : (f : Option Fault) (new old : List ℕ) → lent f new old ≡ cond (is_none f) new old
lent_cond none new old = refl
lent_cond (some f) new old = refl

pub step_push : (ps qs ts ds : List ℕ) (m : Move) → Tree (yard_of ps qs ts ds) → {a : Option Fault} {rs : List ℕ}
    → a ≡ move_fault (yard_of ps qs [] ds) m 0 → rs ≡ lent a (shifted qs m) qs → (a ≡ push_fault (yard_of ps qs ts ds) m) × (rs ≡ pushed_pebbles (yard_of ps qs ts ds) m)
unfolding legal
step_push ps qs ts ds m t e k =
    let f = e ∙ sym (push_tree ps qs ts ds m t) in
    (f, k ∙ rw f (lent_cond (push_fault (yard_of ps qs ts ds) m) (shifted qs m) qs))

-- One push, lists of pushes, and the edges (tracks) that they cross ('What the yard is', 'The words of demand 3').
use Rattle.std.specs.Prelude.{◌≡◌, Bool, true, false, not, cond, ◌&&◌, ◌||◌, List, [], ◌∷◌, ℕ, ◌+◌, ◌-◌, ◌<◌, get_or, set, ltb, eqb}
use Rattle.std.proofs.Math.Option.{Option, none, some}
use Rattle.model.specs.Yard.{Yard, size, parent, pebble, target, full, held, holding, one}
use Rattle.model.specs.Judge.{Fault, fault, first_of, unless, judge}

-- a move: from, to
pub record Move : Type 0 where
  pub from : ℕ
  pub to : ℕ

abbrev pub push : ℕ → ℕ → Move
push a b = record { from = a; to = b }

-- one is the other's parent, and they differ
abbrev pub adjacent : Yard → ℕ → ℕ → Bool
adjacent y a b = (not (eqb a b)) && ((eqb (parent y a) b) || (eqb (parent y b) a))

-- refusals 10 to 13, in their order, for the move at a place of a plan: it names no node; the nodes are not adjacent, or the same; the
-- first holds no pebble; the second has no place for one (2.10)
abbrev pub move_tests : Yard → Move → ℕ → List (Option Fault)
move_tests y m place =
    unless ((ltb m.from (size y)) && (ltb m.to (size y))) (fault 10 place)
    ∷ unless (adjacent y m.from m.to) (fault 11 place)
    ∷ unless (held y m.from) (fault 12 place)
    ∷ unless (not (full y m.to)) (fault 13 place)
    ∷ []

unfoldable pub move_fault : Yard → Move → ℕ → Option Fault
move_fault y m place = first_of (move_tests y m place)

-- a push gives refusals 1 to 6 (2 is met by no yard state), then 10 to 13 with place 0
unfoldable pub push_fault : Yard → Move → Option Fault
push_fault y m = first_of (judge y ∷ move_fault y m 0 ∷ [])

abbrev pub is_none : Option Fault → Bool
is_none none = true
is_none (some f) = false

unfoldable pub legal : Yard → Move → Bool
legal y m = is_none (push_fault y m)

-- one pebble less at the first node, one more at the second
unfoldable pub shifted : List ℕ → Move → List ℕ
shifted ps m = set (set ps m.from (get_or ps m.from 0 - 1)) m.to (get_or ps m.to 0 + 1)

-- what a push leaves in a list of pebbles: a refused one leaves it as it was
abbrev pub pushed_pebbles : Yard → Move → List ℕ
pushed_pebbles y m = cond (legal y m) (shifted y.pebbles m) y.pebbles

-- the yard after a legal push, and after any: a refused one gives back the yard unchanged
abbrev pub moved : Yard → Move → Yard
moved y m = holding y (shifted y.pebbles m)

abbrev pub pushed : Yard → Move → Yard
pushed y m = holding y (pushed_pebbles y m)

-- the pebbles, and the yard, after a list of pushes: each gets the yard that the one before gave back, after a refusal too
unfoldable pub after : Yard → List Move → List ℕ
after y [] = y.pebbles
after y (m ∷ ms) = after (pushed y m) ms

abbrev pub run : Yard → List Move → Yard
run y ms = holding y (after y ms)

-- the accepted pushes of a list
unfoldable pub accepted : Yard → List Move → List Move
accepted y [] = []
accepted y (m ∷ ms) = cond (legal y m) (m ∷ accepted (pushed y m) ms) (accepted (pushed y m) ms)

-- the pebbles lie on exactly the targets: each node holds as many pebbles as its target count (2.10)
abbrev pub Solved : Yard → Type 0
Solved y = (v : ℕ) → v < size y → pebble y v ≡ target y v

-- a move over the edge of v: towards the root, and away from it
abbrev pub is_up : Yard → ℕ → Move → Bool
is_up y v m = (eqb m.from v) && (eqb m.to (parent y v))

abbrev pub is_down : Yard → ℕ → Move → Bool
is_down y v m = (eqb m.from (parent y v)) && (eqb m.to v)

unfoldable pub count : (Move → Bool) → List Move → ℕ
count p [] = 0
count p (m ∷ ms) = one (p m) + count p ms

-- how often the accepted pushes of a list cross the edge of v, towards the root and away from it; a refused push crosses none
abbrev pub ups : Yard → List Move → ℕ → ℕ
ups y ms v = count (is_up y v) (accepted y ms)

abbrev pub downs : Yard → List Move → ℕ → ℕ
downs y ms v = count (is_down y v) (accepted y ms)

-- Request 2.11: what two pushers rely on who are handed the parts of a yard.
use Rattle.std.specs.Prelude.{◌≡◌, Bool, cond, ◌&&◌, ℕ, ◌<◌, length, get_or, ltb, eqb}
use mathlib.Core.List.{List, [], ◌∷◌, map, flatten}
use Rattle.model.specs.Yard.{Yard, yard_of, size, parent, pebble, target, capacity, below, Matched}
use Rattle.model.specs.Judge.{Tree}
use Rattle.model.specs.Push.{Move, push}
use Rattle.model.specs.Plan.{plan}
use Rattle.model.specs.Parts.{topmost, in_part, tops, part_yard, parts_plan}
use Rattle.model.specs.Calls.Answers.{answered}
use Rattle.model.specs.Calls.Plans.{bytes}
use Rattle.model.specs.Calls.Checks.{check_answer}

-- a move lies in a part if both its nodes do
abbrev pub lies_in : (ℕ → Bool) → Move → Bool
lies_in p m = (p m.from) && (p m.to)

-- It lies in some part: its nodes are in the same one. `to` needs no test of its own: a number that is no node has no pebble and no target beyond it, so it is
-- its own topmost node, and no node's.
abbrev pub lies_in_one : Yard → Move → Bool
lies_in_one y m = (ltb m.from (size y)) && (eqb (topmost y m.from) (topmost y m.to))

-- the moves that pass a test, all others struck
unfoldable pub kept : (Move → Bool) → List Move → List Move
kept p [] = []
kept p (m ∷ ms) = cond (p m) (m ∷ kept p ms) (kept p ms)

-- t names a part: it is the topmost node of its own
pub record Top (y : Yard) (t : ℕ) : Type 0 where
  pub lt : t < size y
  pub own : topmost y t ≡ t

-- a mingling of the parts' plans that keeps each in order: every move lies in a part, and with all moves outside a part struck that part's plan is left
pub record Mingling (y : Yard) (ms : List Move) : Type 0 where
  pub lie : kept (lies_in_one y) ms ≡ ms
  pub parts : (t : ℕ) → Top y t → kept (lies_in (in_part y t)) ms ≡ plan (part_yard y t)

-- a list of moves under other numbers: of the node i it says the entry i of a list
abbrev pub renamed : List ℕ → List Move → List Move
renamed ns ms = map (λ m. push (get_or ns m.from 0) (get_or ns m.to 0)) ms

-- the nodes of the part named t in rising number, and the new number of a node: how many of them have a lower one
abbrev pub nodes_of : Yard → ℕ → List ℕ
nodes_of y t = below (size y) (in_part y t)

abbrev pub numbered : Yard → ℕ → ℕ → ℕ
numbered y t v = length (below v (in_part y t))

-- the part taken out of the yard, its nodes numbered anew: each with its parent, but the topmost node is its own, and with its pebbles, targets and depth
abbrev pub taken_out : Yard → ℕ → Yard
taken_out y t = yard_of
    (map (λ v. numbered y t (cond (eqb v t) v (parent y v))) (nodes_of y t))
    (map (pebble y) (nodes_of y t))
    (map (target y) (nodes_of y t))
    (map (capacity y) (nodes_of y t))

-- of every tree with as many pebbles as targets
pub record TwoPushers (y : Yard) : Type 0 where
  -- each part has as many pebbles as targets, and the parts' plans together are as long as the plan
  pub matched : (t : ℕ) → Matched (part_yard y t)
  pub as_long : length (parts_plan y) ≡ length (plan y)
  -- a part taken out is a yard of its own, a tree with as many pebbles as targets, and its plan, under the yard's numbers, is the part's plan
  pub taken : (t : ℕ) → Top y t → Tree (taken_out y t) × Matched (taken_out y t) × (renamed (nodes_of y t) (plan (taken_out y t)) ≡ plan (part_yard y t))
  -- so the call's sheet is, part by part, the plans of the parts taken out
  pub sheet : parts_plan y ≡ flatten (map (λ t. renamed (nodes_of y t) (plan (taken_out y t))) (tops y))
  -- with all moves outside a part struck, the planner's sheet is that part's plan
  pub struck : (t : ℕ) → kept (lies_in (in_part y t)) (plan y) ≡ plan (part_yard y t)
  -- every mingling is accepted by the checker with no excess (spare), and the call's own sheet is one
  pub mingled : (ms : List Move) → Mingling y ms → check_answer y (bytes ms) ≡ answered (record { moves = length (plan y); excess = 0 })
  pub own : Mingling y (parts_plan y)

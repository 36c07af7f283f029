-- Request 2.13, every good opening: the moves with which some shortest plan starts, told by the demands alone. That they are those moves, and no others, is a theorem
-- (`EveryOpening`).
use Rattle.std.specs.Prelude.{Bool, ◌&&◌, ◌||◌, ℕ, ltb}
use mathlib.Core.List.{List, map, flatten}
use Rattle.model.specs.Yard.{Yard, size, below, lacking, surplus}
use Rattle.model.specs.Push.{Move, push, legal, is_up, is_down}
use Rattle.model.specs.Calls.Answers.{range}

-- a move goes over its edge (track) the way that the edge's demand wants: up out of a subtree with too many pebbles, or down into one that lacks some
abbrev pub wants : Yard → Move → Bool
wants y m = ((is_up y m.from m) && (ltb 0 (surplus y m.from))) || ((is_down y m.to m) && (ltb 0 (lacking y m.to)))

-- an opening: a legal move so
unfoldable pub opening : Yard → Move → Bool
opening y m = (legal y m) && (wants y m)

-- those that start from one node, in rising number of the node that they go to
abbrev pub openings_from : Yard → ℕ → List Move
openings_from y a = map (push a) (below (size y) (λ b. opening y (push a b)))

-- all of them, ordered by from and then to
unfoldable pub openings : Yard → List Move
openings y = flatten (map (openings_from y) (range 0 (size y)))

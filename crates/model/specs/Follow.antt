-- Pebbles followed from their starts ('The words of demand 3'; requests 2.4 and 2.10): an accepted push takes one pebble that stands at its
-- first node to the second, and every other stays.
use Rattle.std.specs.Prelude.{◌≡◌, true, cond, List, [], ◌∷◌, ◌++◌, ℕ, zero, suc, ◌+◌, ◌≤◌, ◌<◌, length, get_or, set, replicate, ltb, eqb}
use Rattle.model.specs.Yard.{Yard, size, pebble, one, sum, below}
use Rattle.model.specs.Push.{Move, is_up, is_down, count}
use Rattle.model.specs.Plan.{plan}

-- where each pebble stands: at the start the nodes in rising number, each as often as it holds pebbles
unfoldable pub placed : ℕ → (ℕ → ℕ) → List ℕ
placed zero f = []
placed (suc n) f = placed n f ++ replicate (f n) n

abbrev pub starts : Yard → List ℕ
starts y = placed (size y) (pebble y)

-- how often a number occurs in a list: the pebbles that stand at a node, the moves that a pebble takes part in
unfoldable pub occurs : ℕ → List ℕ → ℕ
occurs v [] = 0
occurs v (p ∷ ps) = one (eqb v p) + occurs v ps

-- pebble i stands at a
abbrev pub At : List ℕ → ℕ → ℕ → Type 0
At ps i a = (i < length ps) × (get_or ps i 0 ≡ a)

-- moves followed from some positions to others, with the pebble that each takes: one that stands at the move's first node, whichever
pub data Follows : List ℕ → List Move → List ℕ → List ℕ → Type 0 where
  done : {ps : List ℕ} → Follows ps [] [] ps
  next : {ps qs is : List ℕ} {m : Move} {ms : List Move} {i : ℕ} → At ps i m.from → Follows (set ps i m.to) ms is qs → Follows ps (m ∷ ms) (i ∷ is) qs

-- the moves in which pebble i takes part
unfoldable pub route : ℕ → List Move → List ℕ → List Move
route i [] js = []
route i (m ∷ ms) [] = []
route i (m ∷ ms) (j ∷ js) = cond (eqb i j) (m ∷ route i ms js) (route i ms js)

-- how often moves cross the edge of v, either way
abbrev pub crossings : Yard → List Move → ℕ → ℕ
crossings y ms v = count (is_up y v) ms + count (is_down y v) ms

-- when pebble i came to where it stands: the number of the last move that took it, from 1, or 0 if none did. The pebbles that moves have taken so far are in a
-- list, the last in front
unfoldable pub came : ℕ → List ℕ → ℕ
came i [] = 0
came i (j ∷ js) = cond (eqb i j) (length (j ∷ js)) (came i js)

-- request 2.10: each move takes a pebble than which none at its first node came later
pub data LastFirst : List ℕ → List ℕ → List Move → List ℕ → Type 0 where
  done : {taken ps : List ℕ} → LastFirst taken ps [] []
  next : {taken ps is : List ℕ} {m : Move} {ms : List Move} {i : ℕ} → ((j : ℕ) → At ps j m.from → came j taken ≤ came i taken)
      → LastFirst (i ∷ taken) (set ps i m.to) ms is → LastFirst taken ps (m ∷ ms) (i ∷ is)

-- such a way, computed: each move takes the first that stands there in a list of all pebbles, the last that moved in front (where it stood before stays behind)
unfoldable pub first_at : List ℕ → ℕ → List ℕ → ℕ
first_at ps a [] = 0
first_at ps a (i ∷ is) = cond (eqb (get_or ps i 0) a) i (first_at ps a is)

unfoldable pub last_in : List ℕ → List ℕ → List Move → List ℕ
last_in order ps [] = []
last_in order ps (m ∷ ms) = let i = first_at ps m.from order in i ∷ last_in (i ∷ order) (set ps i m.to) ms

abbrev pub lifo : Yard → List Move → List ℕ
lifo y ms = last_in (below (length (starts y)) (λ _. true)) (starts y) ms

-- how many pebbles take part in at least one move, given the pebble that each move takes
abbrev pub movers : Yard → List ℕ → ℕ
movers y is = sum (length (starts y)) (λ i. one (ltb 0 (occurs i is)))

-- requests 2.4 and 2.10: displaced (disturbed) are the pebbles, each followed from its starting node, that take part in a move of the plan, the last in first
unfoldable pub displaced : Yard → ℕ
displaced y = movers y (lifo y (plan y))

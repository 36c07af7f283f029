-- Request 2.13: what the openings are, said by plans alone.
use Rattle.std.specs.Prelude.{◌≡◌, List, [], ◌∷◌, ◌++◌, ◌↔◌, ◌⊎◌, ◌+◌, ◌≤◌, ◌<◌, length}
use Rattle.model.specs.Yard.{Yard, shortest}
use Rattle.model.specs.Push.{Move, run, accepted, Solved}
use Rattle.model.specs.Plan.{plan}

-- a shortest plan: each move is accepted, at the end the pebbles lie on exactly the targets, and no such list has fewer moves
pub record ShortestPlan (y : Yard) (ms : List Move) : Type 0 where
  pub obeyed : accepted y ms ≡ ms
  pub solves : Solved (run y ms)
  pub least : (ps : List Move) → accepted y ps ≡ ps → Solved (run y ps) → length ms ≤ length ps

-- some shortest plan starts with m
abbrev pub Opens : Yard → Move → Type 0
Opens y m = (ps : List Move) × ShortestPlan y (m ∷ ps)

-- x is an entry of a list
abbrev pub Listed : {A : Type 0} → A → List A → Type 0
Listed x [] = ⊥
Listed x (z ∷ zs) = (x ≡ z) ⊎ Listed x zs

-- each entry of a list comes, by R, before all behind it
abbrev pub Sorted : {A : Type 0} → (A → A → Type 0) → List A → Type 0
Sorted R [] = Unit {0}
Sorted {A} R (x ∷ xs) = ((z : A) → Listed z xs → R x z) × Sorted R xs

-- by from and then to
abbrev pub Before : Move → Move → Type 0
Before m n = (m.from < n.from) ⊎ ((m.from ≡ n.from) × (m.to < n.to))

-- of a list of moves, on a tree with as many pebbles as targets
pub record EveryOpening (y : Yard) (ms : List Move) : Type 0 where
  -- every move with which some shortest plan starts, and nothing else, in order, each once
  pub all : (m : Move) → Listed m ms ↔ Opens y m
  pub ordered : Sorted Before ms
  pub once : (ns ps : List Move) (m : Move) → ms ≡ ns ++ m ∷ ps → (¬ Listed m ns) × (¬ Listed m ps)
  -- obeying any of them leaves a yard whose shortest length is one less
  pub nearer : (m : Move) → Listed m ms → shortest y ≡ shortest (run y (m ∷ [])) + 1
  -- the planner's own first move is one, and there is none exactly if the yard is solved
  pub planned : (m : Move) (ps : List Move) → plan y ≡ m ∷ ps → Listed m ms
  pub none : (ms ≡ []) ↔ Solved y

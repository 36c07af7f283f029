-- Demand 3, as one statement about every yard, every lent list and every list of pushes.
use Rattle.std.specs.Prelude.{◌≡◌, List, ◌↔◌, ℕ, ◌*◌, ◌≤◌, ◌<◌, length, take}
use Rattle.model.specs.Yard.{Yard, size, lacking, surplus, Matched}
use Rattle.model.specs.Judge.{row, Tree}
use Rattle.model.specs.Push.{Move, run, accepted, Solved, ups, downs}
use Rattle.model.specs.Plan.{plan}
use Rattle.model.specs.Follow.{starts, Follows, route, crossings}
use Rattle.model.specs.Calls.Answers.{Answer, answered, refused}
use Rattle.model.specs.Calls.Plans.{moves_of}

-- no move of ms, obeyed from y, is spare
pub record Optimal (y : Yard) (ms : List Move) : Type 0 where
  -- each is accepted, and at the end each node holds as many pebbles as its target count
  pub obeyed : accepted y ms ≡ ms
  pub solves : Solved (run y ms)
  -- they cross the edge of v away from the root as often as its subtree lacks pebbles at the start, towards it as often as it has too many
  pub crossed : (v : ℕ) → v < size y → (downs y ms v ≡ lacking y v) × (ups y ms v ≡ surplus y v)
  -- no list of pushes that solves the yard has fewer accepted ones
  pub least : (ps : List Move) → Solved (run y ps) → length ms ≤ length (accepted y ps)
  -- every list of pushes can be followed; and in one that solves the yard with just as many no pebble crosses an edge twice, whichever of a
  -- node's pebbles is taken
  pub followed : (ps : List Move) → (is : List ℕ) × (qs : List ℕ) × Follows (starts y) (accepted y ps) is qs
  pub simple : (ps : List Move) → Solved (run y ps) → length (accepted y ps) ≡ length ms
      → {is qs : List ℕ} → Follows (starts y) (accepted y ps) is qs → (i v : ℕ) → v < size y → crossings y (route i (accepted y ps) is) v ≤ 1

-- of what the planner answers for the yard y and a lent list that held `before` and then holds `after`
pub record Demand3 (y : Yard) (before : List ℕ) (answer : Answer ℕ) (after : List ℕ) : Type 0 where
  -- it accepts exactly the trees with as many pebbles as targets, given a list with two bytes for each move of the plan
  pub accepts : ((m : ℕ) × (answer ≡ answered m)) ↔ (Tree y × Matched y × (2 * length (plan y) ≤ length before))
  -- no move that it wrote is spare, and they are as many as it answers
  pub planned : (m : ℕ) → answer ≡ answered m → (length (moves_of (take (2 * m) after)) ≡ m) × Optimal y (moves_of (take (2 * m) after))
  -- it refuses a tree as having no plan exactly if no list of pushes solves it
  pub no_plan : Tree y → (answer ≡ refused (row 7 0)) ↔ ((ps : List Move) → ¬ Solved (run y ps))

-- Demand 2: what the planner gives and what the checker accepts, on every tree with as many pebbles as targets.
use Rattle.std.specs.Prelude.{◌≡◌, List, [], ◌∷◌, ◌≢◌, ◌↔◌, ◌⊎◌, ℕ, ◌+◌, ◌-◌, ◌*◌, ◌≤◌, ◌<◌, length, get_or, set, take}
use Rattle.model.specs.Yard.{Yard, up, Matched}
use Rattle.model.specs.Judge.{Tree}
use Rattle.model.specs.Push.{Move, push}
use Rattle.model.specs.Plan.{choice, plan}
use Rattle.model.specs.Calls.Answers.{Answer, answered}
use Rattle.model.specs.Calls.Plans.{bytes, moves_of, plan_answer, plan_list}
use Rattle.model.specs.Calls.Checks.{Verdict, check_answer}
use Rattle.laws.specs.Algorithms.{Plans}
use Rattle.laws.specs.Choice.{Needy, Neediest}

-- each of a list of moves takes one pebble to an adjacent node with a place, and together they turn some counts into others: of two different nodes
-- of the yard one is the parent of the other, the first holds a pebble and the second fewer than its depth, and the counts follow
pub data Carries (parents depths : List ℕ) : List ℕ → List Move → List ℕ → Type 0 where
  done : {counts : List ℕ} → Carries parents depths counts [] counts
  next : {counts end : List ℕ} {a b : ℕ} {ms : List Move}
      → a < length parents
      → b < length parents
      → (up parents a ≡ b) ⊎ (up parents b ≡ a)
      → a ≢ b
      → 0 < get_or counts a 0
      → get_or counts b 0 < get_or depths b 0
      → Carries parents depths (set (set counts a (get_or counts a 0 - 1)) b (get_or counts b 0 + 1)) ms end
      → Carries parents depths counts (push a b ∷ ms) end

-- the planner's half, of what it answers for the yard y and a lent list that held `before` and then holds `after`: on a tree with as many pebbles as targets Algorithms 1
-- to 4 output one list of moves, and where the lent list is long enough it is written at its front and its length answered
pub record OnePlan (y : Yard) (before : List ℕ) (answer : Answer ℕ) (after : List ℕ) : Type 0 where
  pub moves : List Move
  pub outputs : Plans y moves
  pub only : (ms : List Move) → Plans y ms → ms ≡ moves
  pub written : 2 * length moves ≤ length before → (answer ≡ answered (length moves)) × (take (2 * length moves) after ≡ bytes moves)

abbrev pub PlannerExact : Yard → List ℕ → Answer ℕ → List ℕ → Type 0
PlannerExact y before answer after = Tree y → Matched y → OnePlan y before answer after

-- the checker's half, where `accepts` says that it accepts the bytes bs for the yard y: on a tree with as many pebbles as targets it accepts at most 131,072 whole moves exactly
-- if each carries a pebble and they end on exactly the targets
abbrev pub CheckerExact : Yard → List ℕ → Type 0 → Type 0
CheckerExact y bs accepts =
    Tree y → Matched y → (m : ℕ) → length bs ≡ 2 * m → m ≤ 131_072 → accepts ↔ Carries y.parents y.depths y.pebbles (moves_of bs) y.targets

abbrev pub Accepts : Answer Verdict → Type 0
Accepts answer = (v : Verdict) × (answer ≡ answered v)

pub record Demand2 (y : Yard) : Type 0 where
  -- the plan, which is computed with bounds, is what Algorithms 1 to 4 output without any, and nothing else is
  pub outputs : Tree y → Matched y → Plans y (plan y)
  pub only : Tree y → Matched y → (ms : List Move) → Plans y ms → ms ≡ plan y
  -- wherever they pick a child, some child having a demand of the sign wanted, it is the one whose demand is farthest from 0, the lowest-numbered among equals (request 2.6)
  pub picks : (need : ℕ → ℕ) (u c : ℕ) → Needy need y u c → Neediest need y u (choice need y u)
  -- the planner gives it, and the checker is exact
  pub planner : (list : List ℕ) → PlannerExact y list (plan_answer y list) (plan_list y list)
  pub checker : (bs : List ℕ) → CheckerExact y bs (Accepts (check_answer y bs))

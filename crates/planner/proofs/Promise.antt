-- Demands 2 and 3 of a call that answers and leaves what the model says.
use mathlib.Core.Path.{◌≡◌}
use mathlib.Core.List.{List}
use Prim.Native.Nat.{ℕ}
use Rattle.model.specs.Yard.{Yard}
use Rattle.model.specs.Calls.Answers.{Answer}
use Rattle.model.specs.Calls.Plans.{plan_answer, plan_list}
use Rattle.laws.proofs.Demand2.{planner_exact_of}
use Rattle.laws.proofs.Demand3.{demand_3}
use Rattle.laws.specs.Demand2.{PlannerExact}
use Rattle.laws.specs.Demand3.{Demand3}

-- what the call's contract says of its answer and of the list that it leaves
abbrev Promises : (y : Yard) (before after : List ℕ) → Answer ℕ → Type 0
Promises y before after a = (a ≡ plan_answer y before) × ((after ≡ plan_list y before) × (PlannerExact y before a after × Demand3 y before a after))

pub promises : (y : Yard) (before after : List ℕ) (a : Answer ℕ) → a ≡ plan_answer y before → after ≡ plan_list y before → Promises y before after a
promises y before after a e f = (e, (f, (planner_exact_of y before after a e f, rw (e, f) (demand_3 y before))))

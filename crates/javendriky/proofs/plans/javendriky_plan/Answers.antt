-- `javendriky_plan` answers and leaves what `plan` does; its answer is small, so the number tells it, and demands 2 and 3 hold of what it
-- tells.
use mathlib.Core.Path.{ap, ◌∙◌}
use Rattle.model.specs.Calls.Answers.{in_c}
use Rattle.laws.proofs.Places.{plan_small, tells}
use Rattle.javendriky.proofs.plans.javendriky_plan.Goals as goal

pub counted-requires : goal.counted-requires
counted-requires c = rw c.plan.ensures.result_value (plan_small _ _)

pub returns : goal.returns
returns c =
    let e = c.plan.ensures in
    let n = c.counted.ensures ∙ ap in_c e.result_value in
    record {
      value = n;
      plan_value = e.list_value;
      planner_exact = rw (n, tells _ (plan_small _ _)) (rw e.result_value at e.planner_exact);
      demand3 = rw (n, tells _ (plan_small _ _)) (rw e.result_value at e.demand3);
    }

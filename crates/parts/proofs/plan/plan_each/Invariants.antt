-- `parts::plan::plan_each` meets its contract: after some nodes the moves so far are the plans of the parts whose topmost nodes are among
-- them (the laws are in Planning).
use Rattle.model.specs.Yard.{Yard}
use Rattle.parts.specs.Planning.{AskedParts}
use Rattle.parts.proofs.Planning.{Before}
use Rattle.parts.proofs.plan.plan_each.Given as goal

abbrev pub invariant-loop-v : goal.invariant-loop-v
invariant-loop-v l = (y : Yard) → AskedParts y l.t l.initial.s l.initial.plan l.parts → Before y l.s l.initial.plan l.plan l.k l.v

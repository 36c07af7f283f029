-- `parts::name::name_parts` meets its contract: cut at the edges of demand 0, the list leads up each part; then node by node is named (the
-- laws are in Naming).
use Rattle.model.specs.Yard.{Yard}
use Rattle.parts.specs.Naming.{Leads}
use Rattle.parts.proofs.Naming.{Names}
use Rattle.parts.proofs.name.name_parts.Given as goal

abbrev pub invariant-loop-v : goal.invariant-loop-v
invariant-loop-v l = (y : Yard) → Leads y l.initial.parts → Names y l.parts l.v

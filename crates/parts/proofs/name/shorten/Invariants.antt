-- `parts::name::shorten` meets its contract: each turn lets one node more lead to the topmost node of its part, and goes on to where it led
-- before (the laws are in Naming).
use Rattle.model.specs.Yard.{Yard}
use Rattle.parts.specs.Naming.{AskedShort}
use Rattle.parts.proofs.Naming.{Shortening}
use Rattle.parts.proofs.name.shorten.Given as goal

abbrev pub invariant-loop : goal.invariant-loop
invariant-loop l = (y : Yard) → AskedShort y l.initial.parts l.v l.top l.steps → Shortening y l.initial.parts l.v l.parts l.u l.counter

-- `parts::name::shorten` meets its contract: each turn lets one node more lead to the topmost node of its part, and goes on to where it led
-- before (the laws are in Naming).
use native.Mathlib.Omega.{arith}
use Rattle.parts.proofs.Naming.{top_small, short_next, short_last}
use Rattle.parts.proofs.name.shorten.Goals as goal

pub overflow_cast-parts : goal.overflow_cast-parts
overflow_cast-parts c = omega (arith, top_small c.requires.1)

pub loop-preserved : goal.loop-preserved
loop-preserved c y a = short_next a (c.loop.invariant y a)

pub returns : goal.returns
returns c y a = short_last a (c.loop.invariant y a) c.loop-test.false

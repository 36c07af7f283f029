-- `lowest_edge`: no entry before has so many, so the first one met is the lowest, and past the end there is none.
use native.Mathlib.Omega.{arith}
use borrow.Author.Tests.{eq-eqb}
use Rattle.laws.proofs.Found.{found, missed}
use Rattle.wear.proofs.count.lowest_edge.Goals as goal

pub returns-then-counts-v : goal.returns-then-counts-v
returns-then-counts-v c = found _ _ _ _ c.loop-v-test.true c.loop-v.invariant (eq-eqb _ _ c.if-counts-v.true)

pub returns : goal.returns
returns c = missed _ _ _ (λ u l. c.loop-v.invariant u (omega arith))

-- `farthest_below`: after i turns the number is the most of the first i entries.
use native.Mathlib.Omega.{arith}
use native.Mathlib.Numerals.{add-one}
use borrow.Author.Rules.{rules}
use Rattle.model.specs.Yard as Yard
use Rattle.lists.proofs.Larger.{max_is}
use Rattle.lists.proofs.find.farthest_below.Goals as goal

pub loop-i-init : goal.loop-i-init
unfolding Yard.most
loop-i-init c = search rules

pub loop-i-preserved : goal.loop-i-preserved
unfolding Yard.most
loop-i-preserved c = rw add-one (omega (arith, max_is c.loop-i.most c.saturating_sub-far.result))

-- `total` is the sum: after i turns the count is the sum of the first i entries.
use borrow.Author.Rules.{rules}
use native.Mathlib.Omega.{arith}
use native.Mathlib.Numerals.{add-one}
use Rattle.model.specs.Yard.{sum}
use Rattle.lists.proofs.total.total.Goals as goal

pub loop-x-init : goal.loop-x-init
unfolding sum
loop-x-init c = search rules

pub loop-x-preserved : goal.loop-x-preserved
unfolding sum
loop-x-preserved c = (rw add-one (omega arith), omega arith)

-- `greatest`: after i turns the number is the most of the first i entries.
use native.Mathlib.Omega.{arith}
use native.Mathlib.Numerals.{add-one}
use borrow.Author.Rules.{rules}
use lib.ListN.{get_or}
use Rattle.model.specs.Yard as Yard
use Rattle.lists.proofs.Larger.{max_is}
use Rattle.lists.proofs.find.greatest.Goals as goal

pub loop-x-init : goal.loop-x-init
unfolding Yard.most
loop-x-init c = search rules

pub loop-x-preserved : goal.loop-x-preserved
unfolding Yard.most
loop-x-preserved c = rw add-one (omega (arith, max_is c.loop-x.most (get_or c.args.list.now c.loop-x.x-index 0)))

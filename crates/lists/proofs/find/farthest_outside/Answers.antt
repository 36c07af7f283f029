-- `farthest_outside`: after i turns the number is the most of the first i entries.
use native.Mathlib.Omega.{arith}
use native.Mathlib.Numerals.{add-one}
use borrow.Author.Rules.{rules}
use Prim.Native.Nat.{◌-◌}
use lib.ListN.{get_or}
use Rattle.model.specs.Yard as Yard
use Rattle.lists.proofs.Larger.{max_is}
use Rattle.lists.proofs.find.farthest_outside.Goals as goal

pub loop-x-init : goal.loop-x-init
unfolding Yard.most
loop-x-init c = search rules

pub loop-x-preserved : goal.loop-x-preserved
unfolding Yard.most
loop-x-preserved c = rw add-one (omega (arith, max_is c.loop-x.most c.max-far.result, max_is (c.args.low - get_or c.args.list.now c.loop-x.x-index 0) (get_or c.args.list.now c.loop-x.x-index 0 - c.args.high)))

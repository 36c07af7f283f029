-- `from_lists` is refused as its lists are, and then gives a fresh state. Lists that are not refused are a tree's: all as long as the first,
-- and at most 256 entries long, so that they fit the arrays.
use mathlib.Core.Path.{sym}
use native.Mathlib.Omega.{arith}
use Rattle.laws.proofs.Judged.{facts}
use Rattle.laws.proofs.Calls.{sees}
use Rattle.yard.proofs.States.{made}
use Rattle.yard.proofs.state.Yard.from_lists.Goals as goal

pub padded-requires : goal.padded-requires
padded-requires c = (facts _ (sees c.test_yard-answer.ensures c.in_default.is)).few.1

pub padded-requires-2 : goal.padded-requires-2
padded-requires-2 c = let f = facts _ (sees c.test_yard-answer.ensures c.in_default.is) in omega (arith, f.few, f.pebbles_size)

pub padded-requires-3 : goal.padded-requires-3
padded-requires-3 c = let f = facts _ (sees c.test_yard-answer.ensures c.in_default.is) in omega (arith, f.few, f.targets_size)

pub padded-requires-4 : goal.padded-requires-4
padded-requires-4 c = let f = facts _ (sees c.test_yard-answer.ensures c.in_default.is) in omega (arith, f.few, f.depths_size)

pub returns : goal.returns
returns c =
    let e = sees c.test_yard-answer.ensures c.in_default.is in
    let m = made _ e c.padded.ensures c.padded-2.ensures c.padded-3.ensures c.padded-4.ensures in
    record { answer_value = sym e; yard_value = rw e m.0; yard_value_2 = rw e m.1 }

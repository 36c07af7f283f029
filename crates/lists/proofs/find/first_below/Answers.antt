-- `first_below`: if no entry is any way below, none is; else the first one met is the lowest, and past the end there is none.
use Prim.Native.Nat.{◌-◌}
use native.Mathlib.Omega.{arith}
use lib.ListN.{get_or}
use borrow.Author.Tests.{lt-ltb, le-ltb}
use Rattle.laws.proofs.Sums.{most_le}
use Rattle.lists.proofs.Found.{some_found, none_found}
use Rattle.lists.proofs.find.first_below.Goals as goal

pub returns-then-farthest_below-eq0 : goal.returns-then-farthest_below-eq0
returns-then-farthest_below-eq0 c =
    let a = c.args in
    none_found _ _ (λ v l. le-ltb (get_or a.list.now v 0) (get_or a.other.now v 0) (omega (arith, c.farthest_below.ensures, c.if-farthest_below-eq0.true, most_le (λ w. get_or a.other.now w 0 - get_or a.list.now w 0) _ v l)))

pub returns-then-x-other : goal.returns-then-x-other
returns-then-x-other c = some_found _ _ _ (omega arith) c.loop-i.invariant (lt-ltb _ _ c.if-x-other.true)

pub returns : goal.returns
returns c = none_found _ _ (λ v l. c.loop-i.invariant v (omega arith))

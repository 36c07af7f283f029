-- `first_at_least`: if the greatest entry is below the limit, each is; else the first one met is the lowest, and past the end there is none.
use native.Mathlib.Omega.{arith}
use lib.ListN.{get_or}
use borrow.Author.Tests.{lt-leb, le-leb}
use Rattle.laws.proofs.Sums.{most_le}
use Rattle.lists.proofs.Found.{some_found, none_found}
use Rattle.lists.proofs.find.first_at_least.Goals as goal

pub returns-then-greatest-limit : goal.returns-then-greatest-limit
returns-then-greatest-limit c =
    let a = c.args in
    none_found _ _ (λ v l. lt-leb a.limit (get_or a.list.now v 0) (omega (arith, c.greatest.ensures, most_le (λ w. get_or a.list.now w 0) _ v l, c.if-greatest-limit.true)))

pub returns-then-x-limit : goal.returns-then-x-limit
returns-then-x-limit c = some_found _ _ _ (omega arith) c.loop-i.invariant (le-leb c.args.limit (get_or c.args.list.now c.loop-i.i 0) (omega arith))

pub returns : goal.returns
returns c = none_found _ _ (λ v l. c.loop-i.invariant v (omega arith))

-- `first_own`: no index before it, from `start` on, is its own entry, so the first one met is the lowest, and past
-- the end there is none.
use Prim.Native.Nat.{ℕ, ◌≤◌}
use mathlib.Core.Path.{◌≡◌}
use mathlib.Core.Bool.{true}
use mathlib.Core.List.{List}
use native.Mathlib.Omega.{arith}
use lib.ListN.{get_or}
use borrow.Author.Tests.{eq-eqb, le-leb}
use Rattle.lists.proofs.Found.{some_found, none_found}
use Rattle.lists.proofs.find.first_own.Invariants.{own}
use Rattle.lists.proofs.find.first_own.Goals as goal

own_is : (list : List ℕ) (start v : ℕ) → start ≤ v → get_or list v 0 ≡ v → own list start v ≡ true
own_is list start v l e = rw (le-leb start v l, eq-eqb (get_or list v 0) v e)

pub returns-then-list-i : goal.returns-then-list-i
returns-then-list-i c = some_found _ _ _ (omega arith) c.loop-i.invariant.1 (own_is c.args.list.now c.args.start c.loop-i.i c.loop-i.invariant.0 c.if-list-i.true)

pub returns : goal.returns
returns c = none_found _ _ (λ v l. c.loop-i.invariant.1 v (omega arith))

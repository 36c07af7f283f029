-- The loop's invariant: no more than the list is filled.
use Prim.Native.Nat.{◌≤◌}
use lib.ListN.{length}
use Rattle.cases.proofs.lists.read_items.Given as goal

abbrev pub invariant-loop-item : goal.invariant-loop-item
invariant-loop-item l = l.n ≤ length l.list

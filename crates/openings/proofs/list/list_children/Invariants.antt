-- `list_children`: from child to child, each opening is written behind those before (the laws are in Listing).
use Prim.Native.Nat.{ℕ}
use Rattle.model.specs.Yard.{Yard}
use Rattle.serve.proofs.Siblings.{ahead}
use Rattle.openings.specs.Listing.{AskedChildren}
use Rattle.openings.proofs.Listing.{Walking}
use Rattle.openings.proofs.list.list_children.Given as goal

abbrev pub invariant-loop-c : goal.invariant-loop-c
invariant-loop-c l = (y : Yard) (i : ℕ) → AskedChildren y l.t l.initial.list l.a i l.from l.end l.count → Walking y l.list l.a l.c l.end l.k

abbrev pub decreases-loop-c : goal.decreases-loop-c
decreases-loop-c l = ahead l.a l.c

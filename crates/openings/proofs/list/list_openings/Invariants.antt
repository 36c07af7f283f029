-- `list_openings`: after each node the openings from the nodes so far are listed (the laws are in Listing).
use Rattle.model.specs.Yard.{Yard}
use Rattle.model.specs.Openings.{openings_from}
use Rattle.laws.proofs.Ranges.{collect}
use Rattle.openings.specs.Listing.{Holds, AskedAll}
use Rattle.openings.proofs.list.list_openings.Given as goal

abbrev pub invariant-loop-a : goal.invariant-loop-a
invariant-loop-a l =
    (y : Yard) → AskedAll y l.t l.parents l.initial.list l.n → Holds (collect l.a (openings_from y)) l.list l.k

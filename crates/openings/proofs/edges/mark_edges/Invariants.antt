-- `mark_edges`: from the highest node down each edge is marked by its demand and counts, which tell its opening, and linked if one comes
-- down (the laws are in Marking).
use Rattle.model.specs.Given.{listed}
use Rattle.openings.specs.Listing.{Marked}
use Rattle.openings.proofs.edges.mark_edges.Given as goal

abbrev pub invariant-loop-v : goal.invariant-loop-v
invariant-loop-v l = Marked l.v (listed l.yard) l.t

-- `list_openings`: after each node the openings from the nodes so far are listed (the laws are in Listing).
use native.Mathlib.Omega.{arith}
use Rattle.openings.proofs.Listing.{list_none, list_whole}
use Rattle.openings.proofs.list.list_openings.Goals as goal

pub loop-a-init : goal.loop-a-init
loop-a-init c = λ y h. list_none h

pub returns : goal.returns
returns c y h = list_whole h (omega (arith, c.loop-a-test.false, c.loop-a.auto)) (c.loop-a.invariant y h)

-- `distance::look::nearest_of` meets its contract (the laws are in Pebbles).
use mathlib.Core.Path.{refl}
use native.Mathlib.Omega.{arith}
use Rattle.distance.proofs.Pebbles.{as_many, least_none, is_one, least_first}
use Rattle.distance.proofs.look.nearest_of.Goals as goal

pub least-requires : goal.least-requires
least-requires c = omega (arith, as_many c.requires.1.1)

pub returns-in_default : goal.returns-in_default
returns-in_default c y a q = rw (least_none q c.in_default.ensures.value refl)

pub first_within-requires : goal.first_within-requires
first_within-requires c = omega (arith, as_many c.requires.1.1)

pub unwrap-node-requires : goal.unwrap-node-requires
unwrap-node-requires c =
    let some = c.in-Some.ensures in is_one c.requires.1.1 some.value (λ e. omega (arith, e, some.known)) c.first_within.result c.first_within.ensures

pub returns : goal.returns
returns c y a q =
    let some = c.in-Some.ensures in
    least_first q some.value (λ e. omega (arith, e, some.known)) (λ k. rw c.unwrap-node.ensures at (c.first_within.ensures k))

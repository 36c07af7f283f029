-- `count_crossings` has counted, before each turn, the crossings of the moves that were taken.
use mathlib.Core.Path.{◌∙◌}
use native.Mathlib.Omega.{arith}
use Rattle.checks.proofs.Counting.{nodes, few, counting_none, counting_next, counting_end}
use Rattle.checks.proofs.crossings.count_crossings.Goals as goal

pub loop-pair-init : goal.loop-pair-init
loop-pair-init c =
    let e = c.chunks_exact-pair-items.ensures in
    rw (c.into_iter-pair-iterator.ensures.into_iter_gives, e.rest) (e.size, counting_none c.requires)

pub cross-requires : goal.cross-requires
cross-requires c =
    let s = c.in-Some.ensures.steps in
    let n = nodes c.loop-pair.invariant.1 c.in-Some.pair.now _ s.1.0 (omega arith) in
    (omega (arith, n), (few c.loop-pair.invariant.1 c.requires _).0)

pub cross-requires-in-loop-pair : goal.cross-requires-in-loop-pair
cross-requires-in-loop-pair c =
    let s = c.in-Some.ensures.steps in
    let n = nodes c.loop-pair.invariant.1 c.in-Some.pair.now _ s.1.0 (omega arith) in
    (omega (arith, n), (few c.loop-pair.invariant.1 c.requires _).1)

pub loop-pair-preserved : goal.loop-pair-preserved
loop-pair-preserved c =
    let s = c.in-Some.ensures.steps in
    (s.0 ∙ c.loop-pair.invariant.0, rw (c.cross.ensures, c.cross-in-loop-pair.ensures) (counting_next c.loop-pair.invariant.1 c.in-Some.pair.now _ s.1.0 (omega arith)))

pub returns : goal.returns
returns c =
    let s = c.in-None.ensures.steps in
    counting_end c.loop-pair.invariant.1 (omega arith)

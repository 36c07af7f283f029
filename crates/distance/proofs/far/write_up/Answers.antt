-- `distance::far::write_up` meets its contract: what it writes leads to a node that was known (the laws are in Climbing), in a tree by its
-- distance (Marking).
use native.Mathlib.Omega.{arith}
use Rattle.distance.proofs.Climbing.{steps_some, writes_next, writes_last}
use Rattle.distance.proofs.Marking.{up_is, write_next}
use Rattle.distance.proofs.far.write_up.Goals as goal

pub overflow_sub-steps : goal.overflow_sub-steps
overflow_sub-steps c = omega (arith, steps_some c.loop-list.invariant.0 c.loop-list-test.true)

pub loop-list-smaller : goal.loop-list-smaller
loop-list-smaller c = omega (arith, steps_some c.loop-list.invariant.0 c.loop-list-test.true)

pub loop-list-preserved : goal.loop-list-preserved
loop-list-preserved c =
    let i = c.loop-list.invariant in
    let p = c.requires in (
      writes_next i.0 c.loop-list-test.true p.0,
      λ y a f q e. rw (up_is f c.loop-list.w) (write_next f (i.1 y a f q e) c.loop-list-test.true),
    )

pub returns : goal.returns
returns c =
    let i = c.loop-list.invariant in record {
      written = writes_last i.0 c.loop-list-test.false;
      partly = λ y a f q e. (i.1 y a f q e).partly;
    }

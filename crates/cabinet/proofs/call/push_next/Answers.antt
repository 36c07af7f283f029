-- `push_next` goes by command, status and what it is told; a step with place 0 is a push.
use borrow.Author.Tests.{ne_eqb}
use Rattle.model.specs.Push.{push}
use Rattle.model.specs.Calls.Registers.{pebbles_then}
use Rattle.laws.proofs.Judged.{facts}
use Rattle.yard.proofs.Laws.{step_push}
use Rattle.cabinet.proofs.call.push_next.Goals as goal
use Rattle.cabinet.proofs.call.push_next.Goals.{then-r-ne0-via-then-r-ne0, then-r-ne0-via-else-r-ne0+then-r-ne1}
use Rattle.cabinet.proofs.call.push_next.Goals.{then-r-ne0-via-else-r-ne0+else-r-ne1+then-told}

pub returns-then-r-ne0 : goal.returns-then-r-ne0
unfolding pebbles_then
returns-then-r-ne0 c =
    elim c.then-r-ne0.branch [
      | then-r-ne0-via-then-r-ne0 w ↦ rw (ne_eqb _ 0 w.if-r-ne0.true)
      | then-r-ne0-via-else-r-ne0+then-r-ne1 w ↦ rw (w.if-r-ne0.false, ne_eqb _ 1 w.if-r-ne1.true)
      | then-r-ne0-via-else-r-ne0+else-r-ne1+then-told w ↦ rw (w.if-r-ne0.false, w.if-r-ne1.false, w.if-told.true)
    ]

pub step-requires : goal.step-requires
step-requires c =
    let f = facts _ c.requires in
    (f.pebbles_size, f.depths_size)

pub returns : goal.returns
unfolding pebbles_then
returns c =
    let h = c.step.ensures in
    let m = push c.args.told.from c.args.told.to in
    rw (c.if-r-ne0.false, c.if-r-ne1.false, c.if-told.false)
    (step_push _ _ c.args.targets.now _ m c.requires h.result_value h.pebbles_value).1

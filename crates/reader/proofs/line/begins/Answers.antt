-- `begins` compares byte by byte: the first `i` are the same.
use mathlib.Core.Path.{◌≡◌, ◌∙◌}
use native.Mathlib.Omega.{arith}
use lib.ListN.{length}
use lib.Seq.{take-length}
use Rattle.reader.proofs.ReadLines.{begins_short, begins_not, begins_all}
use Rattle.reader.proofs.line.begins.Goals as goal

pub returns-then-list-head : goal.returns-then-list-head
returns-then-list-head c = begins_short c.args.list.now c.args.head.now c.if-list-head.true

pub returns-then-list-i : goal.returns-then-list-i
returns-then-list-i c =
    let a = c.args in
    begins_not a.list.now a.head.now c.loop-i.i (omega arith) c.if-list-i.true

pub returns : goal.returns
returns c =
    let a = c.args in
    let e : c.loop-i.i ≡ length a.head.now = omega arith in
    begins_all a.list.now a.head.now (rw e at c.loop-i.invariant ∙ take-length a.head.now)

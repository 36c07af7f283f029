-- `put_moves` writes the head of 8 bytes and then a line for each move: the lines of the pairs not taken are left.
use mathlib.Core.Path.{ap, ◌∙◌}
use native.Mathlib.Omega.{arith}
use lib.ListN.{length, length-append}
use Rattle.model.specs.Sheets.{text}
use Rattle.sheet.specs.Written.{Written}
use Rattle.sheet.proofs.Rows.{moves, moves_next, moves_end, moves_all, length_moves}
use Rattle.sheet.proofs.Writing.{written_as, written_append, left_length, left_next, left_none}
use Rattle.sheet.proofs.output.put_moves.Goals as goal

pub put_line-at-requires : goal.put_line-at-requires
put_line-at-requires c =
    let s = c.in-Some.ensures.steps in
    let r = c.loop-pair.invariant.1 in
    let e = ap moves s.1.0 ∙ moves_next c.in-Some.pair.now _ (omega arith) in
    let n = simp length-append at (ap length e) in
    omega (arith, c.requires, c.put_text-at, left_length r, r.end, n, length_moves c.args.plan.now (λ i. (c.type_inv.plan i).fits))

pub loop-pair-preserved : goal.loop-pair-preserved
loop-pair-preserved c =
    let s = c.in-Some.ensures.steps in
    let r = c.loop-pair.invariant.1 in
    let e = ap moves s.1.0 ∙ moves_next c.in-Some.pair.now _ (omega arith) in
    (omega arith, left_next r e c.put_line-at.ensures)

pub returns : goal.returns
unfolding text
returns c =
    let plan = c.args.plan.now in
    let s = c.in-None.ensures.steps in
    let p : Written (text "from to\n") 0 c.args.out.now _ _ = c.put_text-at.ensures in
    written_as (moves_all plan) (written_append p (left_none c.loop-pair.invariant.1 (moves_end _ (omega arith))))

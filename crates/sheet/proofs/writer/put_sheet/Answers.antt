-- `put_sheet` writes the header and then line by line: the lines from node v on are left.
use native.Mathlib.Omega.{arith}
use Rattle.model.specs.Yard.{yard_of}
use Rattle.model.specs.Sheets.{header, text}
use Rattle.sheet.specs.Written.{Written}
use Rattle.sheet.proofs.Rows.{rows_next, rows_end, rows_all, length_rows_next, length_yard_sheet}
use Rattle.sheet.proofs.Writing.{written_as, written_append, left_length, left_next, left_none}
use Rattle.sheet.proofs.writer.put_sheet.Goals as goal

pub put_text-at-requires : goal.put_text-at-requires
put_text-at-requires c =
    let a = c.args in
    omega (arith, length_yard_sheet (yard_of a.parents.now a.pebbles.now a.targets.now a.depths.now))

pub put_line-at-requires : goal.put_line-at-requires
put_line-at-requires c =
    let a = c.args in
    let y = yard_of a.parents.now a.pebbles.now a.targets.now a.depths.now in
    let p = c.put_text-at in
    let r = c.loop-v.invariant in
    omega (
      arith,
      c.requires.depths_in_bounds,
      p.auto.out,
      p.ensures.end,
      r.end,
      left_length r,
      length_yard_sheet y,
      length_rows_next y c.loop-v.v (omega arith),
    )

pub loop-v-preserved : goal.loop-v-preserved
loop-v-preserved c =
    let a = c.args in
    let y = yard_of a.parents.now a.pebbles.now a.targets.now a.depths.now in
    left_next c.loop-v.invariant (rows_next y c.loop-v.v (omega arith)) c.put_line-at.ensures

pub returns : goal.returns
unfolding header text
returns c =
    let a = c.args in
    let y = yard_of a.parents.now a.pebbles.now a.targets.now a.depths.now in
    let p : Written header 0 a.sheet.now _ _ = c.put_text-at.ensures in
    written_as (rows_all y) (written_append p (left_none c.loop-v.invariant (rows_end y c.loop-v.v c.loop-v-test.false)))

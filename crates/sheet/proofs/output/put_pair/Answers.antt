-- `put_pair` writes the head and a line of two values, which takes at most 14 bytes.
use native.Mathlib.Omega.{arith}
use Rattle.sheet.proofs.Rows.{length_pair}
use Rattle.sheet.proofs.Writing.{written_append, written_front}
use Rattle.sheet.proofs.output.put_pair.Goals as goal

pub put_line-requires : goal.put_line-requires
put_line-requires c =
    omega (arith, length_pair c.args.first c.args.second c.requires.0 c.requires.1)

pub returns-clause-out_value : goal.returns-clause-out_value
returns-clause-out_value c =
    let p = c.put_text-at.ensures in
    let short = length_pair c.args.first c.args.second c.requires.0 c.requires.1 in
    (written_front (written_append p c.put_line.ensures) (omega (arith, c.put_line.ensures.end, p.end, c.requires.2, short))).1

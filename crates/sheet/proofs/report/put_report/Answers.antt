-- `put_report` writes the head, the lines of all edges, the head of the total and the total, of at most 14, 18 a node, 6 and 7 bytes.
use native.Mathlib.Omega.{arith}
use lib.ListN.{length}
use Rattle.model.specs.Sheets.{text}
use Rattle.sheet.specs.Written.{Written}
use Rattle.sheet.proofs.Writing.{written_append, written_length}
use Rattle.sheet.proofs.Edges.{edges_short, total_short}
use Rattle.sheet.proofs.report.put_report.Goals as goal

pub put_text-last-requires : goal.put_text-last-requires
put_text-last-requires c =
    let a = c.args in
    let t = c.put_text-edges in
    let e = c.put_edges-behind in
    let short = edges_short a.ups.now a.downs.now a.root c.requires.0 (length a.ups.now) (omega arith) in
    omega (arith, short, e.ensures.end, t.ensures.end, written_length e.ensures, written_length t.ensures, c.requires.2)

pub put_line-requires : goal.put_line-requires
put_line-requires c =
    let a = c.args in
    let t = c.put_text-edges in
    let e = c.put_edges-behind in
    let l = c.put_text-last in
    let short = edges_short a.ups.now a.downs.now a.root c.requires.0 (length a.ups.now) (omega arith) in
    omega (
      arith,
      short,
      e.ensures.end,
      t.ensures.end,
      l.ensures.end,
      written_length e.ensures,
      written_length t.ensures,
      written_length l.ensures,
      c.requires.2,
      total_short a.total c.requires.1,
    )

pub returns : goal.returns
unfolding text
returns c =
    let h : Written (text "track up down\n") c.args.at c.args.out.now _ _ = c.put_text-edges.ensures in
    let f : Written (text "total\n") _ _ _ _ = c.put_text-last.ensures in
    written_append h (written_append c.put_edges-behind.ensures (written_append f c.put_line.ensures))

-- `put_edges` has written, before each turn, the lines of the edges below v.
use mathlib.Core.Path.{sym}
use native.Mathlib.Omega.{arith}
use Rattle.sheet.proofs.Edges.{edges_none, edges_next, edges_short}
use Rattle.sheet.proofs.Writing.{written_as, written_append, written_length, written_none}
use Rattle.sheet.proofs.report.put_edges.Goals as goal

pub loop-v-init : goal.loop-v-init
loop-v-init c = let a = c.args in written_as (sym (edges_none a.ups.now a.downs.now a.root)) (written_none _ _)

pub put_edge-end-requires : goal.put_edge-end-requires
put_edge-end-requires c =
    let a = c.args in
    let p = c.requires in
    let v = c.loop-v.v in
    let w = c.loop-v.invariant in (
      omega (arith, p.0.few),
      p.0.up_small v,
      p.0.down_small v,
      omega (arith, p.1, written_length w, w.end, edges_short a.ups.now a.downs.now a.root p.0 v (omega arith)),
    )

pub loop-v-preserved : goal.loop-v-preserved
loop-v-preserved c =
    let a = c.args in
    let w = written_append c.loop-v.invariant c.put_edge-end.ensures in
    written_as (sym (edges_next a.ups.now a.downs.now a.root c.loop-v.v)) w

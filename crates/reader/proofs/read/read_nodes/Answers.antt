-- `read_nodes` takes line after line: the arrays hold the first v nodes, and the bytes from `at` on are the other lines. The measure is the nodes
-- that may follow.
use native.Mathlib.Omega.{arith}
use lib.ListN.{drop_of_length-le}
use Rattle.reader.specs.Reading.{line_in}
use Rattle.reader.proofs.ReadLines.{seen, so_far_none, so_far_end, so_far_over, so_far_shape, so_far_other, so_far_next}
use Rattle.reader.proofs.read.read_nodes.Goals as goal

pub loop-at-init : goal.loop-at-init
loop-at-init c =
    let a = c.args in
    (omega arith, so_far_none a.sheet.now a.parents.now a.pebbles.now a.targets.now a.depths.now c.requires)

pub returns-then-v-eq256 : goal.returns-then-v-eq256
returns-then-v-eq256 c = record {
  depths_value = so_far_over c.loop-at.invariant.1 (omega arith) (omega arith) (omega arith);
  result_bound = (omega arith, c.loop-at.invariant.1.full);
}

pub returns-in_default : goal.returns-in_default
returns-in_default c =
    let n = c.read_line in
    let e = seen (line_in c.args.sheet.now n.new.values) n.ensures c.in_default.is in
    record {
      depths_value = so_far_shape c.loop-at.invariant.1 (omega arith) (omega arith) (omega arith) e;
      result_bound = (omega arith, c.loop-at.invariant.1.full);
    }

pub returns-then-values-v : goal.returns-then-values-v
returns-then-values-v c =
    let n = c.read_line in
    let e = seen (line_in c.args.sheet.now n.new.values) n.ensures c.in-Some.is in
    record {
      depths_value = so_far_other c.loop-at.invariant.1 (omega arith) (omega arith) (omega arith) e c.if-values-v.true;
      result_bound = (omega arith, c.loop-at.invariant.1.full);
    }

pub loop-at-preserved : goal.loop-at-preserved
loop-at-preserved c =
    let n = c.read_line in
    let e = seen (line_in c.args.sheet.now n.new.values) n.ensures c.in-Some.is in
    (omega arith, so_far_next c.loop-at.invariant.1 (omega arith) (omega arith) n.new.values c.in-Some.next e c.if-values-v.false)

pub returns : goal.returns
returns c = record {
  depths_value = so_far_end c.loop-at.invariant.1 (drop_of_length-le _ c.loop-at-test.false);
  result_bound = (c.loop-at.invariant.0, c.loop-at.invariant.1.full);
}

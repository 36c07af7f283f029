-- `read_sheet` is refused where a list is short, or as the sheet is; otherwise the nodes that were read are copied to the front of each list.
use mathlib.Core.Path.{sym}
use native.Mathlib.Omega.{arith}
use Rattle.laws.proofs.Refused.{told_on}
use Rattle.reader.proofs.ReadCall.{short_parents, short_pebbles, short_targets, short_depths, sheet_refused, sheet_read}
use Rattle.reader.proofs.read.read_sheet.Goals as goal

pub returns-then-parents-lt256 : goal.returns-then-parents-lt256
returns-then-parents-lt256 c =
    let a = c.args in
    let h = short_parents a.sheet.now a.parents.now a.pebbles.now a.targets.now a.depths.now (omega arith) in
    record {
      result_value = h.0;
      parents_value = h.1.0;
      pebbles_value = h.1.1.0;
      targets_value = h.1.1.1.0;
      depths_value = h.1.1.1.1;
    }

pub returns-then-pebbles-lt256 : goal.returns-then-pebbles-lt256
returns-then-pebbles-lt256 c =
    let a = c.args in
    let h = short_pebbles a.sheet.now a.parents.now a.pebbles.now a.targets.now a.depths.now (omega arith) (omega arith) in
    record {
      result_value = h.0;
      parents_value = h.1.0;
      pebbles_value = h.1.1.0;
      targets_value = h.1.1.1.0;
      depths_value = h.1.1.1.1;
    }

pub returns-then-targets-lt256 : goal.returns-then-targets-lt256
returns-then-targets-lt256 c =
    let a = c.args in
    let h = short_targets a.sheet.now a.parents.now a.pebbles.now a.targets.now a.depths.now (omega arith) (omega arith) (omega arith) in
    record {
      result_value = h.0;
      parents_value = h.1.0;
      pebbles_value = h.1.1.0;
      targets_value = h.1.1.1.0;
      depths_value = h.1.1.1.1;
    }

pub returns-then-depths-lt256 : goal.returns-then-depths-lt256
returns-then-depths-lt256 c =
    let a = c.args in
    let h = short_depths a.sheet.now a.parents.now a.pebbles.now a.targets.now a.depths.now
    (omega arith) (omega arith) (omega arith) (omega arith) in
    record {
      result_value = h.0;
      parents_value = h.1.0;
      pebbles_value = h.1.1.0;
      targets_value = h.1.1.1.0;
      depths_value = h.1.1.1.1;
    }

pub returns-in_err-n : goal.returns-in_err-n
returns-in_err-n c =
    let a = c.args in
    let l = c.read_lines in
    let m = l.new in
    let e = sym c.in_err-n.ensures.depths_value in
    let h = sheet_refused a.sheet.now a.parents.now a.pebbles.now a.targets.now a.depths.now
    (omega arith) (omega arith) (omega arith) (omega arith) e in
    record {
      result_value = told_on _ _ c.from_residual.ensures.1 _ h.0;
      parents_value = h.1.0;
      pebbles_value = h.1.1.0;
      targets_value = h.1.1.1.0;
      depths_value = h.1.1.1.1;
    }

pub returns : goal.returns
returns c =
    let a = c.args in
    let l = c.read_lines in
    let m = l.new in
    let n = c.in_ok-n.n in
    let e = sym c.in_ok-n.ensures.depths_value in
    let h = sheet_read a.sheet.now a.parents.now a.pebbles.now a.targets.now a.depths.now
    (omega arith) (omega arith) (omega arith) (omega arith) n m.parents m.pebbles m.targets m.depths
    c.in_ok-n.ensures.result_bound.0 l.ensures.result_bound.1 e
    c.put_text.ensures c.put_text-2.ensures c.put_text-3.ensures c.put_text-4.ensures in
    record {
      result_value = h.0;
      parents_value = h.1.0;
      pebbles_value = h.1.1.0;
      targets_value = h.1.1.1.0;
      depths_value = h.1.1.1.1;
    }

-- `put_line` writes value after value, each with the byte that ends it: the line from value `i` on is left.
use mathlib.Core.Path.{ap}
use mathlib.Core.List.{[], ◌∷◌}
use Prim.Native.Nat.{ℕ}
use native.Mathlib.Omega.{arith}
use Rattle.sheet.proofs.Rows.{line_next, length_line_next, line_end}
use Rattle.sheet.proofs.Writing.{written_append, written_as, written_byte, left_length, left_next, left_none}
use Rattle.sheet.proofs.line.put_line.Goals as goal

pub put_decimal-end-requires : goal.put_decimal-end-requires
put_decimal-end-requires c =
    let r = c.loop-i.invariant in
    omega (arith, c.requires, r.end, left_length r, length_line_next c.args.values.now c.loop-i.i (omega arith))

pub bounds-out-end : goal.bounds-out-end
bounds-out-end c =
    let r = c.loop-i.invariant in
    let p = c.put_decimal-end in
    omega (arith, c.requires, r.end, left_length r, length_line_next c.args.values.now c.loop-i.i (omega arith), p.auto.out, p.ensures.end)

pub overflow_add-end : goal.overflow_add-end
overflow_add-end c =
    let r = c.loop-i.invariant in
    let p = c.put_decimal-end in
    omega (arith, c.requires, r.end, left_length r, length_line_next c.args.values.now c.loop-i.i (omega arith), p.auto.out, p.ensures.end)

pub loop-i-preserved : goal.loop-i-preserved
loop-i-preserved c =
    let p = c.put_decimal-end in
    let byte = written_as (ap (λ (b : ℕ). b ∷ []) c.stop_before.ensures) (written_byte c.stop_before.result p.result p.new.out) in
    left_next c.loop-i.invariant (line_next c.args.values.now c.loop-i.i (omega arith)) (written_append p.ensures byte)

pub returns : goal.returns
returns c = left_none c.loop-i.invariant (line_end _ _ c.loop-i-test.false)

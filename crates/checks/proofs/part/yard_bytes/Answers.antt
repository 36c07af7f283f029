-- `yard_bytes` goes on from byte to byte: the part is the i bytes before and what is left of it.
use mathlib.Core.Path.{sym, ◌∙◌}
use native.Mathlib.Omega.{arith}
use Rattle.checks.proofs.YardEnd.{part_last, part_on, part_end}
use Rattle.checks.proofs.part.yard_bytes.Goals as goal

pub returns-then-ends_yard : goal.returns-then-ends_yard
returns-then-ends_yard c =
    let input = c.args.input.now in
    omega (arith, c.loop-i.invariant, part_last input c.loop-i.i (omega arith) (sym c.ends_yard.ensures ∙ c.if-ends_yard.true))

pub loop-i-preserved : goal.loop-i-preserved
loop-i-preserved c =
    let input = c.args.input.now in
    let e = part_on input c.loop-i.i (omega arith) (sym c.ends_yard.ensures ∙ c.if-ends_yard.false) in
    omega (arith, c.loop-i.invariant, e)

pub returns : goal.returns
returns c = omega (arith, c.loop-i.invariant, part_end c.args.input.now c.loop-i.i (omega arith))

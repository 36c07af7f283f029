-- `put_decimal` writes the digits of a number from the last to the first: what is left to write, written over the list so far, is the number
-- written over the list as it was. The measure is what is left of the number.
use mathlib.Core.Path.{refl, ◌∙◌}
use Prim.Native.Nat.{◌/◌}
use native.Mathlib.Omega.{arith}
use lib.ListN.{length-set}
use Rattle.sheet.proofs.Decimals.{length_high, length_some}
use Rattle.sheet.proofs.Writing.{put_digit, put_first}
use Rattle.sheet.proofs.decimal.put_decimal.Goals as goal

pub overflow_sub-i : goal.overflow_sub-i
overflow_sub-i c = omega (arith, length_some c.args.n)

pub loop-rest-init : goal.loop-rest-init
loop-rest-init c =
    let h = length_some c.args.n in
    (omega arith, omega arith, refl, refl)

pub overflow_sub-i-in-loop-rest : goal.overflow_sub-i-in-loop-rest
overflow_sub-i-in-loop-rest c = omega (arith, length_high c.loop-rest.rest c.loop-rest-test.true, length_some (c.loop-rest.rest / 10))

pub loop-rest-preserved : goal.loop-rest-preserved
loop-rest-preserved c =
    let l = c.loop-rest in
    let h = length_high l.rest c.loop-rest-test.true in
    let s = length_some (l.rest / 10) in
    let d = put_digit _ l.i l.rest l.out l.invariant.0 c.loop-rest-test.true in
    (omega arith, simp length-set (omega arith), simp length-set (omega arith), d ∙ l.invariant.3)

pub returns : goal.returns
returns c =
    let l = c.loop-rest in
    record { list = put_first _ l.i l.rest l.out l.invariant.0 c.loop-rest-test.false ∙ l.invariant.3; end = omega arith }

-- `width` counts the digits of a number: each tenth has one fewer, and a number below 10 has one. The measure is what is left of the number.
use native.Mathlib.Omega.{arith}
use Rattle.sheet.proofs.Decimals.{length_low, length_high}
use Rattle.sheet.proofs.decimal.width.Goals as goal

pub loop-rest-preserved : goal.loop-rest-preserved
loop-rest-preserved c = omega (arith, length_high c.loop-rest.rest c.loop-rest-test.true)

pub returns : goal.returns
returns c = omega (arith, length_low c.loop-rest.rest c.loop-rest-test.false)

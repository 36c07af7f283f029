-- `extended` tells one byte more of a value: behind a zero, or no digit, none; a digit makes the value ten times as much and the digit.
use native.Mathlib.Omega.{arith}
use Rattle.reader.proofs.Fields.{extended_zero, extended_other, extended_sum}
use Rattle.reader.proofs.line.extended.Goals as goal
use Rattle.reader.proofs.line.extended.Goals.{then-value-eq0-via-then-value-eq0, then-value-eq0-via-else-value-eq0+then-not-is_ascii_digit}

pub returns-then-value-eq0 : goal.returns-then-value-eq0
returns-then-value-eq0 c = elim c.then-value-eq0.branch [
  | then-value-eq0-via-then-value-eq0 w ↦ extended_zero _ _ w.if-value-eq0.true
  | then-value-eq0-via-else-value-eq0+then-not-is_ascii_digit w ↦ let n = w.if-not-is_ascii_digit.ensures.cases in extended_other _ _ (λ d. omega (arith, n))
]

pub returns : goal.returns
returns c =
    let d = c.if-not-is_ascii_digit.ensures.cases in
    rw c.ok.ensures.value (extended_sum _ _ _ (omega arith) c.if-value-eq0.false d.0 d.1 (rw (c.from.ensures, c.from-2.ensures) at c.try_from.ensures))

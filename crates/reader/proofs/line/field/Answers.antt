-- `field` reads a value digit by digit: behind its bytes so far, which are the decimal of `value`, lie the bytes from `i` on. It ends at the byte
-- `stop`, or where no value goes on as the bytes do.
use mathlib.Core.Path.{◌∙◌}
use Prim.Native.Nat.{◌≤◌}
use native.Mathlib.Omega.{arith}
use lib.ListN.{length, drop_of_length-le}
use Rattle.reader.proofs.Fields.{field_nothing, field_first, field_end, field_found, field_break, field_begins}
use Rattle.sheet.proofs.Writing.{drop_next}
use Rattle.reader.proofs.line.field.Goals as goal

pub returns-in_err-first : goal.returns-in_err-first
returns-in_err-first c = rw c.from_residual.ensures (field_nothing _ c.requires _ (drop_of_length-le _ c.in_err-first.ensures.lookup.3))

pub returns-then-not-is_ascii_digit : goal.returns-then-not-is_ascii_digit
returns-then-not-is_ascii_digit c =
    let f = c.in_ok-first.ensures.lookup.3 in
    let n = c.if-not-is_ascii_digit.ensures.cases in
    field_first _ c.requires _ _ _ (drop_next c.args.sheet.now c.args.at f.0) (λ d. omega (arith, f.1 0, n))

pub loop-i-init : goal.loop-i-init
loop-i-init c =
    let f = c.in_ok-first.ensures.lookup.3 in
    let d = c.if-not-is_ascii_digit.ensures.cases in
    let e = f.1 0 in
    (omega (arith, d), rw e (field_begins c.args.sheet.now c.args.at f.0 (omega (arith, d, e)) (omega (arith, d, e))))

pub returns-then-b-stop : goal.returns-then-b-stop
returns-then-b-stop c =
    let s = c.loop-i.invariant in
    field_found _ c.requires _ _ s.0 _ s.1 _ (drop_next c.args.sheet.now c.loop-i.i (omega arith) ∙ rw c.if-b-stop.true)

pub returns-in_err-value : goal.returns-in_err-value
returns-in_err-value c =
    let s = c.loop-i.invariant in
    let d = drop_next c.args.sheet.now c.loop-i.i (omega arith) in
    rw c.from_residual-in_err-value.ensures (field_break _ c.requires _ _ s.0 _ s.1 _ _ d c.if-b-stop.false c.in_err-value.ensures)

pub returns : goal.returns
returns c =
    let s = c.loop-i.invariant in
    let f = c.in_ok-first.ensures.lookup.3 in
    let l : length c.args.sheet.now ≤ c.loop-i.i = omega (arith, f.0) in
    field_end _ c.requires _ _ s.0 _ s.1 (drop_of_length-le _ l)

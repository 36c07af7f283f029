-- `read_line` reads field after field: the list holds the first i values, and the others are read behind them.
use mathlib.Core.Path.{◌≡◌, sym, ap, ◌∙◌}
use mathlib.Core.List.{List}
use mathlib.Core.Option.{Option}
use Prim.Native.Nat.{ℕ}
use native.Mathlib.Omega.{arith}
use Rattle.model.specs.Sheets as Sheets
use Rattle.model.specs.Sheets.{stopBefore}
use Rattle.laws.proofs.Lines.{stop_low}
use Rattle.reader.proofs.ReadLines.{line_wrong, line_more, line_whole}
use Rattle.reader.proofs.line.read_line.Goals as goal

-- what is read at the place of a value
found : (bs : List ℕ) (k : ℕ) {word : Option Sheets.Field} {stop : ℕ}
    → word ≡ Sheets.field stop bs → stop ≡ stopBefore k → Sheets.field (stopBefore k) bs ≡ word
found bs k e s = sym (e ∙ ap (λ (b : ℕ). Sheets.field b bs) s)

pub field-requires : goal.field-requires
field-requires c = rw c.stop_before.ensures (stop_low _)

pub returns-in_err-value : goal.returns-in_err-value
returns-in_err-value c =
    let e = found _ _ c.in_err-value.ensures c.stop_before.ensures in
    rw c.from_residual.ensures (line_wrong c.loop-i.invariant _ (omega arith) e)

pub loop-i-preserved : goal.loop-i-preserved
loop-i-preserved c =
    let w = c.in_ok-value in
    line_more c.loop-i.invariant _ (omega arith) w.value w.behind (found _ _ w.ensures c.stop_before.ensures)

pub returns : goal.returns
returns c = line_whole c.loop-i.invariant (omega arith)

-- `step_block`: a block of another length is refused, behind the yard; of nine bytes the registers are read, lent to the step and
-- written back.
use mathlib.Core.Path.{sym, ap, ◌∙◌}
use Rattle.model.specs.Calls.Registers.{registers_of}
use borrow.Author.Rules.{rules}
use Rattle.laws.proofs.Refused.{is_passed}
use Rattle.laws.proofs.Sheets.{Bytes}
use Rattle.laws.proofs.Cabinet.{also_each}
use Rattle.cabinet.proofs.Laws.{left_block, left_fits, kept_yard, kept_long}
use Rattle.cabinet.proofs.call.step_block.Goals as goal

pub returns-in_err-test_yard : goal.returns-in_err-test_yard
returns-in_err-test_yard c =
    let a = c.args in
    let k = kept_yard _ a.plan.now a.failed a.block.now (sym c.in_err-test_yard.ensures) in
    let e = also_each _ _ _ _ k in
    rw (is_passed _ _ c.from_residual.ensures.1) (record { result_value = e.0; block_value = e.1.0; pebbles_value = e.1.1.0; each_step = e.1.1.1 })

pub returns-in_default : goal.returns-in_default
returns-in_default c =
    let a = c.args in
    let k = kept_long _ a.plan.now a.failed a.block.now (sym c.in_ok-test_yard.ensures) c.in_default.ensures.1 in
    let e = also_each _ _ _ _ k in
    record { result_value = e.0; block_value = e.1.0; pebbles_value = e.1.1.0; each_step = e.1.1.1 }

pub store-requires : goal.store-requires
store-requires c =
    let a = c.args in
    let whole = c.in-Ok.ensures.1 in
    let block : Bytes a.block.now = λ i. search rules in
    let plan : Bytes a.plan.now = λ i. (c.type_inv.plan i).fits in
    left_fits _ a.plan.now a.failed a.block.now block plan whole.long _ (c.load-registers.ensures ∙ ap registers_of whole.same)
    c.step_registers-line.ensures

pub returns : goal.returns
returns c =
    let a = c.args in
    let whole = c.in-Ok.ensures.1 in
    let block : Bytes a.block.now = λ i. search rules in
    let left = left_block _ a.plan.now a.failed a.block.now block whole.long _ (c.load-registers.ensures ∙ ap registers_of whole.same)
    c.step_registers-line.ensures (c.copy_from_slice.ensures.after ∙ c.store.ensures) in
    let e = also_each _ _ _ _ left in
    record { result_value = e.0; block_value = e.1.0; pebbles_value = e.1.1.0; each_step = e.1.1.1 }

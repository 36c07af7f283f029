-- `test_step` asks in the order of the definition.
use mathlib.Core.Path.{◌≡◌, sym, ap, ◌∙◌}
use mathlib.Core.List.{List}
use mathlib.Core.Option.{Option}
use Prim.Native.Nat.{ℕ, ◌/◌}
use lib.ListN.{length}
use Rattle.model.specs.Judge.{Fault}
use Rattle.model.specs.declared.Registers.{Registers}
use Rattle.model.specs.Calls.Registers.{whole_moves, register_fault, step_fault}
use Rattle.laws.proofs.Calls.{moves_half}
use Rattle.laws.proofs.Refused.{passed_on}
use Rattle.laws.proofs.Basics.{single}
use Rattle.laws.proofs.Blocks.{registers_of_block_of, length_block_of}
use Rattle.cabinet.proofs.test.test_step.Goals as goal

-- what the test of the registers says
told : (bs : List ℕ) (r : Registers) {f : Option Fault} → register_fault (length bs / 2) r ≡ f → register_fault (whole_moves bs) r ≡ f
told bs r h = ap (λ (n : ℕ). register_fault n r) (sym (moves_half bs)) ∙ h

pub returns-in_err-tree : goal.returns-in_err-tree
unfolding step_fault
returns-in_err-tree c = passed_on _ _ c.from_residual.ensures.1 (rw (sym c.in_err-tree.ensures.result_value))

pub returns-in_err-test_registers : goal.returns-in_err-test_registers
unfolding step_fault
returns-in_err-test_registers c =
    let r = c.args.r in
    let tree = (sym c.in_ok-tree.ensures.result_value) in
    let fault = told c.args.plan.now r (sym c.in_err-test_registers.ensures) in
    passed_on _ _ c.from_residual-in_err-test_registers.ensures.1 (rw (tree, length_block_of r, registers_of_block_of r, fault))

pub test_task-requires : goal.test_task-requires
test_task-requires c = told c.args.plan.now c.args.r (sym c.in_ok-test_registers.ensures)

pub returns : goal.returns
unfolding step_fault
returns c =
    let r = c.args.r in
    let tree = (sym c.in_ok-tree.ensures.result_value) in
    let none = told c.args.plan.now r (sym c.in_ok-test_registers.ensures) in
    let task = rw c.in_ok-tree.ensures.tree_value at c.test_task.ensures in
    task ∙ rw (tree, length_block_of r, registers_of_block_of r, none) (sym (single _))

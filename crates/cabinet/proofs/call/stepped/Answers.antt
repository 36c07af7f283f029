-- `stepped` is refused as its tests say, and leaves all as it was; else the registers are those of the next step, and the pebbles too.
use mathlib.Core.Path.{sym, ◌∙◌}
use Rattle.model.specs.Calls.Registers.{block_of}
use Rattle.laws.proofs.Calls.{sees}
use Rattle.laws.proofs.Blocks.{step_fault_none, registers_of_block_of}
use Rattle.cabinet.proofs.Laws.{left_refused, left_accepted}
use Rattle.cabinet.proofs.call.stepped.Goals as goal

pub returns-in-Err : goal.returns-in-Err
returns-in-Err c = left_refused _ c.args.plan.now c.args.failed c.args.r (sees c.test_step-tested.ensures c.in-Err.is)

pub tell-told-requires : goal.tell-told-requires
tell-told-requires c =
    let passed = (step_fault_none _ _ (block_of c.args.r)).0 (sees c.test_step-tested.ensures c.in_default.is) in
    (rw (registers_of_block_of c.args.r) at passed.2).left_le

pub push_next-requires : goal.push_next-requires
push_next-requires c = ((step_fault_none _ _ (block_of c.args.r)).0 (sees c.test_step-tested.ensures c.in_default.is)).0

pub returns-then-raised : goal.returns-then-raised
returns-then-raised c =
    let e = sees c.test_step-tested.ensures c.in_default.is in
    left_accepted _ c.args.plan.now c.args.failed c.args.r e _ _ _ c.tell-told.ensures c.next_registers-next.ensures
    (sym c.if-raised.true ∙ c.raised.ensures) c.push_next.ensures

pub returns-else-raised : goal.returns-else-raised
returns-else-raised c =
    let e = sees c.test_step-tested.ensures c.in_default.is in
    left_accepted _ c.args.plan.now c.args.failed c.args.r e _ _ _ c.tell-told.ensures c.next_registers-next.ensures
    (sym c.if-raised.false ∙ c.raised.ensures) c.push_next.ensures

-- `javendriky_step` answers and leaves what `step_block` does, and its answer is small.
use mathlib.Core.Path.{ap, ◌∙◌}
use Rattle.model.specs.Calls.Registers.{line_in_c, line_told}
use Rattle.laws.proofs.Blocks.{step_small, line_tells}
use Rattle.laws.proofs.Cabinet.{each_step_of}
use Rattle.javendriky.proofs.steps.javendriky_step.Goals as goal

pub signalled-requires : goal.signalled-requires
signalled-requires c = rw c.step_block.ensures.result_value (step_small _ _ _ _)

pub returns : goal.returns
returns c =
    let e = c.step_block.ensures in
    let n = c.signalled.ensures ∙ ap line_in_c e.result_value in
    let t = ap line_told n ∙ line_tells _ (step_small _ _ _ _) in
    record {
      value = n;
      registers_value = e.block_value;
      pebbles_value = e.pebbles_value;
      each_step = each_step_of _ _ _ _ t e.block_value e.pebbles_value;
    }

-- `test_move` refuses what is not free, by the fault that meets it.
use mathlib.Core.Path.{sym, ◌∙◌}
use Rattle.laws.proofs.Step.{none_is}
use Rattle.yard.proofs.step.test_move.Goals as goal

pub fault-requires : goal.fault-requires
fault-requires c = record {
  alike = c.requires;
  place_value = sym (c.free.ensures _) ∙ c.if-not-free.true;
}

pub returns-then-not-free : goal.returns-then-not-free
returns-then-not-free c = sym c.fault.ensures

pub returns : goal.returns
returns c = sym (none_is _ (sym (c.free.ensures _) ∙ c.if-not-free.false))

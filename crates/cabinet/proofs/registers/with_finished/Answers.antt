-- `with_finished` sets bit 0.
use Rattle.model.specs.Calls.Registers.{set_bit}
use Rattle.cabinet.proofs.Flags.{or_one}
use Rattle.cabinet.proofs.registers.with_finished.Goals as goal

pub returns : goal.returns
unfolding set_bit
returns c = or_one c.args.flags

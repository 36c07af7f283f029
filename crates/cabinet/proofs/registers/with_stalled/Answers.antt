-- `with_stalled` sets bit 1.
use Rattle.model.specs.Calls.Registers.{set_bit}
use Rattle.cabinet.proofs.Flags.{or_two}
use Rattle.cabinet.proofs.registers.with_stalled.Goals as goal

pub returns : goal.returns
unfolding set_bit
returns c = or_two c.args.flags

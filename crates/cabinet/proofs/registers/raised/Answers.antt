-- `raised` asks both bits at once.
use Rattle.model.specs.Calls.Registers.{bit, raised}
use Rattle.cabinet.proofs.Flags.{shared}
use Rattle.cabinet.proofs.registers.raised.Goals as goal

pub returns : goal.returns
unfolding raised bit
returns c = shared c.args.r.flags c.args.r.mask

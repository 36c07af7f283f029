-- `padded` copies a list into an array of zeros: behind it are the zeros that were there.
use mathlib.Core.Path.{sym}
use Rattle.model.specs.Yard.{max_size}
use Rattle.yard.proofs.States.{padded_room}
use Rattle.yard.proofs.state.padded.Goals as goal

pub returns : goal.returns
returns c = rw c.copy_from_slice.ensures.after (sym (padded_room max_size c.args.list.now c.requires))

-- `put_text` copies the text into its part of the list.
use native.Mathlib.Omega.{arith}
use Rattle.sheet.proofs.Writing.{written_part}
use Rattle.sheet.proofs.decimal.put_text.Goals as goal

pub returns : goal.returns
returns c = rw c.copy_from_slice.ensures.after (written_part c.args.text.now c.args.at _ c.args.out.now (omega arith) c.requires)

-- `has_stretch` makes the two tests of refusal 28.
use borrow.Author.Tests.{lt-ltb}
use Rattle.laws.proofs.Calls.{moves_half}
use Rattle.wear.proofs.call.has_stretch.Goals as goal

pub returns-then-width-gt0 : goal.returns-then-width-gt0
returns-then-width-gt0 c = rw (lt-ltb 0 c.args.width c.if-width-gt0.true, ← moves_half c.args.plan.now)

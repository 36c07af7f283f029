-- `digit_at` tests the byte, if there is one.
use mathlib.Core.Path.{◌∙◌}
use native.Mathlib.Omega.{arith}
use borrow.Author.Tests.{le-ltb}
use Rattle.checks.proofs.YardEnd.{digit_behind, digit_here}
use Rattle.checks.proofs.part.digit_at.Goals as goal

pub returns-then-at-input : goal.returns-then-at-input
returns-then-at-input c = c.is_ascii_digit.ensures.value ∙ digit_here c.args.input.now c.args.at (omega arith)

pub returns-else-at-input : goal.returns-else-at-input
returns-else-at-input c = rw (le-ltb c.args.at _ c.if-at-input.false) (digit_behind c.args.input.now c.args.at c.if-at-input.false)

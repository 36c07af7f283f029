-- The moves of a plan that are obeyed, of the first `count` moves, where the first refused one ends it: all of them, or those before it, which are
-- as many as the refusal's place says.
use Rattle.std.specs.Prelude.{List, ℕ}
use Rattle.std.proofs.Math.Option.{Option, none, some}
use Rattle.model.specs.Yard.{Yard}
use Rattle.model.specs.Judge.{Fault}
use Rattle.model.specs.Push.{Move, after}
use Rattle.model.specs.Calls.Answers.{lent}
use Rattle.model.specs.Calls.Checks.{within}

abbrev pub obeyed : Option Fault → List ℕ → ℕ → List Move
obeyed none plan count = within plan count
obeyed (some f) plan count = within plan f.place

-- the pebbles that some moves leave, or those of before if one was refused
abbrev pub obeyed_or_left : Option Fault → Yard → List Move → List ℕ
obeyed_or_left f y ms = lent f (after y ms) y.pebbles

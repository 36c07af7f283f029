-- `distance::look::first_within` meets its contract: no node passed holds a pebble within reach.
use mathlib.Core.Path.{sym, ◌∙◌}
use native.Mathlib.Omega.{arith}
use Rattle.laws.proofs.Found.{found, missed}
use Rattle.distance.specs.Far.{is_within}
use Rattle.distance.proofs.look.first_within.Goals as goal

pub returns-then-holds_within : goal.returns-then-holds_within
returns-then-holds_within c = λ none.
    let s = c.args in
    found _ none _ (is_within s.pebbles.now s.far.now s.reach) c.loop-v-test.true c.loop-v.invariant (sym c.holds_within.ensures ∙ c.if-holds_within.true)

pub returns : goal.returns
returns c = λ none.
    let s = c.args in
    missed _ none (is_within s.pebbles.now s.far.now s.reach) (λ w k. c.loop-v.invariant w (omega (arith, c.loop-v-test.false)))

-- `first_difference`: equal lists have none; else it looks at one entry after another.
use mathlib.Core.Path.{◌≡◌, ap}
use mathlib.Core.List.{List}
use native.Mathlib.Omega.{arith}
use lib.IntN.{ℤ}
use Rattle.std.proofs.lemmas.Bool.Decides.{Decides-int_eq}
use Rattle.std.proofs.lemmas.Slice.Eq.{slice_eq-Decides}
use Rattle.model.specs.Yard.{entry}
use Rattle.laws.proofs.Found.{found, missed}
use Rattle.laws.proofs.EventRuns.{not_differ}
use Rattle.event.proofs.Steps.{other_bits}
use Rattle.event.proofs.update.first_difference.Goals as goal

pub returns-then-eq : goal.returns-then-eq
returns-then-eq c = λ none.
    let equal : c.args.list.now ≡ c.args.other.now = (slice_eq-Decides Decides-int_eq _ _ _ c.eq.ensures).0 c.if-eq.true in
    missed _ none _ (λ v l. not_differ _ _ (ap (λ (xs : List ℤ). entry xs v) equal))

pub returns-then-entry-other : goal.returns-then-entry-other
returns-then-entry-other c = λ none.
    let a = c.args in
    found _ none _ _ (omega arith) c.loop-v.invariant
    (other_bits (entry a.list.now c.loop-v.v) (entry a.other.now c.loop-v.v) (omega arith) (omega arith) c.if-entry-other.true)

pub returns : goal.returns
returns c = λ none. missed _ none _ (λ v l. c.loop-v.invariant v (omega arith))

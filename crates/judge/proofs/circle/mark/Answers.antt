-- `mark` changes nothing but marks, and those only at the nodes of the climb. In the loop u is the i-th of them, so each store is at one
-- of the first `steps`; a store leaves every other entry as it was.
use native.Mathlib.Numerals.{add-one}
use mathlib.Core.Path.{refl, ap, ◌∙◌}
use mathlib.Core.Bool.{true, false}
use mathlib.Core.Logic.{inl, inr, ⊎_elim}
use Rattle.model.specs.Yard.{up}
use Rattle.judge.specs.Climb.{above}
use Rattle.judge.proofs.Lists.{set_either}
use Rattle.judge.proofs.Climb.{above_next}
use Rattle.judge.proofs.circle.mark.Goals as goal

pub loop-init : goal.loop-init
unfolding above
loop-init c = (refl, c.requires.1, λ w. inl refl)

pub loop-preserved : goal.loop-preserved
loop-preserved c =
    let loop = c.loop in
    let ps = c.args.parents.now in (
      rw add-one (above_next loop.counter ps c.args.v ∙ ap (up ps) loop.invariant.0),
      c.requires.0.node loop.u loop.invariant.1,
      λ w. ⊎_elim
          (λ e. ⊎_elim (λ s. inl (e ∙ s)) (λ s. inr (e ∙ s.0, s.1)) (loop.invariant.2 w))
          (λ e. inr (e.0, (loop.counter, c.loop-test.true, loop.invariant.0 ∙ e.1)))
          (set_either false loop.known loop.u w true),
    )

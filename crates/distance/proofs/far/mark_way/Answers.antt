-- `distance::far::mark_way` meets its contract: those that it passes lead to where it is (the laws are in Climbing), and in a tree the
-- steps are the distances (Marking).
use mathlib.Core.Path.{refl, ◌∙◌}
use mathlib.Core.Bool.{false≢true}
use native.Mathlib.Omega.{arith}
use Rattle.distance.proofs.Climbing.{lead_first, lead_entries, lead_root, lead_next}
use Rattle.distance.proofs.Marking.{as_long, up_is, own_root, root_own, mark_first, mark_few, mark_next, mark_last}
use Rattle.distance.proofs.far.mark_way.Goals as goal

pub loop-steps-init : goal.loop-steps-init
loop-steps-init c = let p = c.requires in (lead_first p.0 p.1 p.2 p.3, λ y f. mark_first f (p.1.long ∙ as_long f))

pub returns-then-p-w : goal.returns-then-p-w
returns-then-p-w c =
    let p = c.requires in
    let h = c.loop-steps.invariant.0 in record {
      entries = (lead_entries p.0 h (omega arith), λ _. (_, lead_root p.0 h (omega arith) c.if-p-w.true));
      value = λ y f.
          let m = c.loop-steps.invariant.1 y f in
          (refl, mark_last f m p.2 (p.1.long ∙ as_long f) (own_root f _ m.climbed.node_lt c.if-p-w.true));
    }

pub loop-steps-preserved : goal.loop-steps-preserved
loop-steps-preserved c = (
  lead_next c.requires.0 c.loop-steps.invariant.0 (omega arith),
  λ y f. rw (up_is f c.loop-steps.w) (mark_next f (c.loop-steps.invariant.1 y f) (λ q. c.if-p-w.false (root_own f _ q))),
)

pub returns : goal.returns
returns c = record {
  entries = (c.loop-steps.invariant.0.entries, λ q. absurd (false≢true q));
  value = λ y f. absurd (omega (arith, mark_few f (c.loop-steps.invariant.1 y f), as_long f));
}

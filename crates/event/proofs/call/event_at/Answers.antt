-- `event_at` is refused as its tests say, and leaves all three lists then. Else the list was the yard's, so that its entries can step,
-- and the mark is altered.
use native.Mathlib.Omega.{arith}
use mathlib.Core.Path.{refl, sym, ap, ◌∙◌}
use lib.IntN.{ℤ}
use mir.Syntax.{w16}
use mir.Val.{to_z, of_z}
use Rattle.model.specs.Yard.{yard_of}
use Rattle.laws.proofs.Judged.{facts}
use Rattle.laws.proofs.EventRuns.{accepted, caught_was}
use Rattle.demand.proofs.Answers.{demands_small}
use Rattle.event.specs.Change.{stepped_after}
use Rattle.event.proofs.Steps.{possible_can, more, step_small, step_held, stepped_demands}
use Rattle.event.proofs.Happened.{left_accepted}
use Rattle.event.proofs.call.event_at.Goals as goal

pub climb-requires : goal.climb-requires
climb-requires c =
    let a = c.args in
    let y = yard_of a.parents.now a.pebbles.now a.targets.now a.depths.now in
    let passes = (sym c.in_ok-test_event.ensures) in
    let h = accepted y a.list.now a.event a.node passes in
    let by = ap (λ (k : ℤ). to_z w16 (of_z w16 k)) c.step.ensures ∙ step_held a.event in
    let small = demands_small y h.tree (caught_was y a.list.now a.event a.node passes) in
    ((y, h.tree, refl), h.long, h.node_lt, rw by (step_small a.event), small.1)

pub alter-requires : goal.alter-requires
alter-requires c =
    let a = c.args in
    let y = yard_of a.parents.now a.pebbles.now a.targets.now a.depths.now in
    let h = accepted y a.list.now a.event a.node (sym c.in_ok-test_event.ensures) in
    let f = facts y h.tree in record {
      node_in_bounds = (omega (arith, h.node_lt, f.pebbles_size), omega (arith, h.node_lt, f.targets_size));
      node_value = more a.event _ _ _ _ (omega (arith, f.capacity_le _ h.node_lt)) (possible_can y a.event a.node ∙ h.can);
    }

pub returns-clause-list_value : goal.returns-clause-list_value
returns-clause-list_value c =
    let a = c.args in
    let y = yard_of a.parents.now a.pebbles.now a.targets.now a.depths.now in
    let by = ap (λ (k : ℤ). to_z w16 (of_z w16 k)) c.step.ensures ∙ step_held a.event in
    c.climb.ensures
    ∙ ap (λ (k : ℤ). stepped_after a.parents.now k a.node a.list.now) by
    ∙ stepped_demands y a.event a.node a.list.now
    ∙ (left_accepted y a.list.now a.event a.node (sym c.in_ok-test_event.ensures)).1.1.1

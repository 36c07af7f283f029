-- `obey` makes one step for each move: the move that a turn makes is the first of those that are left.
use mathlib.Core.Path.{refl, sym, ◌∙◌}
use native.Mathlib.Omega.{arith}
use lib.Seq.{take-take}
use Rattle.model.specs.Push.{after}
use Rattle.model.specs.Calls.Plans.{moves_of}
use Rattle.laws.proofs.Judged.{facts}
use Rattle.laws.proofs.Refused.{is_passed, passed_on}
use Rattle.checker.proofs.Laws.{front_length, front_at, left_none, left_refused, left_next}
use Rattle.checker.proofs.obey.obey.Goals as goal

pub loop-i-init : goal.loop-i-init
unfolding after
loop-i-init c = (omega arith, (c.requires.0, refl, refl))

-- at the loop's head there are as many pebbles and depths as there are nodes
pub step-requires : goal.step-requires
step-requires c =
    let f = facts _ c.loop-i.invariant.1.0 in
    (f.pebbles_size, f.depths_size)

pub returns-in_err-step : goal.returns-in_err-step
returns-in_err-step c =
    let a = c.args in
    let inv = c.loop-i.invariant.1 in
    let n = front_length a.plan.now a.count c.requires.1 in
    let e = front_at a.plan.now a.count c.requires.1 c.loop-i.i (omega arith) in
    let refused = sym c.in_err-step.ensures.result_value in
    let r = left_refused _ _ _ _ inv _ (omega (arith, n)) e _ _ refused (omega arith) in record {
      result_value = passed_on _ _ c.from_residual.ensures.1 r.0;
      pebbles_value =
          rw (is_passed _ _ c.from_residual.ensures.1, c.in_err-step.ensures.pebbles_value, r.1)
          (inv.2 ∙ rw (take-take c.loop-i.i a.count (moves_of a.plan.now) (omega arith)));
    }

pub loop-i-preserved : goal.loop-i-preserved
loop-i-preserved c =
    let a = c.args in
    let n = front_length a.plan.now a.count c.requires.1 in
    let e = front_at a.plan.now a.count c.requires.1 c.loop-i.i (omega arith) in
    let k = sym c.in_ok-step.ensures.result_value in
    (omega arith, rw c.in_ok-step.ensures.pebbles_value (left_next _ _ _ _ c.loop-i.invariant.1 _ (omega (arith, n)) e k))

pub returns : goal.returns
returns c =
    let r = left_none _ _ _ _ c.loop-i.invariant.1 (omega (arith, front_length c.args.plan.now c.args.count c.requires.1)) in
    record { result_value = r.0; pebbles_value = r.1 }

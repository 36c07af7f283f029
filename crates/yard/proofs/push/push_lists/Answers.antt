-- `push_lists` is refused as the lists are, or else judged as its step is: of a tree the step's tests decide. The lists of a tree are of one
-- length, which is what the step asks.
use mathlib.Core.Path.{sym}
use Rattle.model.specs.Push.{push, legal}
use Rattle.laws.proofs.Judged.{facts}
use Rattle.laws.proofs.Refused.{passed_on}
use Rattle.yard.proofs.Laws.{push_refused, step_push}
use Rattle.yard.proofs.push.push_lists.Goals as goal

pub returns-in_err-test_yard : goal.returns-in_err-test_yard
unfolding legal
returns-in_err-test_yard c =
    let e = push_refused _ (push c.args.from c.args.to) (sym c.in_err-test_yard.ensures) in
    record { result_value = passed_on _ _ c.from_residual.ensures.1 (sym e); pebbles_value = rw e }

pub step-requires : goal.step-requires
step-requires c = let f = facts _ (sym c.in_ok-test_yard.ensures) in (f.pebbles_size, f.depths_size)

pub returns : goal.returns
returns c =
    let s = c.step.ensures in
    let p = step_push _ _ _ _ _ (sym c.in_ok-test_yard.ensures) s.result_value s.pebbles_value in
    record { result_value = p.0; pebbles_value = p.1 }

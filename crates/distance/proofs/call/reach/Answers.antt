-- `distance::call::reach` meets its contract: refused as the yard is, then for the list's length and for the node; else the distances tell.
use native.Mathlib.Omega.{arith}
use mathlib.Core.Path.{refl, ap, sym}
use Rattle.model.specs.Calls.Answers.{answered}
use Rattle.laws.proofs.Refused.{is_passed}
use Rattle.laws.proofs.Nearest.{reach_judge, reach_length, reach_node, reach_accepted}
use Rattle.distance.proofs.Pebbles.{asked, blank}
use Rattle.distance.proofs.call.reach.Goals as goal

pub test_from-requires : goal.test_from-requires
test_from-requires c = (blank, refl)

pub returns-in_err-test_from : goal.returns-in_err-test_from
returns-in_err-test_from c =
    let s = c.args in
    let e = reach_judge _ s.list.now s.node _ (sym c.in_err-test_from.ensures.result_value) in
    rw (is_passed _ _ c.from_residual.ensures.1, ← e) (record { result_value = refl; list_value = refl })

pub returns-then-list-yard : goal.returns-then-list-yard
returns-then-list-yard c =
    let s = c.args in
    let e = reach_length _ s.list.now s.node (sym c.in_ok-test_from.ensures.result_value) c.if-list-yard.true in
    rw (← e) (record { result_value = refl; list_value = refl })

pub returns-then-node-yard : goal.returns-then-node-yard
returns-then-node-yard c =
    let s = c.args in
    let t = (sym c.in_ok-test_from.ensures.result_value) in
    let e = reach_node _ s.list.now s.node t c.if-list-yard.false (omega (arith, c.if-node-yard.true)) in
    rw (← e) (record { result_value = refl; list_value = refl })

pub reach_into-count-requires : goal.reach_into-count-requires
reach_into-count-requires c =
    let t = (sym c.in_ok-test_from.ensures.result_value) in
    (_, (_, asked t (omega (arith, c.if-node-yard.false)) refl c.test_from.ensures.distances, c.if-list-yard.false))

pub returns : goal.returns
returns c =
    let s = c.args in
    let k = c.if-list-yard.false in
    let t = (sym c.in_ok-test_from.ensures.result_value) in
    let a = asked t (omega (arith, c.if-node-yard.false)) refl c.test_from.ensures.distances in
    let e = reach_accepted _ s.list.now s.node t k a.node in
    rw (← e) (record {
      result_value = ap answered (c.reach_into-count.ensures.value _ _ a k);
      list_value = c.reach_into-count.ensures.list_value _ _ a k;
    })

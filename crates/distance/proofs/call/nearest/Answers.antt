-- `distance::call::nearest` meets its contract: refused as the yard is, then for the node; else the distances tell.
use native.Mathlib.Omega.{arith}
use mathlib.Core.Path.{refl, sym, ◌∙◌}
use Rattle.laws.proofs.Refused.{told_on}
use Rattle.laws.proofs.Nearest.{nearest_judge, nearest_node}
use Rattle.distance.proofs.Pebbles.{asked, blank, nearest_rest}
use Rattle.distance.proofs.call.nearest.Goals as goal

pub test_from-requires : goal.test_from-requires
test_from-requires c = (blank, refl)

pub returns-in_err-test_from : goal.returns-in_err-test_from
returns-in_err-test_from c = told_on _ _ c.from_residual.ensures.1 _ (rw (← nearest_judge _ _ _ (sym c.in_err-test_from.ensures.result_value)))

pub returns-then-node-yard : goal.returns-then-node-yard
returns-then-node-yard c =
    let t = (sym c.in_ok-test_from.ensures.result_value) in
    rw (← nearest_node _ c.args.node t (omega (arith, c.if-node-yard.true)))

pub nearest_of-requires : goal.nearest_of-requires
nearest_of-requires c =
    let t = (sym c.in_ok-test_from.ensures.result_value) in
    (_, (_, asked t (omega (arith, c.if-node-yard.false)) refl c.test_from.ensures.distances))

pub returns : goal.returns
returns c =
    let t = (sym c.in_ok-test_from.ensures.result_value) in
    let a = asked t (omega (arith, c.if-node-yard.false)) refl c.test_from.ensures.distances in
    c.nearest_of.ensures _ _ a ∙ sym (nearest_rest _ _ a.tree a.node)

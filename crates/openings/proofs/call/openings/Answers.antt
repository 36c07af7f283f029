-- `openings`: refused as a yard with no plan is; else the openings are listed apart and handed over (the laws are in Calling).
use mathlib.Core.Path.{refl, ◌∙◌, sym}
use native.Mathlib.Omega.{arith}
use lib.ListN.{length}
use Rattle.model.specs.Given.{listed}
use Rattle.laws.proofs.Calls.{matched_tree}
use Rattle.laws.proofs.Refused.{told_on}
use Rattle.laws.proofs.Openings.{openings_matched}
use Rattle.demand.proofs.Answers.{then_front, demands_at}
use Rattle.openings.proofs.Calling.{listed_fits, answer_is, list_is}
use Rattle.openings.proofs.call.openings.Goals as goal

pub returns-in_err-tree : goal.returns-in_err-tree
returns-in_err-tree c =
    let s = c.args in
    let y = listed s.yard.now in
    let f = openings_matched y _ (sym c.in_err-tree.ensures.result_value) (length s.list.now) in
    record { result_value = told_on _ _ c.from_residual.ensures.1 _ (rw f); list_value = rw f }

pub list_apart-count-requires : goal.list_apart-count-requires
list_apart-count-requires c =
    let d = c.matched_demands in
    let s = c.args in
    let y = listed s.yard.now in
    let m = matched_tree y (sym c.in_ok-tree.ensures.result_value) in
    let front = then_front y _ d.ensures.list_value m.0 in
    rw c.in_ok-tree.ensures.tree_value (record {
      matched = (m.1, (d.auto.list, λ v l. demands_at y _ v front l));
      moves_len = refl;
    })

pub hand_over-requires : goal.hand_over-requires
hand_over-requires c =
    let s = c.args in
    let y = listed s.yard.now in
    let m = matched_tree y (sym c.in_ok-tree.ensures.result_value) in
    let all = rw c.in_ok-tree.ensures.tree_value at c.list_apart-count.ensures in
    (listed_fits _ m.0 m.1 all, omega (arith, all.room))

pub returns : goal.returns
returns c =
    let s = c.args in
    let y = listed s.yard.now in
    let m = matched_tree y (sym c.in_ok-tree.ensures.result_value) in
    let all = rw c.in_ok-tree.ensures.tree_value at c.list_apart-count.ensures in
    record {
      result_value = c.hand_over.ensures.result_value ∙ answer_is _ m.0 m.1 all s.list.now;
      list_value = c.hand_over.ensures.list_value ∙ list_is _ m.0 m.1 all s.list.now;
    }

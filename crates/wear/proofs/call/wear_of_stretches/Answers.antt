-- `wear_of_stretches` meets its contract: refused as by the checker, by the yard, by the plan's length, then by its moves and the yard at
-- the end.
use mathlib.Core.Path.{◌∙◌, sym}
use Rattle.laws.proofs.Calls.{matched_tree, check_matched}
use Rattle.laws.proofs.Refused.{told_on}
use Rattle.laws.proofs.Places.{few_moves}
use Rattle.checker.proofs.Laws.{whole, not_whole, check_bytes, check_moves}
use Rattle.wear.proofs.Wearing.{worn_refused, worn_moves}
use Rattle.wear.proofs.call.wear_of_stretches.Goals as goal

pub returns-in_err-tree : goal.returns-in_err-tree
returns-in_err-tree c =
    let f = sym c.in_err-tree.ensures.result_value in
    told_on _ _ c.from_residual.ensures.1 _ (worn_refused _ _ _ _ (check_matched _ _ f _))

pub returns-then-not-whole_plan : goal.returns-then-not-whole_plan
returns-then-not-whole_plan c =
    let w = c.whole_plan in
    let m = matched_tree _ (sym c.in_ok-tree.ensures.result_value) in
    worn_refused _ _ _ _ (check_bytes _ m.0 m.1 _ _ (not_whole w.result w.ensures (rw c.if-not-whole_plan.true)))

pub wear_to_end-requires : goal.wear_to_end-requires
wear_to_end-requires c =
    let w = c.whole_plan in
    let few = few_moves _ (whole w.result w.ensures (rw c.if-not-whole_plan.false)) in
    record { some = c.requires.0; wide = c.requires.1; few = few }

pub returns : goal.returns
returns c =
    let w = c.whole_plan in
    let m = matched_tree _ (sym c.in_ok-tree.ensures.result_value) in
    let e = check_moves _ m.0 m.1 c.args.plan.now (whole w.result w.ensures (rw c.if-not-whole_plan.false)) in
    let to_end = rw c.in_ok-tree.ensures.tree_value at c.wear_to_end.ensures in
    to_end ∙ rw (← e) (worn_moves _ c.args.plan.now c.args.width c.requires.0 c.requires.1)

-- `planner::plan::plan_sheet` meets its contract: refused as a yard with no plan is; else the sizes of the demands are the shortest length, which is the
-- plan's, and balancing the root gives the plan (the laws are in Planning).
use mathlib.Core.Path.{refl, ◌∙◌, sym}
use Prim.Native.Nat.{◌/◌, ◌≤◌, ◌<◌}
use native.Mathlib.Omega.{arith}
use lib.ListN.{length}
use Rattle.laws.proofs.Judged.{facts, wood}
use Rattle.laws.proofs.Demands.{weight_le}
use Rattle.laws.proofs.Calls.{matched_tree, plan_matched}
use Rattle.laws.proofs.Refused.{told_on}
use Rattle.planner.proofs.Planning.{front_length, sizes_range, sizes_shortest, plan_short, root_asked, plan_accepted, plan_written}
use Rattle.planner.proofs.plan.plan_sheet.Goals as goal

pub returns-in_err-tree : goal.returns-in_err-tree
returns-in_err-tree c =
    let f = plan_matched _ _ (sym c.in_err-tree.ensures.result_value) (length c.args.plan.now) in
    record { result_value = told_on _ _ c.from_residual.ensures.1 _ (rw f); plan_value = rw f }

pub shared_ref_as_front-sizes : goal.shared_ref_as_front-sizes
shared_ref_as_front-sizes c =
    let m = matched_tree _ (sym c.in_ok-tree.ensures.result_value) in omega (arith, (facts _ m.0).few)

pub sizes-length-requires : goal.sizes-length-requires
sizes-length-requires c =
    let e = (sym c.in_ok-tree.ensures.result_value) in
    let m = matched_tree _ e in
    let k = c.start.ensures.kept e in
    (omega (arith, front_length _ m.0 _ k, (facts _ m.0).few), sizes_range _ m.0 _ k)

pub returns-then-plan-length : goal.returns-then-plan-length
returns-then-plan-length c =
    let e = (sym c.in_ok-tree.ensures.result_value) in
    let m = matched_tree _ e in
    let l = c.sizes-length.ensures ∙ sizes_shortest _ m.0 _ (c.start.ensures.kept e) in
    let s : length c.args.plan.now / 2 < c.sizes-length.result = omega (arith, c.if-plan-length.true) in
    let f = plan_short _ m.0 m.1 c.args.plan.now _ l s in
    record { result_value = rw f refl; plan_value = rw f refl }

pub tables-t-requires : goal.tables-t-requires
tables-t-requires c =
    let t = (matched_tree _ (sym c.in_ok-tree.ensures.result_value)).0 in
    record { few = (facts _ t).few.1; node = (wood _ t).parent_lt }

pub balance_subtrees-count-requires : goal.balance_subtrees-count-requires
balance_subtrees-count-requires c =
    let e = (sym c.in_ok-tree.ensures.result_value) in
    let m = matched_tree _ e in
    let k = c.start.ensures.kept e in
    let l = c.sizes-length.ensures ∙ sizes_shortest _ m.0 _ k in
    let h : c.sizes-length.result ≤ length c.args.plan.now / 2 = omega (arith, c.if-plan-length.false) in
    let r = rw c.in_ok-tree.ensures.tree_value at c.root_of-root.ensures in
    (_, root_asked _ m.0 m.1 _ _ l h _ _ c.tables-t.ensures.children k _ r, weight_le c.args.yard.now.parents.now _, omega arith)

pub returns : goal.returns
returns c =
    let e = (sym c.in_ok-tree.ensures.result_value) in
    let m = matched_tree _ e in
    let k = c.start.ensures.kept e in
    let l = c.sizes-length.ensures ∙ sizes_shortest _ m.0 _ k in
    let h : c.sizes-length.result ≤ length c.args.plan.now / 2 = omega (arith, c.if-plan-length.false) in
    let r = rw c.in_ok-tree.ensures.tree_value at c.root_of-root.ensures in
    let a = root_asked _ m.0 m.1 _ _ l h _ _ c.tables-t.ensures.children k _ r in
    let p = plan_written _ m.0 m.1 _ _ l h _ r _ _ _ (c.balance_subtrees-count.ensures _ a) in
    let f = plan_accepted _ m.0 m.1 c.args.plan.now _ l h in
    record { result_value = rw (f, ← p.0) refl; plan_value = rw f p.1 }

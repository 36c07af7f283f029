-- `parts::plan::plan_parts` meets its contract: refused as a yard with no plan is, then for the part list, then for the plan list, as the
-- sizes of the demands are the plan's length, and the parts' plans together are as long; else the parts are named and planned (the laws are
-- in Planning).
use mathlib.Core.Path.{◌≡◌, refl, ◌∙◌, sym}
use Prim.Native.Nat.{◌/◌, ◌≤◌, ◌<◌}
use native.Mathlib.Omega.{arith}
use lib.ListN.{length}
use Rattle.laws.proofs.Judged.{facts, wood}
use Rattle.laws.proofs.Calls.{matched_tree}
use Rattle.laws.proofs.Refused.{told_on}
use Rattle.laws.proofs.PartsCall.{parts_matched, parts_two}
use Rattle.planner.proofs.Planning.{front_length, sizes_range, sizes_shortest}
use Rattle.parts.proofs.Planning.{parts_refused, parts_short, parts_accepted, names_asked, parts_asked}
use Rattle.parts.proofs.plan.plan_parts.Goals as goal

pub returns-in_err-start : goal.returns-in_err-start
returns-in_err-start c =
    let f = parts_matched _ c.args.plan.now c.args.parts.now _ (sym c.in_err-start.ensures.result_value) in
    let r = parts_refused _ c.args.plan.now c.args.parts.now _ f in
    record { result_value = told_on _ _ c.from_residual.ensures.1 _ r.0; plan_value = r.1.0; parts_value = r.1.1 }

pub returns-then-parts-n : goal.returns-then-parts-n
returns-then-parts-n c =
    let e = (sym c.in_ok-start.ensures.result_value) in
    let m = matched_tree _ e in
    let f = parts_two _ c.args.plan.now c.args.parts.now m.0 m.1 (omega (arith, c.if-parts-n.true)) in
    let r = parts_refused _ c.args.plan.now c.args.parts.now _ f in
    record { result_value = r.0; plan_value = r.1.0; parts_value = r.1.1 }

pub shared_ref_as_front-sizes : goal.shared_ref_as_front-sizes
shared_ref_as_front-sizes c = omega (arith, (facts _ (matched_tree _ (sym c.in_ok-start.ensures.result_value)).0).few)

pub sizes-length-requires : goal.sizes-length-requires
sizes-length-requires c =
    let e = (sym c.in_ok-start.ensures.result_value) in
    let m = matched_tree _ e in
    let k = c.start.ensures.kept e in
    (omega (arith, front_length _ m.0 _ k, (facts _ m.0).few), sizes_range _ m.0 _ k)

pub returns-then-plan-length : goal.returns-then-plan-length
returns-then-plan-length c =
    let e = (sym c.in_ok-start.ensures.result_value) in
    let m = matched_tree _ e in
    let n : length c.args.parts.now ≡ length c.args.yard.now.parents.now = omega (arith, c.if-parts-n.false) in
    let l = c.sizes-length.ensures ∙ sizes_shortest _ m.0 _ (c.start.ensures.kept e) in
    let h : length c.args.plan.now / 2 < c.sizes-length.result = omega (arith, c.if-plan-length.true) in
    let f = parts_short _ c.args.plan.now c.args.parts.now m.0 m.1 n _ l h in
    let r = parts_refused _ c.args.plan.now c.args.parts.now _ f in
    record { result_value = r.0; plan_value = r.1.0; parts_value = r.1.1 }

pub name_parts-requires : goal.name_parts-requires
name_parts-requires c =
    let e = (sym c.in_ok-start.ensures.result_value) in
    let m = matched_tree _ e in
    (_, names_asked _ m.0 m.1 _ (c.start.ensures.kept e) _ (omega (arith, c.if-parts-n.false)))

pub tables-t-requires : goal.tables-t-requires
tables-t-requires c =
    let t = (matched_tree _ (sym c.in_ok-start.ensures.result_value)).0 in
    record { few = (facts _ t).few.1; node = (wood _ t).parent_lt }

pub plan_each-count-requires : goal.plan_each-count-requires
plan_each-count-requires c =
    let e = (sym c.in_ok-start.ensures.result_value) in
    let m = matched_tree _ e in
    let k = c.start.ensures.kept e in
    let n : length c.args.parts.now ≡ length c.args.yard.now.parents.now = omega (arith, c.if-parts-n.false) in
    let l = c.sizes-length.ensures ∙ sizes_shortest _ m.0 _ k in
    let h : c.sizes-length.result ≤ length c.args.plan.now / 2 = omega (arith, c.if-plan-length.false) in
    let d = c.name_parts.ensures _ (names_asked _ m.0 m.1 _ k _ n) in
    (_, parts_asked _ m.0 m.1 _ k _ c.tables-t.ensures.children _ _ l h _ d)

pub returns : goal.returns
returns c =
    let e = (sym c.in_ok-start.ensures.result_value) in
    let m = matched_tree _ e in
    let k = c.start.ensures.kept e in
    let n : length c.args.parts.now ≡ length c.args.yard.now.parents.now = omega (arith, c.if-parts-n.false) in
    let l = c.sizes-length.ensures ∙ sizes_shortest _ m.0 _ k in
    let h : c.sizes-length.result ≤ length c.args.plan.now / 2 = omega (arith, c.if-plan-length.false) in
    let d = c.name_parts.ensures _ (names_asked _ m.0 m.1 _ k _ n) in
    let r = c.plan_each-count.ensures _ (parts_asked _ m.0 m.1 _ k _ c.tables-t.ensures.children _ _ l h _ d) in
    let f = parts_accepted _ c.args.plan.now c.args.parts.now m.0 m.1 n _ l h in
    record { result_value = rw (f, ← r.counted) refl; plan_value = rw f r.written; parts_value = rw f d }

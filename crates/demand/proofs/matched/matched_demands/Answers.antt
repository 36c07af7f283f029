-- `matched_demands` is refused as the yard is, then by the root's demand.
use native.Mathlib.Omega.{arith}
use Prim.Native.Nat.{ℕ, ◌<◌}
use mathlib.Core.List.{List}
use mathlib.Core.Path.{◌≡◌, sym, ap, ◌∙◌}
use lib.ListN.{get_or}
use lib.IntN.{ℤ, pos}
use mir.Syntax.{w16}
use mir.Val.{to_z, of_z}
use mir.ValLaws.{to_z-of_z}
use Rattle.model.specs.declared.Lists.{Lists}
use Rattle.model.specs.Given.{listed}
use Rattle.model.specs.Yard.{Yard, root, demand}
use Rattle.model.specs.Judge.{Tree}
use Rattle.demand.specs.Filling.{demands_then}
use Rattle.laws.proofs.Judged.{facts, wood}
use Rattle.laws.proofs.Refused.{passed_on}
use Rattle.laws.proofs.Calls.{matched_refused, matched_totals, matched_none}
use Rattle.laws.proofs.Signed.{demand_range}
use Rattle.demand.proofs.Numbers.{small_fits}
use Rattle.demand.proofs.Answers.{demands_at, then_front}
use Rattle.demand.proofs.Refused.{root_demand}
use Rattle.demand.proofs.matched.matched_demands.Goals.{After-root_of-root}
use Rattle.demand.proofs.matched.matched_demands.Goals as goal

-- the root's entry
entry : (y : Yard) (list : List ℤ) {now : List ℤ} {v : ℕ} → Tree y → now ≡ demands_then y list → v ≡ root y
    → get_or now v (pos 0) ≡ demand y (root y)
entry y list t e found = rw found (demands_at y _ (root y) (then_front y list e t) (wood y t).root_lt)

-- the tree's root is that of the lists
found : {l m : Lists} {v : ℕ} → l ≡ m → v ≡ root (listed l) → v ≡ root (listed m)
found e f = rw e at f

within : (c : After-root_of-root) → c.root_of-root.result < 256
within c =
    let a = c.args in
    let y = listed a.yard.now in
    let t = (sym c.in_ok-tree.ensures.result_value) in
    omega (arith, found c.in_ok-tree.ensures.tree_value c.root_of-root.ensures, (wood y t).root_lt, (facts y t).few)

pub returns-in_err-tree-clause-result_value : goal.returns-in_err-tree-clause-result_value
returns-in_err-tree-clause-result_value c =
    let f = sym (matched_refused _ (sym c.in_err-tree.ensures.result_value)) in
    passed_on _ _ c.from_residual.ensures.1 f

pub offset_bounds-list-root : goal.offset_bounds-list-root
offset_bounds-list-root c = omega (arith, within c)

pub slice_copy_out-t-15 : goal.slice_copy_out-t-15
slice_copy_out-t-15 c = omega (arith, within c, c.requires, c.list-1.given)

pub returns-then-list-root-ne0 : goal.returns-then-list-root-ne0
returns-then-list-root-ne0 c =
    let a = c.args in
    let y = listed a.yard.now in
    let t = (sym c.in_ok-tree.ensures.result_value) in
    let e = c.tree_demands.ensures.list_value in
    let z = entry y _ t e (found c.in_ok-tree.ensures.tree_value c.root_of-root.ensures) in
    record {
      result_value = sym (matched_totals y t (λ m. c.if-list-root-ne0.true (ap (of_z w16) (z ∙ (root_demand y t).0 m))));
      tree_value = tt;
      list_value = e;
    }

-- where the totals agree
pub returns : goal.returns
returns c =
    let a = c.args in
    let y = listed a.yard.now in
    let t = (sym c.in_ok-tree.ensures.result_value) in
    let e = c.tree_demands.ensures.list_value in
    let z = entry y _ t e (found c.in_ok-tree.ensures.tree_value c.root_of-root.ensures) in
    let held = sym (to_z-of_z w16 _ (small_fits _ (rw z (demand_range y t (root y))))) in
    record {
      result_value = sym (matched_none y t ((root_demand y t).1 (sym z ∙ held ∙ ap (to_z w16) c.if-list-root-ne0.false)));
      tree_value = c.in_ok-tree.ensures.tree_value;
      list_value = e;
    }

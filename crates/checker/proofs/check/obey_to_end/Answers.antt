-- `obey_to_end` obeys a copy in the first entries of an array, one for each node. If no move is refused they are the counts at
-- the end, and the search for an empty target decides.
use mathlib.Core.Path.{◌≡◌, refl, sym, ap, ◌∙◌}
use mathlib.Core.List.{List}
use Prim.Native.Nat.{ℕ}
use native.Mathlib.Omega.{arith}
use lib.ListN.{length}
use lib.Dec.{ltb}
use Rattle.lists.specs.Find.{firstBelow}
use Rattle.model.specs.Yard.{Yard, pebble, target, below, head_or}
use Rattle.model.specs.Judge.{at_lowest, Tree}
use Rattle.model.specs.Push.{Move, after, run}
use Rattle.model.specs.Calls.Plans.{moves_of}
use Rattle.laws.proofs.Found.{lowest_fault, lowest_none}
use Rattle.laws.proofs.Judged.{facts}
use Rattle.laws.proofs.Runs.{obeys, run_tree}
use Rattle.laws.proofs.Refused.{passed_on}
use Rattle.lists.proofs.Found.{some_is, none_is}
use Rattle.checker.proofs.Laws.{front_all, front_zeros, came_back}
use Rattle.checker.proofs.check.obey_to_end.Goals as goal

-- a search in the counts that the moves leave is one in the yard at the end
ended : (y : Yard) → Tree y → (ms : List Move) (qs : List ℕ) → qs ≡ after y ms → (r : ℕ) → r ≡ firstBelow qs y.targets
    → let z = run y ms in r ≡ head_or (length y.parents) (below (length y.parents) (λ v. ltb (pebble z v) (target z v)))
ended y t ms qs e r h = rw (e, (facts (run y ms) (run_tree (obeys ms y t) t)).pebbles_size) at h

pub slice_bounds-counts-end : goal.slice_bounds-counts-end
slice_bounds-counts-end c = (facts _ c.args.yard.now.tree).few.1

pub slice_bounds-obey_copy-end : goal.slice_bounds-obey_copy-end
slice_bounds-obey_copy-end c = sym (front_zeros _ (facts _ c.args.yard.now.tree).few.1)

pub obey_copy-requires : goal.obey_copy-requires
obey_copy-requires c =
    let f = facts _ c.args.yard.now.tree in
    record { plan_len = omega arith; counts_len = front_zeros _ f.few.1 ∙ sym f.pebbles_size }

pub returns-in_err-obey_copy : goal.returns-in_err-obey_copy
returns-in_err-obey_copy c = passed_on _ _ c.from_residual.ensures.1 (rw (rw front_all at (sym c.in_err-obey_copy.ensures.result_value)))

pub slice_bounds-counts-end-2 : goal.slice_bounds-counts-end-2
slice_bounds-counts-end-2 c = (came_back _ _ (facts _ c.args.yard.now.tree).few.1 c.obey_copy.auto.counts).fits

pub slice_bounds-first_below-end : goal.slice_bounds-first_below-end
slice_bounds-first_below-end c = (came_back _ _ (facts _ c.args.yard.now.tree).few.1 c.obey_copy.auto.counts).long

pub first_below-requires : goal.first_below-requires
first_below-requires c =
    let f = facts _ c.args.yard.now.tree in
    f.targets_size ∙ (came_back _ _ f.few.1 c.obey_copy.auto.counts).long

pub returns-in-Some : goal.returns-in-Some
returns-in-Some c =
    let o = c.obey_copy in
    let back = came_back _ _ (facts _ c.args.yard.now.tree).few.1 o.auto.counts in
    let at-end = back.is ∙ rw front_all at c.in_ok-obey_copy.ensures.counts_value in
    let f = some_is _ _ _ c.in-Some.ensures in
    let e = ended _ c.args.yard.now.tree (moves_of c.args.plan.now) _ at-end _ f.0 in
    rw (rw front_all at (sym c.in_ok-obey_copy.ensures.result_value), lowest_fault _ _ 14 _ e (omega (arith, f.1, back.long, ap length back.is)))

pub returns : goal.returns
returns c =
    let o = c.obey_copy in
    let back = came_back _ _ (facts _ c.args.yard.now.tree).few.1 o.auto.counts in
    let at-end = back.is ∙ rw front_all at c.in_ok-obey_copy.ensures.counts_value in
    let e = ended _ c.args.yard.now.tree (moves_of c.args.plan.now) _ at-end _ refl in
    rw (rw front_all at (sym c.in_ok-obey_copy.ensures.result_value), ap (at_lowest 14) (lowest_none _ _ _ e (omega (arith, none_is _ _ c.in_default.ensures, back.long, ap length back.is))))

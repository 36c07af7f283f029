-- `wear_to_end` obeys and counts on a copy in the first entries of an array, one for each node. If no move is refused they are the counts
-- at the end, and the search for an empty target decides.
use mathlib.Core.Path.{◌≡◌, refl, sym, ap, ◌∙◌}
use mathlib.Core.List.{List}
use Prim.Native.Nat.{ℕ}
use native.Mathlib.Omega.{arith}
use lib.ListN.{length}
use lib.Dec.{ltb}
use Rattle.lists.specs.Find.{firstBelow}
use Rattle.model.specs.Yard.{Yard, pebble, target, below, head_or}
use Rattle.model.specs.Judge.{at_lowest, Tree}
use Rattle.model.specs.Push.{Move, after, run}
use Rattle.laws.proofs.Found.{lowest_fault, lowest_none}
use Rattle.laws.proofs.Judged.{facts}
use Rattle.laws.proofs.Refused.{told_on}
use Rattle.lists.proofs.Found.{some_is, none_is}
use Rattle.laws.proofs.Runs.{obeys, run_tree}
use Rattle.laws.proofs.Calls.{answer_answered, answer_refused}
use Rattle.checker.proofs.Laws.{front_zeros, came_back}
use Rattle.wear.proofs.call.wear_to_end.Goals as goal

-- a search in the counts that the moves leave is one in the yard at the end
ended : (y : Yard) → Tree y → (ms : List Move) (ps qs : List ℕ) → ps ≡ qs → qs ≡ after y ms → (r : ℕ)
    → r ≡ firstBelow ps y.targets
    → let n = length y.parents in let z = run y ms in r ≡ head_or n (below n (λ v. ltb (pebble z v) (target z v)))
ended y t ms ps qs b e r h = rw (b ∙ e, (facts (run y ms) (run_tree (obeys ms y t) t)).pebbles_size) at h

pub slice_bounds-counts-end : goal.slice_bounds-counts-end
slice_bounds-counts-end c = (facts _ c.args.yard.now.tree).few.1

pub slice_bounds-count_copy-end : goal.slice_bounds-count_copy-end
slice_bounds-count_copy-end c = sym (front_zeros _ (facts _ c.args.yard.now.tree).few.1)

pub count_copy-requires : goal.count_copy-requires
count_copy-requires c =
    let f = facts _ c.args.yard.now.tree in
    record { asked = c.requires; counts_len = front_zeros _ f.few.1 ∙ sym f.pebbles_size }

pub returns-in_err-worn : goal.returns-in_err-worn
returns-in_err-worn c = told_on _ _ c.from_residual.ensures.1 _ (rw (answer_refused _ _ _ (sym c.in_err-worn.ensures.result_value)))

pub slice_bounds-counts-end-2 : goal.slice_bounds-counts-end-2
slice_bounds-counts-end-2 c = (came_back _ _ (facts _ c.args.yard.now.tree).few.1 c.count_copy.auto.counts).fits

pub slice_bounds-first_below-end : goal.slice_bounds-first_below-end
slice_bounds-first_below-end c = (came_back _ _ (facts _ c.args.yard.now.tree).few.1 c.count_copy.auto.counts).long

pub first_below-requires : goal.first_below-requires
first_below-requires c =
    let f = facts _ c.args.yard.now.tree in
    f.targets_size ∙ (came_back _ _ f.few.1 c.count_copy.auto.counts).long

pub returns-in-Some : goal.returns-in-Some
returns-in-Some c =
    let o = c.count_copy in
    let back = came_back _ _ (facts _ c.args.yard.now.tree).few.1 o.auto.counts in
    let free = (answer_answered _ _ _ (sym c.in_ok-worn.ensures.result_value)).0 in
    let f = some_is _ _ _ c.in-Some.ensures in
    let e = ended _ c.args.yard.now.tree _ _ _ back.is (rw free at c.in_ok-worn.ensures.counts_value) _ f.0 in
    rw (free, lowest_fault _ _ 14 _ e (omega (arith, f.1, back.long, ap length back.is)))

pub returns : goal.returns
returns c =
    let o = c.count_copy in
    let back = came_back _ _ (facts _ c.args.yard.now.tree).few.1 o.auto.counts in
    let free = (answer_answered _ _ _ (sym c.in_ok-worn.ensures.result_value)).0 in
    let e = ended _ c.args.yard.now.tree _ _ _ back.is (rw free at c.in_ok-worn.ensures.counts_value) _ refl in
    c.in_ok-worn.ensures.result_value ∙ rw (free, ap (at_lowest 14) (lowest_none _ _ _ e (omega (arith, none_is _ _ c.in_default.ensures, back.long, ap length back.is))))

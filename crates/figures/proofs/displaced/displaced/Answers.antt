-- `displaced` is refused as the yard is; or else sums over the nodes what they hold above what stays, which the demands tell.
use native.Mathlib.Omega.{arith}
use Prim.Native.Nat.{ℕ, ◌≤◌}
use mathlib.Core.Path.{◌≡◌, sym, ap, ◌∙◌}
use lib.Seq.{length-take-le}
use Rattle.model.specs.Given.{listed}
use Rattle.model.specs.Yard.{Yard, size}
use Rattle.model.specs.Judge.{Tree}
use Rattle.model.specs.Calls.Answers.{answered}
use Rattle.laws.proofs.Judged.{facts}
use Rattle.laws.proofs.Calls.{matched_tree}
use Rattle.demand.proofs.Answers.{then_front, demands_small}
use Rattle.figures.proofs.Leaving.{moving_displaced}
use Rattle.figures.proofs.displaced.displaced.Goals as goal

-- the demands have an entry for each node
room : (y : Yard) → Tree y → (n : ℕ) → n ≡ 256 → size y ≤ n
room y t n e = omega (arith, (facts y t).few)

pub slice_bounds-demands-end : goal.slice_bounds-demands-end
slice_bounds-demands-end c =
    let a = c.args in
    let y = listed a.yard.now in
    let t = matched_tree y (sym c.in_ok-matched_demands.ensures.result_value) in
    room y t.0 _ (omega arith)

pub slice_bounds-leaving-end : goal.slice_bounds-leaving-end
slice_bounds-leaving-end c =
    let a = c.args in
    let y = listed a.yard.now in
    let t = matched_tree y (sym c.in_ok-matched_demands.ensures.result_value) in
    sym (length-take-le _ _ (room y t.0 _ (omega arith)))

pub leaving-out-requires : goal.leaving-out-requires
leaving-out-requires c =
    let a = c.args in
    let y = listed a.yard.now in
    let t = matched_tree y (sym c.in_ok-matched_demands.ensures.result_value) in record {
      parents_len_bound = ((facts y t.0).few.1, length-take-le _ _ (room y t.0 _ (omega arith)));
      by_index = (demands_small y t.0 (then_front y _ c.matched_demands.ensures.list_value t.0)).1;
    }

pub slice_bounds-demands-end-2 : goal.slice_bounds-demands-end-2
slice_bounds-demands-end-2 c =
    let a = c.args in
    let y = listed a.yard.now in
    let t = matched_tree y (sym c.in_ok-matched_demands.ensures.result_value) in
    room y t.0 _ (omega arith)

pub slice_bounds-moving-end : goal.slice_bounds-moving-end
slice_bounds-moving-end c =
    let a = c.args in
    let y = listed a.yard.now in
    let t = matched_tree y (sym c.in_ok-matched_demands.ensures.result_value) in
    sym (length-take-le _ _ (room y t.0 _ (omega arith)))

pub moving-count-requires : goal.moving-count-requires
moving-count-requires c =
    let a = c.args in
    let y = listed a.yard.now in
    let t = matched_tree y (sym c.in_ok-matched_demands.ensures.result_value) in
    let f = facts y t.0 in record {
      pebbles_len_bound = (
        omega (arith, f.few, f.pebbles_size),
        omega (arith, f.pebbles_size, f.depths_size),
        length-take-le _ _ (room y t.0 _ (omega arith)) ∙ sym f.pebbles_size,
        omega (arith, f.few, f.pebbles_size, c.leaving-out.ensures.0),
      );
      by_index = (demands_small y t.0 (then_front y _ c.matched_demands.ensures.list_value t.0)).1;
    }

pub returns : goal.returns
returns c =
    let a = c.args in
    let y = listed a.yard.now in
    let passes = (sym c.in_ok-matched_demands.ensures.result_value) in
    let t = matched_tree y passes in
    let d = then_front y _ c.matched_demands.ensures.list_value t.0 in
    rw passes (ap answered (c.moving-count.ensures ∙ moving_displaced y t.0 t.1 c.leaving-out.result d c.leaving-out.ensures))

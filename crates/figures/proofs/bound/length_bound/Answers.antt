-- `length_bound` is refused as the yard is; or else gives the shortest length, which is the plan's, and twice as many bytes.
use native.Mathlib.Omega.{arith}
use Prim.Native.Nat.{ℕ, ◌≤◌}
use mathlib.Core.Path.{◌≡◌, sym, ap, ◌∙◌}
use lib.Seq.{length-take-le}
use Rattle.model.specs.Given.{listed}
use Rattle.model.specs.Yard.{Yard, size}
use Rattle.model.specs.Judge.{Tree}
use Rattle.model.specs.Calls.Answers.{answered}
use Rattle.model.specs.Calls.Demands.{length_of}
use Rattle.laws.proofs.Judged.{facts}
use Rattle.laws.proofs.Calls.{matched_tree}
use Rattle.laws.proofs.Signed.{shortest_small}
use Rattle.laws.proofs.Longest.{bound_answer_law}
use Rattle.demand.proofs.Answers.{then_front, demands_small, demands_sum}
use Rattle.figures.proofs.bound.length_bound.Goals as goal

-- the demands have an entry for each node
room : (y : Yard) → Tree y → (n : ℕ) → n ≡ 256 → size y ≤ n
room y t n e = omega (arith, (facts y t).few)

pub slice_bounds-demands-end : goal.slice_bounds-demands-end
slice_bounds-demands-end c =
    let a = c.args in
    let y = listed a.yard.now in
    let t = matched_tree y (sym c.in_ok-matched_demands.ensures.result_value) in
    room y t.0 _ (omega arith)

pub slice_bounds-sizes-end : goal.slice_bounds-sizes-end
slice_bounds-sizes-end c =
    let a = c.args in
    let y = listed a.yard.now in
    let t = matched_tree y (sym c.in_ok-matched_demands.ensures.result_value) in
    sym (length-take-le _ _ (room y t.0 _ (omega arith)))

pub sizes-moves-requires : goal.sizes-moves-requires
sizes-moves-requires c =
    let a = c.args in
    let y = listed a.yard.now in
    let t = matched_tree y (sym c.in_ok-matched_demands.ensures.result_value) in
    demands_small y t.0 (then_front y _ c.matched_demands.ensures.list_value t.0)

pub overflow_mul-result : goal.overflow_mul-result
overflow_mul-result c =
    let a = c.args in
    let y = listed a.yard.now in
    let t = matched_tree y (sym c.in_ok-matched_demands.ensures.result_value) in
    let measured = c.sizes-moves.ensures ∙ demands_sum y (then_front y _ c.matched_demands.ensures.list_value t.0) in
    omega (arith, measured, shortest_small y t.0)

pub returns : goal.returns
returns c =
    let a = c.args in
    let y = listed a.yard.now in
    let passes = (sym c.in_ok-matched_demands.ensures.result_value) in
    let d = then_front y _ c.matched_demands.ensures.list_value (matched_tree y passes).0 in
    rw (bound_answer_law y, passes) (ap (λ (n : ℕ). answered (length_of n)) (c.sizes-moves.ensures ∙ demands_sum y d))

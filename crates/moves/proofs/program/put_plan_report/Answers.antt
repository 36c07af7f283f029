-- `put_plan_report` writes the report by the columns that the demands split into: `fill` has written the demands of all nodes, in the first n entries of an
-- array of 256, and the columns stand in the first n entries of two more. That is the report of the plan.
use mathlib.Core.Path.{◌≡◌, sym, ap, ◌∙◌}
use mathlib.Core.List.{List, ◌++◌}
use Prim.Native.Nat.{ℕ, ◌≤◌}
use native.Mathlib.Omega.{arith}
use lib.ListN.{length, take, replicate, length-append}
use lib.IntN.{ℤ}
use lib.Seq.{length-take-le, take_at}
use Rattle.model.specs.Yard.{Yard, size}
use Rattle.model.specs.Judge.{Tree}
use Rattle.model.specs.Calls.Demands.{demands_of}
use Rattle.laws.proofs.Judged.{facts}
use Rattle.demand.proofs.Answers.{demands_long, demands_front, demands_small}
use Rattle.sheet.specs.Report.{Columns}
use Rattle.sheet.proofs.Edges.{report_short}
use Rattle.sheet.proofs.Writing.{written_as}
use Rattle.moves.specs.Report.{Demands, Split}
use Rattle.moves.proofs.Edges.{split_columns, planned_few, planned_report}
use Rattle.moves.proofs.program.put_plan_report.Goals as goal

module _ (y : Yard) (t : Tree y) where
  few : size y ≤ 256
  few = (facts y t).few.1

  -- the front of an array of 256 zeros
  zeros : length (take (size y) (replicate {A = ℕ} 256 0)) ≡ size y
  zeros = length-take-le _ _ few

  -- the first n entries of the array are the demands
  module _ {list : List ℤ} (rest : List ℤ) (e : list ≡ demands_of y) where
    front : take (size y) (list ++ rest) ≡ demands_of y
    front = demands_front y rest e

    long : length (take (size y) (list ++ rest)) ≡ size y
    long = demands_long y front

    demanded : Demands (take (size y) (list ++ rest))
    demanded = let d = demands_small y t front in record { few = d.0; small = d.1 }

    -- the first n entries of the two arrays are the columns
    columns : {xs zs : List ℕ} → length xs ≡ size y → length zs ≡ size y
        → Split (take (size y) (list ++ rest)) xs zs (length (take (size y) (list ++ rest))) → Columns xs zs
    columns l k s = split_columns _ _ _ demanded (l ∙ sym long) (k ∙ sym long) s

    all_split : (xs zs : List ℕ) → Split (take (size y) (list ++ rest)) xs zs (length (take (size y) (list ++ rest)))
        → Split (take (size y) (list ++ rest)) xs zs (size y)
    all_split _ _ s v i = s v (omega (arith, i, long))

pub slice_bounds-demands-end : goal.slice_bounds-demands-end
slice_bounds-demands-end c = few _ c.requires.0.tree

pub slice_bounds-fill-end : goal.slice_bounds-fill-end
slice_bounds-fill-end c = sym (length-take-le _ _ (few _ c.requires.0.tree))

pub fill-requires : goal.fill-requires
fill-requires c = length-take-le _ _ (few _ c.requires.0.tree)

pub slice_bounds-demands-end-2 : goal.slice_bounds-demands-end-2
slice_bounds-demands-end-2 c = simp length-append (omega (arith, c.fill.auto.list ∙ length-take-le _ _ (few _ c.requires.0.tree)))

pub slice_bounds-split-end : goal.slice_bounds-split-end
slice_bounds-split-end c = sym (long _ c.requires.0.tree _ c.fill.ensures)

pub slice_bounds-ups-end : goal.slice_bounds-ups-end
slice_bounds-ups-end c = few _ c.requires.0.tree

pub slice_bounds-split-end-2 : goal.slice_bounds-split-end-2
slice_bounds-split-end-2 c = sym (zeros _ c.requires.0.tree)

pub slice_bounds-downs-end : goal.slice_bounds-downs-end
slice_bounds-downs-end c = few _ c.requires.0.tree

pub slice_bounds-split-end-3 : goal.slice_bounds-split-end-3
slice_bounds-split-end-3 c = sym (zeros _ c.requires.0.tree)

pub split-requires : goal.split-requires
split-requires c =
    let t = c.requires.0.tree in
    let l = zeros _ t ∙ sym (long _ t _ c.fill.ensures) in
    (demanded _ t _ c.fill.ensures, l, l)

pub slice_bounds-ups-end-2 : goal.slice_bounds-ups-end-2
slice_bounds-ups-end-2 c = simp length-append (omega (arith, c.split.auto.ups ∙ zeros _ c.requires.0.tree))

pub slice_bounds-put_report-end : goal.slice_bounds-put_report-end
slice_bounds-put_report-end c =
    let l = c.split.auto.ups ∙ zeros _ c.requires.0.tree in
    sym (ap length (take_at c.split.new.ups _ _ l) ∙ l)

pub slice_bounds-downs-end-2 : goal.slice_bounds-downs-end-2
slice_bounds-downs-end-2 c = simp length-append (omega (arith, c.split.auto.downs ∙ zeros _ c.requires.0.tree))

pub slice_bounds-put_report-end-2 : goal.slice_bounds-put_report-end-2
slice_bounds-put_report-end-2 c =
    let l = c.split.auto.downs ∙ zeros _ c.requires.0.tree in
    sym (ap length (take_at c.split.new.downs _ _ l) ∙ l)

pub put_report-requires : goal.put_report-requires
put_report-requires c =
    let p = c.requires.0 in
    let l = c.split.auto.ups ∙ zeros _ p.tree in
    let k = c.split.auto.downs ∙ zeros _ p.tree in
    rw (take_at c.split.new.ups _ _ l, take_at c.split.new.downs _ _ k)
    (columns _ p.tree _ c.fill.ensures l k c.split.ensures, planned_few _ p, omega (arith, c.requires.1, l))

pub returns : goal.returns
returns c =
    let p = c.requires.0 in
    let l = c.split.auto.ups ∙ zeros _ p.tree in
    let k = c.split.auto.downs ∙ zeros _ p.tree in
    let e = c.fill.ensures in
    let q = c.root_of-root.ensures in
    let w = rw (take_at c.split.new.ups _ _ l, take_at c.split.new.downs _ _ k) at c.put_report.ensures in
    let s = report_short _ _ c.root_of-root.result _ (columns _ p.tree _ e l k c.split.ensures) (planned_few _ p) in
    record {
      written = written_as (planned_report _ p _ _ _ _ (front _ p.tree _ e) l (all_split _ p.tree _ e _ _ c.split.ensures) q) w;
      upper_bound = omega (arith, w.end, s, l);
    }

-- The crossing report (request 2.1). On any tree each accepted push crosses one edge, and none is the root's, so both columns add up to the number
-- of accepted pushes; and the plan crosses each edge as its demand at the start says.
use mathlib.Core.Path.{◌≡◌, refl, sym, ap, ◌∙◌}
use mathlib.Core.Bool.{Bool, true, false, not, cond}
use mathlib.Core.Option.{some}
use mathlib.Core.List.{List, [], ◌∷◌, ◌++◌, map}
use Prim.Native.Nat.{ℕ, zero, suc, ◌+◌, ◌*◌, ◌≤◌, ◌<◌}
use native.Mathlib.Omega.{arith}
use native.Mathlib.Decide.{ℕ_discrete}
use lib.ListN.{length}
use lib.Dec.{eqb}
use borrow.Author.Tests.{lt-leb, eq-eqb, ne_eqb}
use Rattle.model.specs.Yard.{Yard, size, one, sum, below, root, demand, lacking, surplus, Matched}
use Rattle.model.specs.Judge.{Fault, row, Tree}
use Rattle.model.specs.Push.{Move, accepted, ups, downs}
use Rattle.model.specs.Plan.{plan}
use Rattle.model.specs.Calls.Answers.{answered, refused}
use Rattle.model.specs.Calls.Plans.{plan_fault}
use Rattle.model.specs.Sheets.{read_yard, edges, report_row, report, move_lines, move_sheet, refusal_sheet, program_plan_bytes, program}
use Rattle.laws.specs.Report.{total}
use Rattle.laws.proofs.Basics.{all_below}
use Rattle.laws.proofs.Sums.{sum_cong, sum_add, sum_pick, sum_ones, length_below}
use Rattle.laws.proofs.Judged.{wood}
use Rattle.laws.proofs.Signed.{above0, below0, demand_parts}
use Rattle.laws.proofs.Runs.{obeys, root_run, crossings_length}
use Rattle.laws.proofs.Calls.{totals_none, plan_none}
use Rattle.laws.proofs.Ranges.{map_all}
use Rattle.laws.proofs.Demand3.{plan_optimal}
use Rattle.laws.proofs.Sheets.{program_cut}

total_map_append : (f : ℕ → ℕ) (xs ys : List ℕ) → total (map f (xs ++ ys)) ≡ total (map f xs) + total (map f ys)
unfolding total
total_map_append f [] ys = omega arith
total_map_append f (x ∷ xs) ys = omega (arith, total_map_append f xs ys)

pub total_below : (f : ℕ → ℕ) (p : ℕ → Bool) (n : ℕ) → total (map f (below n p)) ≡ sum n (λ v. one (p v) * f v)
unfolding total below sum
total_below f p zero = refl
total_below f p (suc n) = omega (arith, total_map_append f (below n p) (cond (p n) (n ∷ []) []), total_below f p n, last (p n))
  where
    last : (b : Bool) → total (map f (cond b (n ∷ []) [])) ≡ one b * f n
    last true = omega arith
    last false = omega arith

-- edges: what is 0 at the root is summed over them as over all nodes
pub total_edges : (y : Yard) (f : ℕ → ℕ) → f (root y) ≡ 0 → total (map f (edges y)) ≡ sum (size y) f
unfolding edges
total_edges y f e = total_below f _ (size y) ∙ sum_cong (size y) _ f (λ v _. go v (ℕ_discrete v (root y)))
  where
    go : (v : ℕ) → Dec (v ≡ root y) → one (not (eqb v (root y))) * f v ≡ f v
    go v (yes q) = rw (q, e, eq-eqb (root y) (root y) refl)
    go v (no d) = rw (ne_eqb v (root y) d) (omega arith)

module _ (y : Yard) (t : Tree y) where
  -- there are n - 1
  pub length_edges : length (edges y) + 1 ≡ size y
  unfolding edges
  length_edges = omega (
    arith,
    length_below (size y) (λ v. not (eqb v (root y))),
    sum_add (size y) (λ v. one (not (eqb v (root y)))) (λ v. one (eqb v (root y)) * 1),
    sum_pick (size y) (root y) (λ _. 1) (wood y t).root_lt,
    sum_cong (size y) (λ v. one (not (eqb v (root y))) + one (eqb v (root y)) * 1) (λ _. 1) (λ v _. either (eqb v (root y))),
    sum_ones (size y),
  )
    where
      either : (b : Bool) → one (not b) + one b * 1 ≡ 1
      either true = refl
      either false = refl

  module _ (ms : List Move) where
    -- the root has no edge to cross
    pub root_columns : (ups y ms (root y) ≡ 0) × (downs y ms (root y) ≡ 0)
    root_columns = root_run (obeys ms y t)

    -- the sum of both columns is the number of accepted moves
    pub columns : total (map (ups y ms) (edges y)) + total (map (downs y ms) (edges y)) ≡ length (accepted y ms)
    columns = rw (total_edges y (ups y ms) root_columns.0, total_edges y (downs y ms) root_columns.1)
        (sym (sum_add (size y) (ups y ms) (downs y ms)) ∙ crossings_length (obeys ms y t))

  module _ (m : Matched y) where
    -- so for the plan it is the total printed
    pub plan_columns : total (map (ups y (plan y)) (edges y)) + total (map (downs y (plan y)) (edges y)) ≡ length (plan y)
    plan_columns = columns (plan y) ∙ ap length (plan_optimal y t m).obeyed

    -- and its rows are the two parts of the demands at the start
    pub plan_rows : map (report_row y (plan y)) (edges y) ≡ map (λ v. v ∷ surplus y v ∷ lacking y v ∷ []) (edges y)
    unfolding edges
    plan_rows = map_all _ _ (edges y) (all_below _ (λ v. not (eqb v (root y))) (size y) (λ v l _. let c = (plan_optimal y t m).crossed v l in rw (c.0, c.1)))

    -- which the list of accounts has: how far each is below 0, and how far above
    pub plan_rows_demand : map (report_row y (plan y)) (edges y) ≡ map (λ v. v ∷ below0 (demand y v) ∷ above0 (demand y v) ∷ []) (edges y)
    unfolding edges
    plan_rows_demand = plan_rows ∙ map_all _ _ (edges y) (all_below _ (λ v. not (eqb v (root y))) (size y) (λ v _ _. let p = demand_parts y v in rw (p.0, p.1)))

-- what the program prints for a sheet that says a tree with as many pebbles as targets, whose plan has at most 32,768 moves; 'longer plans
-- meet 8' (2.10)
pub program_printed : (input : List ℕ) (y : Yard) → read_yard input ≡ answered y → Tree y → Matched y → length (plan y) ≤ 32_768 → program input ≡ move_lines (plan y) ++ report y (plan y)
unfolding move_sheet
program_printed input y e t m h = program_cut input ∙ rw (e, (plan_none y program_plan_bytes).1 (t, m, omega arith))

pub program_long : (input : List ℕ) (y : Yard) → read_yard input ≡ answered y → Tree y → Matched y → 32_768 < length (plan y) → program input ≡ refusal_sheet (row 8 (length (plan y)))
unfolding plan_fault
program_long input y e t m h = program_cut input ∙ rw (e, t, (totals_none y).1 m, lt-leb (2 * length (plan y)) program_plan_bytes (omega arith))

-- a refused yard prints as before: the refusal of its sheet, or of its plan
pub program_refused : (input : List ℕ) (f : Fault) → read_yard input ≡ refused f → program input ≡ refusal_sheet f
program_refused input f e = program_cut input ∙ rw e

pub program_unplanned : (input : List ℕ) (y : Yard) (f : Fault) → read_yard input ≡ answered y → plan_fault y program_plan_bytes ≡ some f → program input ≡ refusal_sheet f
program_unplanned input y f e p = program_cut input ∙ rw (e, p)

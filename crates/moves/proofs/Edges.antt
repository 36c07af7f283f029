-- The columns of the crossing report by the demands: each is short, and they are the crossings of the plan.
use mathlib.Core.Path.{◌≡◌, refl, sym, ap, ◌∙◌}
use mathlib.Core.List.{List, ◌++◌}
use Prim.Native.Nat.{ℕ, ◌*◌, ◌/◌, ◌≤◌, ◌<◌}
use native.Mathlib.Omega.{arith}
use native.Mathlib.Decide.{dec_lt}
use lib.ListN.{length, get_or, get_or-eq_default}
use lib.IntN.{ℤ, pos, negsuc, nat_abs}
use lib.Signed.{lt_z}
use mathlib.Core.Bool.{true, false}
use borrow.Author.Tests.{ltb-true}
use Rattle.model.specs.Yard.{Yard, size, root, demand}
use Rattle.model.specs.Plan.{plan}
use Rattle.model.specs.Calls.Answers.{rowUnit}
use Rattle.model.specs.Calls.Plans.{moves_of}
use Rattle.model.specs.Calls.Demands.{demands_of}
use Rattle.model.specs.Sheets.{move_lines, move_sheet}
use Rattle.laws.proofs.Signed.{above0, below0, parts_size, demand_parts}
use Rattle.laws.proofs.Equation2.{demands_entry}
use Rattle.laws.proofs.Calls.{moves_of_bytes, length_bytes}
use Rattle.laws.proofs.Demand3.{plan_fits, plan_optimal}
use Rattle.sheet.specs.Report.{Columns, report_of}
use Rattle.sheet.proofs.Edges.{report_is}
use Rattle.moves.specs.Report.{Demands, Split, Planned, plan_report, planSheet}

-- how far a demand is below 0, and above it
pub below_negative : (d : ℤ) → lt_z d (pos 0) ≡ true → nat_abs d ≡ below0 d
below_negative (pos n) h = absurd (omega (arith, ltb-true n 0 h))
below_negative (negsuc n) h = refl

pub below_other : (d : ℤ) → lt_z d (pos 0) ≡ false → 0 ≡ below0 d
below_other (pos n) h = refl
below_other (negsuc n) h = let no : ◌≡◌ {A = ℕ} 0 1 = cc in absurd (omega arith)

pub above_negative : (d : ℤ) → lt_z d (pos 0) ≡ true → 0 ≡ above0 d
above_negative (pos n) h = absurd (omega (arith, ltb-true n 0 h))
above_negative (negsuc n) h = refl

pub above_other : (d : ℤ) → lt_z d (pos 0) ≡ false → nat_abs d ≡ above0 d
above_other (pos n) h = refl
above_other (negsuc n) h = let no : ◌≡◌ {A = ℕ} 0 1 = cc in absurd (omega arith)

-- the columns: short, and the crossings of the plan
module _ (ds : List ℤ) (xs zs : List ℕ) (d : Demands ds) (l : length xs ≡ length ds) (k : length zs ≡ length ds) (s : Split ds xs zs (length ds)) where
  entry_small : (ys : List ℕ) (part : ℤ → ℕ) → length ys ≡ length ds → ((v : ℕ) → v < length ds → get_or ys v 0 ≡ part (get_or ds v (pos 0))) → ((z : ℤ) → part z ≤ nat_abs z) → (v : ℕ) → get_or ys v 0 < rowUnit
  entry_small ys part n e p v = go (dec_lt v (length ds))
    where
      go : Dec (v < length ds) → get_or ys v 0 < rowUnit
      go (yes h) = rw (e v h) (omega (arith, p (get_or ds v (pos 0)), d.small v))
      go (no h) = let m : length ys ≤ v = omega (arith, n) in rw (get_or-eq_default ys 0 m) (omega arith)

  pub split_columns : Columns xs zs
  split_columns = record {
    few = omega (arith, l, d.few);
    same = k ∙ sym l;
    up_small = entry_small xs below0 l (λ v h. (s v h).0) (λ z. omega (arith, parts_size z));
    down_small = entry_small zs above0 k (λ v h. (s v h).1) (λ z. omega (arith, parts_size z));
  }

-- the plan's report, and its sheet
module _ (y : Yard) {bs : List ℕ} (p : Planned y bs) where
  pub planned_length : length bs ≡ 2 * length (plan y)
  planned_length = ap length p.is ∙ length_bytes (plan y)

  pub planned_few : length bs / 2 < rowUnit
  planned_few = omega (arith, planned_length, plan_fits y p.tree p.matched)

  pub planned_report : (ds : List ℤ) (xs zs : List ℕ) (r : ℕ) → ds ≡ demands_of y → length xs ≡ size y → Split ds xs zs (size y) → r ≡ root y → report_of xs zs r (length bs / 2) ≡ plan_report y
  planned_report ds xs zs r e l s q =
      report_is y (plan y) xs zs r (length bs / 2) l
      (λ v h.
      let c = (plan_optimal y p.tree p.matched).crossed v h in
      let a = demand_parts y v in
      let d : get_or ds v (pos 0) ≡ demand y v = rw e (demands_entry y v h) in
      ((s v h).0 ∙ ap below0 d ∙ a.1 ∙ sym c.1, (s v h).1 ∙ ap above0 d ∙ a.0 ∙ sym c.0))
      q (omega (arith, planned_length))

  pub planned_sheet : move_lines (moves_of bs) ++ plan_report y ≡ planSheet y
  unfolding move_sheet
  planned_sheet = rw (p.is, moves_of_bytes)

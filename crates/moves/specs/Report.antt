-- The crossing report by the demands at the start (request 2.1): its columns are how far each demand is below 0 and above it.
use Rattle.std.specs.Prelude.{◌≡◌, List, ℕ, ◌+◌, ◌≤◌, ◌<◌, length, get_or, ℤ, pos, nat_abs}
use Rattle.model.specs.Yard.{Yard, max_size, max_demand, Matched}
use Rattle.model.specs.Judge.{Tree}
use Rattle.model.specs.Plan.{plan}
use Rattle.model.specs.Calls.Plans.{bytes}
use Rattle.model.specs.Sheets.{report, move_sheet}
use Rattle.laws.proofs.Signed.{above0, below0}
use Rattle.sheet.specs.Written.{move_lines_room}
use Rattle.sheet.specs.Report.{report_room}

-- the demands of a yard of at most 256 nodes
pub record Demands (demands : List ℤ) : Type 0 where
  pub few : length demands ≤ max_size
  pub small : (v : ℕ) → nat_abs (get_or demands v (pos 0)) ≤ max_demand

-- the first n entries of the two columns are those of the demands
abbrev pub Split : List ℤ → List ℕ → List ℕ → ℕ → Type 0
Split demands ups downs n = (v : ℕ) → v < n → (get_or ups v 0 ≡ below0 (get_or demands v (pos 0))) × (get_or downs v 0 ≡ above0 (get_or demands v (pos 0)))

-- the bytes of the plan of a tree with as many pebbles as targets, and its report and move sheet
pub record Planned (y : Yard) (bs : List ℕ) : Type 0 where
  pub tree : Tree y
  pub matched : Matched y
  pub is : bs ≡ bytes (plan y)

abbrev pub plan_report : Yard → List ℕ
plan_report y = report y (plan y)

abbrev pub planSheet : Yard → List ℕ
planSheet y = move_sheet y (plan y)

-- room for every output: a move sheet of a plan of so many bytes, of the largest yard
abbrev pub output_room : ℕ → ℕ
output_room bytes = move_lines_room bytes + report_room max_size

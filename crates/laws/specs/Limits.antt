-- When a plan meets refusal 9, and when lists lent to the reader meet 18: each 'exactly if'.
use Rattle.std.specs.Prelude.{◌≡◌, ◌↔◌, List, ℕ, ◌*◌, ◌≤◌, length}
use Rattle.std.proofs.Math.Option.{none}
use Rattle.model.specs.Judge.{row}
use Rattle.model.specs.Calls.Answers.{refused}
use Rattle.model.specs.Calls.Checks.{bytes_fault}
use Rattle.model.specs.Calls.Registers.{whole_moves}
use Rattle.model.specs.Sheets.{reader}

-- a plan of whole moves, at most 131,072
abbrev pub WholePlan : List ℕ → Type 0
WholePlan bs = (length bs ≡ 2 * whole_moves bs) × (whole_moves bs ≤ 131_072)

-- four lists with room for the largest yard
abbrev pub FourLists : List ℕ → List ℕ → List ℕ → List ℕ → Type 0
FourLists ps cs ts ds = (256 ≤ length ps) × (256 ≤ length cs) × (256 ≤ length ts) × (256 ≤ length ds)

pub record Limits : Type 0 where
  -- a plan passes 9 exactly if it is whole and not too long
  pub nine : (bs : List ℕ) → (bytes_fault bs ≡ none) ↔ WholePlan bs
  -- whatever the sheet, the reader gives 18 exactly if one of its lists is shorter than 256
  pub eighteen : (sheet ps cs ts ds : List ℕ) → (reader sheet ps cs ts ds ≡ refused (row 18 0)) ↔ (¬ FourLists ps cs ts ds)

-- Request 2.10, 'All depths 1 must print the sheets of before': what was answered and printed before, by document 01's own table and three lists.
use Rattle.std.specs.Prelude.{◌≡◌, not, cond, ◌&&◌, List, [], ◌∷◌, ℕ, length, get_or, leb, ltb, eqb}
use Rattle.std.proofs.Math.Option.{Option, none, some}
use Rattle.model.specs.Yard.{Yard, max_size, up, held, sum, below, head_or, climbs, roots}
use Rattle.model.specs.Judge.{Fault, row, fault, first_of, unless, at_lowest, root_fault, judge, matched_fault}
use Rattle.model.specs.Plan.{choice, plan_by}
use Rattle.model.specs.Calls.Answers.{answered}
use Rattle.model.specs.Sheets.{read_yard, move_sheet, refusal_sheet, program}

module _ (parents pebbles targets : List ℕ) where
  -- refusals 1 to 6: 1, n; 2, a list's length; 3, a mark above 1, pebbles before targets; 4, a parent; 5, the roots; 6, a circle
  abbrev pub tests_before : List (Option Fault)
  tests_before =
      unless ((ltb 0 (length parents)) && (leb (length parents) max_size)) (fault 1 0)
      ∷ unless ((eqb (length pebbles) (length parents)) && (eqb (length targets) (length parents))) (fault 2 0)
      ∷ at_lowest 3 (below (length parents) (λ v. ltb 1 (get_or pebbles v 0)))
      ∷ at_lowest 3 (below (length parents) (λ v. ltb 1 (get_or targets v 0)))
      ∷ at_lowest 4 (below (length parents) (λ v. leb (length parents) (up parents v)))
      ∷ root_fault (roots parents)
      ∷ at_lowest 6 (below (length parents) (λ v. not (climbs (length parents) parents v (head_or 0 (roots parents)))))
      ∷ []

  unfoldable pub judge_before : Option Fault
  judge_before = first_of tests_before

  -- and 7
  unfoldable pub matched_before : Option Fault
  matched_before = first_of (judge_before ∷ unless (eqb (sum (length parents) (λ v. get_or pebbles v 0)) (sum (length parents) (λ v. get_or targets v 0))) (fault 7 0) ∷ [])

-- 27 stands where 3 stood
abbrev pub renumbered : Fault → Fault
renumbered f = row (cond (eqb f.number 3) 27 f.number) f.place

abbrev pub since : Option Fault → Option Fault
since none = none
since (some f) = some (renumbered f)

-- what was printed for a yard: the refusal, or the sheet of the plan whose turns fill a child wherever the node holds a pebble (`held`)
abbrev pub sheet_before : Yard → Option Fault → List ℕ
sheet_before y none = move_sheet y (plan_by held choice y)
sheet_before y (some f) = refusal_sheet (renumbered f)

-- of a yard whose depths are all 1, as many as there are nodes
pub record AsBefore (y : Yard) : Type 0 where
  pub judged : judge y ≡ since (judge_before y.parents y.pebbles y.targets)
  pub matched : matched_fault y ≡ since (matched_before y.parents y.pebbles y.targets)
  pub printed : (input : List ℕ) → read_yard input ≡ answered y → program input ≡ sheet_before y (matched_before y.parents y.pebbles y.targets)

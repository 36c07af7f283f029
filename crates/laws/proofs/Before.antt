-- Request 2.10, 'All depths 1 must print the sheets of before', for refused yards too. Where all depths are 1 each test of a yard says what document 01's own says, with 27
-- for its 3, and none meets 26.
use mathlib.Core.Path.{◌≡◌, refl, sym, ap, ◌∙◌}
use mathlib.Core.Bool.{Bool, true, false, not, ◌&&◌, and-true}
use mathlib.Core.List.{List, [], ◌∷◌, ◌++◌, map}
use mathlib.Core.Option.{Option, none, some}
use Prim.Native.Nat.{ℕ}
use lib.ListN.{length, take, drop}
use lib.Dec.{leb, ltb, eqb}
use borrow.Author.Tests.{eq-eqb}
use Rattle.model.specs.Yard.{Yard, size, max_size, max_depth, parent, pebble, target, capacity, Shallow, below, climbs, roots, root, pebbleCount, targetCount}
use Rattle.model.specs.Judge.{Fault, fault, first_of, unless, at_lowest, length_fault, root_fault, tests, judge, totals_fault, matched_fault}
use Rattle.model.specs.Calls.Answers.{answered}
use Rattle.model.specs.Sheets.{read_yard, program_plan_bytes, program}
use Rattle.laws.specs.Shallow.{tests_before, judge_before, matched_before, since, sheet_before, AsBefore}
use Rattle.laws.proofs.Basics.{none_below}
use Rattle.laws.proofs.Found.{below_cong}
use Rattle.laws.proofs.Calls.{matched_tree, plan_matched}
use Rattle.laws.proofs.Sheets.{read_sizes}
use Rattle.laws.proofs.Report.{program_unplanned}
use Rattle.laws.proofs.Shallow.{program_shallow}

-- a test that is passed can be left out
first_skip : (fs gs : List (Option Fault)) → first_of (fs ++ none ∷ gs) ≡ first_of (fs ++ gs)
first_skip [] gs = refl
first_skip (none ∷ fs) gs = first_skip fs gs
first_skip (some f ∷ fs) gs = refl

-- 3 read as 27
first_since : (fs : List (Option Fault)) → since (first_of fs) ≡ first_of (map since fs)
first_since [] = refl
first_since (none ∷ fs) = first_since fs
first_since (some f ∷ fs) = refl

since_unless : (b : Bool) (n : ℕ) → eqb n 3 ≡ false → unless b (fault n 0) ≡ since (unless b (fault n 0))
since_unless true n e = refl
since_unless false n e = rw e

since_lowest : (n : ℕ) → eqb n 3 ≡ false → (vs : List ℕ) → at_lowest n vs ≡ since (at_lowest n vs)
since_lowest n e [] = refl
since_lowest n e (v ∷ vs) = rw e

since_marks : (vs : List ℕ) → at_lowest 27 vs ≡ since (at_lowest 3 vs)
since_marks [] = refl
since_marks (v ∷ vs) = refl

since_root : (vs : List ℕ) → root_fault vs ≡ since (root_fault vs)
since_root [] = refl
since_root (r ∷ []) = refl
since_root (r ∷ s ∷ vs) = refl

module _ (y : Yard) (n : length y.depths ≡ size y) (d : Shallow y) where
  judged_before_law : judge y ≡ since (judge_before y.parents y.pebbles y.targets)
  unfolding judge judge_before
  judged_before_law = ap first_of same ∙ first_skip (take 2 (map since before)) (drop 2 (map since before)) ∙ sym (first_since before)
    where
      before : List (Option Fault)
      before = tests_before y.parents y.pebbles y.targets

      lengths : length_fault y ≡ since (unless ((eqb (length y.pebbles) (size y)) && (eqb (length y.targets) (size y))) (fault 2 0))
      lengths = rw (eq-eqb (length y.depths) (size y) n, and-true) (since_unless ((eqb (length y.pebbles) (size y)) && (eqb (length y.targets) (size y))) 2 refl)

      deep : at_lowest 26 (below (size y) (λ v. not ((ltb 0 (capacity y v)) && (leb (capacity y v) max_depth)))) ≡ none
      deep = ap (at_lowest 26) (none_below (size y) _ (λ v l. rw (d v l)))

      over : (f : ℕ → ℕ) → at_lowest 27 (below (size y) (λ v. ltb (capacity y v) (f v))) ≡ since (at_lowest 3 (below (size y) (λ v. ltb 1 (f v))))
      over f = ap (at_lowest 27) (below_cong (size y) _ (λ v. ltb 1 (f v)) (λ v l. rw (d v l))) ∙ since_marks (below (size y) (λ v. ltb 1 (f v)))

      same : tests y ≡ take 2 (map since before) ++ none ∷ drop 2 (map since before)
      same = cc (
        since_unless ((ltb 0 (size y)) && (leb (size y) max_size)) 1 refl,
        lengths,
        deep,
        over (pebble y),
        over (target y),
        since_lowest 4 refl (below (size y) (λ v. leb (size y) (parent y v))),
        since_root (roots y.parents),
        since_lowest 6 refl (below (size y) (λ v. not (climbs (size y) y.parents v (root y)))),
      )

  matched_before_law : matched_fault y ≡ since (matched_before y.parents y.pebbles y.targets)
  unfolding matched_fault matched_before
  matched_before_law =
      ap (λ (f : Option Fault). first_of (f ∷ totals_fault y ∷ [])) judged_before_law
      ∙ ap (λ (f : Option Fault). first_of (since before ∷ f ∷ [])) (since_unless (eqb (pebbleCount y) (targetCount y)) 7 refl)
      ∙ sym (first_since (before ∷ totals_fault y ∷ []))
    where
      before : Option Fault
      before = judge_before y.parents y.pebbles y.targets

  printed_before_law : (input : List ℕ) → read_yard input ≡ answered y → program input ≡ sheet_before y (matched_before y.parents y.pebbles y.targets)
  printed_before_law input e = go (matched_before y.parents y.pebbles y.targets) matched_before_law
    where
      go : (o : Option Fault) → matched_fault y ≡ since o → program input ≡ sheet_before y o
      go none h = let t = matched_tree y h in program_shallow y t.0 t.1 d input e
      go (some f) h = program_unplanned input y _ e (plan_matched y _ h program_plan_bytes)

  pub as_before : AsBefore y
  as_before = record { judged = judged_before_law; matched = matched_before_law; printed = printed_before_law }

-- a sheet has as many depths as nodes
pub sheets_before : (input : List ℕ) (y : Yard) → read_yard input ≡ answered y → Shallow y → AsBefore y
sheets_before input y e d = as_before y (read_sizes input y e).4 d

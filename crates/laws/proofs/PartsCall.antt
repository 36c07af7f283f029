-- The call that plans part by part (request 2.11). The parts' plans together are as long as the plan, so with a part list of n bytes it answers
-- as the planner does, on every yard and every plan list.
use mathlib.Core.Path.{◌≡◌, refl, sym, ap, ◌∙◌}
use mathlib.Core.Logic.{◌≢◌, ◌↔◌}
use mathlib.Core.List.{List}
use mathlib.Core.Option.{Option, none, some}
use Prim.Native.Nat.{ℕ, ◌*◌, ◌≤◌, ◌<◌}
use lib.ListN.{length, get_or, take, drop}
use borrow.Author.Tests.{eqb-true, eq-eqb, ne_eqb}
use Rattle.model.specs.Yard.{Yard, size, Matched}
use Rattle.model.specs.Judge.{Fault, fault, Tree, matched_tests, matched_fault}
use Rattle.model.specs.Plan.{plan}
use Rattle.model.specs.Parts.{topmost, parts_plan}
use Rattle.model.specs.Calls.Answers.{answered}
use Rattle.model.specs.Calls.Plans.{bytes, moves_of, plan_fault, plan_answer}
use Rattle.model.specs.Calls.Parts.{parts_tests, parts_fault, parts_answer, parts_plan_list, parts_list}
use Rattle.laws.specs.Demand3.{Optimal}
use Rattle.laws.specs.Parts.{TwoPushers}
use Rattle.laws.proofs.Basics.{All, none_all, unless_none, first_refused}
use Rattle.laws.proofs.Calls.{answer_answered, moves_of_bytes, length_bytes, take_overwrite, totals_none, matched_tree, plan_none, plan_matched}
use Rattle.laws.proofs.Ranges.{get_d_listed}
use Rattle.laws.proofs.Parts.{part_matched, part_struck}
use Rattle.laws.proofs.Mingling.{mingled_checked, mingled_optimal}
use Rattle.laws.proofs.PartTurns.{parts_mingling, parts_plan_length}
use Rattle.laws.proofs.TakenOut.{taken_tree, taken_matched, taken_plan, taken_sheet}

module _ (y : Yard) (list parts : List ℕ) where
  -- refusals 1 to 7 as the planner
  pub parts_matched : (f : Fault) → matched_fault y ≡ some f → parts_fault y list parts ≡ some f
  unfolding matched_fault parts_fault
  parts_matched f e = first_refused (matched_tests y) (drop 2 (parts_tests y list parts)) f e

  parts_passed : parts_fault y list parts ≡ none → All (λ r. r ≡ none) (parts_tests y list parts)
  unfolding parts_fault
  parts_passed e = none_all (parts_tests y list parts) e

  -- then 2 for a part list of another length
  pub parts_two : Tree y → Matched y → length parts ≢ size y → parts_fault y list parts ≡ fault 2 0
  unfolding parts_fault
  parts_two t m d = rw (t, (totals_none y).1 m, ne_eqb (length parts) (size y) d)

  -- then 8 with the whole length, or none
  parts_eight : Tree y → Matched y → length parts ≡ size y → parts_fault y list parts ≡ plan_fault y (length list)
  unfolding parts_fault plan_fault
  parts_eight t m e = rw (t, (totals_none y).1 m, eq-eqb (length parts) (size y) e, parts_plan_length y t m)

  -- so with a part list of n bytes it refuses and answers as the planner does
  pub parts_fault_law : length parts ≡ size y → parts_fault y list parts ≡ plan_fault y (length list)
  parts_fault_law e = go (matched_fault y) refl
    where
      go : (f : Option Fault) → matched_fault y ≡ f → parts_fault y list parts ≡ plan_fault y (length list)
      go (some f) q = parts_matched f q ∙ sym (plan_matched y f q (length list))
      go none q = let h = matched_tree y q in parts_eight h.0 h.1 e

  pub parts_answer_law : length parts ≡ size y → parts_answer y list parts ≡ plan_answer y list
  parts_answer_law e = go (plan_fault y (length list)) refl
    where
      go : (f : Option Fault) → plan_fault y (length list) ≡ f → parts_answer y list parts ≡ plan_answer y list
      go (some f) q = rw (parts_fault_law e, q)
      go none q = let h = (plan_none y (length list)).0 q in rw (parts_fault_law e, q, parts_plan_length y h.0 h.1)

  -- which yards and lists it accepts
  pub parts_none : (parts_fault y list parts ≡ none) ↔ (Tree y × Matched y × (length parts ≡ size y) × (2 * length (plan y) ≤ length list))
  parts_none = (
    (λ e.
        let l = same e in
        let h = (plan_none y (length list)).0 (sym (parts_fault_law l) ∙ e) in
        (h.0, h.1, l, h.2)),
    λ h. parts_fault_law h.2 ∙ (plan_none y (length list)).1 (h.0, h.1, h.3),
  )
    where
      same : parts_fault y list parts ≡ none → length parts ≡ size y
      same e = eqb-true (length parts) (size y) (unless_none _ 2 0 (parts_passed e).1.1.0)

  -- and what an accepted call leaves in the two lists: moves of which none is spare, as many as it answers, and the parts' topmost nodes
  pub parts_written : (k : ℕ) → parts_answer y list parts ≡ answered k
      → (length (plan y) ≡ k) × (moves_of (take (2 * k) (parts_plan_list y list parts)) ≡ parts_plan y) × Optimal y (parts_plan y)
      × ((v : ℕ) → v < size y → get_or (parts_list y list parts) v 0 ≡ topmost y v)
  parts_written k e =
      let a = answer_answered (parts_fault y list parts) (length (parts_plan y)) k e in
      let h = parts_none.0 a.0 in (
        sym (parts_plan_length y h.0 h.1) ∙ a.1,
        rw (a.0, take_overwrite (bytes (parts_plan y)) list (2 * k) (length_bytes (parts_plan y) ∙ ap (λ (x : ℕ). 2 * x) a.1)) (moves_of_bytes (parts_plan y)),
        mingled_optimal y h.0 h.1 (parts_plan y) (parts_mingling y h.0 h.1),
        λ v l. rw a.0 (get_d_listed (topmost y) 0 (size y) v l),
      )

pub two_pushers : (y : Yard) → Tree y → Matched y → TwoPushers y
two_pushers y t m = record {
  matched = part_matched y t m;
  as_long = parts_plan_length y t m;
  taken = λ s o. (taken_tree y t m s o, taken_matched y t m s o, taken_plan y t m s o);
  sheet = taken_sheet y t m;
  struck = part_struck y t m;
  mingled = mingled_checked y t m;
  own = parts_mingling y t m;
}

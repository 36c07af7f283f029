-- Demand 2 on a tree with as many pebbles as targets, and which trees the calls refuse as having no plan. The checker refuses none of the moves
-- of a list exactly if they are legal pushes one after another (`moves_fault_accepted`), and on a tree those are the moves of `Carries`. Pushes keep the number of pebbles, so once no target is empty the pebbles lie on exactly the targets. An
-- accepted list that ends so has at least the shortest length, and the plan has just that.
use mathlib.Core.Path.{◌≡◌, refl, sym, ap, ◌∙◌}
use mathlib.Core.Logic.{◌≢◌, ◌↔◌, ◌⊎◌, inl, inr}
use mathlib.Core.Bool.{Bool, true, false, not, ◌&&◌, ◌||◌, or-true, and-eq-true_iff}
use mathlib.Core.List.{List, []}
use mathlib.Core.Option.{none}
use Prim.Native.Nat.{ℕ, ◌+◌, ◌-◌, ◌*◌, ◌%◌, ◌≤◌, ◌<◌}
use native.Mathlib.Nat.{sub_self, mul-mod_right}
use native.Mathlib.Omega.{arith}
use lib.ListN.{length, drop, get_or}
use lib.Seq.{ext_get_or}
use lib.Dec.{leb, ltb, eqb}
use borrow.Author.Tests.{ltb-false, eqb-true, lt-ltb, le-ltb, le-leb, lt-leb, eq-eqb, ne_eqb}
use Rattle.model.specs.Yard.{Yard, size, parent, pebble, target, capacity, holding, below, shortest, Matched}
use Rattle.model.specs.Judge.{row, at_lowest, Tree, matched_fault}
use Rattle.model.specs.Push.{Move, push, adjacent, move_tests, move_fault, shifted, run, accepted, Solved}
use Rattle.model.specs.Plan.{choice, plan}
use Rattle.model.specs.Calls.Answers.{Answer, answered, refused}
use Rattle.model.specs.Calls.Demands.{bound_answer, displaced_answer}
use Rattle.model.specs.Calls.Plans.{bytes, moves_of, plan_answer, plan_list}
use Rattle.model.specs.Calls.Checks.{max_plan_bytes, bytes_fault, end_fault, Verdict, check_tests, check_fault, check_answer}
use Rattle.laws.specs.Demand2.{Carries, OnePlan, PlannerExact, CheckerExact, Accepts, Demand2}
use Rattle.laws.proofs.Basics.{below_none, none_below, none_all, all_none, at_lowest_none}
use Rattle.laws.proofs.Sums.{sum_tight}
use Rattle.laws.proofs.Judged.{facts}
use Rattle.laws.proofs.Bounds.{shortest_fits}
use Rattle.laws.proofs.Step.{Step, step, ends, moved_tree}
use Rattle.laws.proofs.Runs.{Obeys, obeys, run_tree, pebble_count_run}
use Rattle.laws.proofs.Shortest.{shortest_least}
use Rattle.laws.proofs.Choice.{neediest_some}
use Rattle.laws.proofs.Balance.{plan_balances, plan_only}
use Rattle.laws.proofs.Calls.{answer_answered, moves_of_bytes, length_bytes, take_overwrite, totals_none, plan_none, other_unless, other_lowest, other_moves, seven}
use Rattle.laws.proofs.Demand3.{plan_optimal, plan_length, plan_seven}
use Rattle.laws.proofs.Moves.{move_fault_legal, obeys_accepted, accepted_obeys, moves_fault_accepted}

-- one push
adjacent_parent : (y : Yard) (a b : ℕ) → adjacent y a b ≡ true → (parent y a ≡ b) ⊎ (parent y b ≡ a)
adjacent_parent y a b e = go (eqb (parent y a) b) refl ((and-eq-true_iff (not (eqb a b)) _).0 e).1
  where
    go : (x : Bool) → eqb (parent y a) b ≡ x → (x || (eqb (parent y b) a)) ≡ true → (parent y a ≡ b) ⊎ (parent y b ≡ a)
    go true q _ = inl (eqb-true (parent y a) b q)
    go false _ q = inr (eqb-true (parent y b) a q)

parent_adjacent : (y : Yard) (a b : ℕ) → (parent y a ≡ b) ⊎ (parent y b ≡ a) → a ≢ b → adjacent y a b ≡ true
parent_adjacent y a b (inl e) d = rw (ne_eqb a b d, eq-eqb (parent y a) b e)
parent_adjacent y a b (inr e) d = rw (ne_eqb a b d, eq-eqb (parent y b) a e) (or-true (eqb (parent y a) b))

carries_step : (y : Yard) → Tree y → (a b : ℕ) → a < size y → b < size y → (parent y a ≡ b) ⊎ (parent y b ≡ a) → a ≢ b → 0 < pebble y a → pebble y b < capacity y b → Step y (push a b)
unfolding move_fault
carries_step y t a b la lb n d p q = step y (push a b) ((move_fault_legal y t (push a b) 0).0 (all_none (move_tests y (push a b) 0) (
  rw (lt-ltb a (size y) la, lt-ltb b (size y) lb),
  (rw (parent_adjacent y a b n d), (rw (lt-ltb 0 (pebble y a) p), (rw (lt-leb (capacity y b) (pebble y b) q), tt))),
)))

-- a list of pushes
obeys_carries : {y z : Yard} {ms : List Move} → Obeys y ms z → Carries y.parents y.depths y.pebbles ms z.pebbles
unfolding shifted
obeys_carries Obeys.done = Carries.done
obeys_carries (Obeys.next {y} {m = m} s o) =
    let e = ends y m s in
    Carries.next e.0 e.1 (adjacent_parent y m.from m.to e.3) e.2 s.holds s.room (obeys_carries o)

carries_obeys : (y : Yard) {counts end : List ℕ} {ms : List Move} → Carries y.parents y.depths counts ms end → Tree (holding y counts) → Obeys (holding y counts) ms (holding y end)
unfolding shifted
carries_obeys y Carries.done t = Obeys.done
carries_obeys y (Carries.next {counts} {a = a} {b = b} la lb n d p q c) t =
    let s = carries_step (holding y counts) t a b la lb n d p q in
    Obeys.next s (carries_obeys y c (moved_tree (holding y counts) (push a b) s))

-- the yard that it leaves
end_fault_solved : (y : Yard) → Matched y → (end_fault y ≡ none) ↔ Solved y
end_fault_solved y m = (
  (λ e v l. sym (sum_tight (size y) (target y) (pebble y) (λ u k. ltb-false (pebble y u) (target y u) (below_none (size y) empty (at_lowest_none 14 (below (size y) empty) e) u k)) (omega arith) v l)),
  λ h. ap (at_lowest 14) (none_below (size y) empty (λ v l. le-ltb (pebble y v) (target y v) (omega (arith, h v l)))),
)
  where
    empty : ℕ → Bool
    empty v = ltb (pebble y v) (target y v)

solved_targets : (y : Yard) → Tree y → Solved y ↔ (y.pebbles ≡ y.targets)
solved_targets y t = (
  (λ h. let f = facts y t in ext_get_or 0 y.pebbles y.targets (omega arith) (λ v l. h v (omega arith))),
  λ e v _. ap (λ (l : List ℕ). get_or l v 0) e,
)

carries_solved : (y : Yard) → Tree y → (ms : List Move) → ((accepted y ms ≡ ms) × Solved (run y ms)) ↔ Carries y.parents y.depths y.pebbles ms y.targets
carries_solved y t ms =
    let last = solved_targets (run y ms) (run_tree (obeys ms y t) t) in (
      (λ h. rw (last.0 h.1) at (obeys_carries (accepted_obeys y t ms h.0))),
      λ c. let r = obeys_accepted (carries_obeys y c t) in (r.0, last.1 r.1),
    )

pub bytes_fault_even : (bs : List ℕ) (k : ℕ) → length bs ≡ 2 * k → k ≤ 131_072 → bytes_fault bs ≡ none
bytes_fault_even bs k e l = rw (e, mul-mod_right 2 k, le-leb (2 * k) max_plan_bytes (omega arith))

module _ (y : Yard) (t : Tree y) (m : Matched y) where
  pub check_fault_none : (bs : List ℕ) → (check_fault y bs ≡ none) ↔ ((bytes_fault bs ≡ none) × (accepted y (moves_of bs) ≡ moves_of bs) × Solved (run y (moves_of bs)))
  unfolding check_fault
  check_fault_none bs =
      let moves = moves_fault_accepted (moves_of bs) 0 y t in
      let end = end_fault_solved (run y (moves_of bs)) (pebble_count_run y t (moves_of bs) ∙ m) in (
        (λ e. let a = none_all (check_tests y bs) e in (a.1.1.0, moves.0 a.1.1.1.0, end.0 a.1.1.1.1.0)),
        λ h. all_none (check_tests y bs) (t, ((totals_none y).1 m, (h.0, (moves.1 h.1, (end.1 h.2, tt))))),
      )

  -- the excess: what the moves are more than the shortest length, which is never less than none
  pub check_excess : (bs : List ℕ) (v : Verdict) → check_answer y bs ≡ answered v → (v.moves ≡ length (moves_of bs)) × (v.moves ≡ shortest y + v.excess)
  check_excess bs v e =
      let a = answer_answered (check_fault y bs) _ v e in
      let h = (check_fault_none bs).0 a.0 in
      rw (← a.1) (refl, omega (arith, rw h.1 at (shortest_least y t (moves_of bs) h.2)))

  -- none for whatever list of the shortest length is accepted and solves the yard, the plan among them
  pub check_shortest : (ms : List Move) → accepted y ms ≡ ms → Solved (run y ms) → length ms ≡ shortest y → check_answer y (bytes ms) ≡ answered (record { moves = length ms; excess = 0 })
  check_shortest ms o h l =
      let e = moves_of_bytes ms in
      let b = bytes_fault_even (bytes ms) (length ms) (length_bytes ms) (omega (arith, shortest_fits y t m)) in
      rw ((check_fault_none (bytes ms)).1 (b, rw e o, rw e h), e, l, sub_self)

  pub check_plan : check_answer y (bytes (plan y)) ≡ answered (record { moves = length (plan y); excess = 0 })
  check_plan = check_shortest (plan y) (plan_optimal y t m).obeyed (plan_optimal y t m).solves (plan_length y t m)

  planner_exact : (list : List ℕ) → OnePlan y list (plan_answer y list) (plan_list y list)
  planner_exact list = record {
    moves = plan y;
    outputs = plan_balances y t m;
    only = plan_only y t m;
    written = λ h.
        let f = (plan_none y (length list)).1 (t, m, h) in
        (rw f, rw f (take_overwrite (bytes (plan y)) list (2 * length (plan y)) (length_bytes (plan y))));
  }

  -- no refusal, exactly if each move carries a pebble and they end on exactly the targets
  check_exact : (bs : List ℕ) (k : ℕ) → length bs ≡ 2 * k → k ≤ 131_072 → (check_fault y bs ≡ none) ↔ Carries y.parents y.depths y.pebbles (moves_of bs) y.targets
  check_exact bs k e l = (
    (λ a. let h = (check_fault_none bs).0 a in (carries_solved y t (moves_of bs)).0 (h.1, h.2)),
    λ c. let h = (carries_solved y t (moves_of bs)).1 c in (check_fault_none bs).1 (bytes_fault_even bs k e l, h.0, h.1),
  )

-- of a call that answers and leaves what the model says; and of one that accepts exactly where the model does, in whatever words
pub planner_exact_of : (y : Yard) (before after : List ℕ) (a : Answer ℕ) → a ≡ plan_answer y before → after ≡ plan_list y before → PlannerExact y before a after
planner_exact_of y before after a e f t m = rw (e, f) (planner_exact y t m before)

pub checker_exact_of : (y : Yard) (bs : List ℕ) (accepts : Type 0) → accepts ↔ (check_fault y bs ≡ none) → CheckerExact y bs accepts
checker_exact_of y bs accepts w t m k e l = let h = check_exact y t m bs k e l in ((λ a. h.0 (w.0 a)), λ c. w.1 (h.1 c))

pub accepts_none : (y : Yard) (bs : List ℕ) → Accepts (check_answer y bs) ↔ (check_fault y bs ≡ none)
accepts_none y bs = ((λ a. (answer_answered (check_fault y bs) _ a.0 a.1).0), λ e. (record { moves = length (moves_of bs); excess = length (moves_of bs) - shortest y }, rw e))

-- what the checker's call says of its answer
pub answers_exact : (y : Yard) (bs : List ℕ) (a : Answer Verdict) → a ≡ check_answer y bs → (a ≡ check_answer y bs) × CheckerExact y bs (Accepts a)
answers_exact y bs a e = (e, rw e (checker_exact_of y bs (Accepts (check_answer y bs)) (accepts_none y bs)))

pub demand_2 : (y : Yard) → Demand2 y
unfolding choice
demand_2 y = record {
  outputs = plan_balances y;
  only = plan_only y;
  picks = λ need u c h. neediest_some need y u c h;
  planner = λ list. planner_exact_of y list (plan_list y list) (plan_answer y list) refl refl;
  checker = λ bs. checker_exact_of y bs (Accepts (check_answer y bs)) (accepts_none y bs);
}

-- refusal 7: the calls that test the totals agree on it
pub seven_same : (y : Yard) → Tree y → (list bs : List ℕ) → ((plan_answer y list ≡ refused (row 7 0)) ↔ (¬ Matched y))
    × ((check_answer y bs ≡ refused (row 7 0)) ↔ (¬ Matched y))
    × ((bound_answer y ≡ refused (row 7 0)) ↔ (¬ Matched y))
    × ((displaced_answer y ≡ refused (row 7 0)) ↔ (¬ Matched y))
unfolding check_fault matched_fault
seven_same y t list bs = (
  plan_seven y list t,
  seven y t _ (drop 2 (check_tests y bs)) (
    other_unless 7 9 0 (omega arith) ((eqb (length bs % 2) 0) && (leb (length bs) max_plan_bytes)),
    (other_moves 7 (omega arith) (moves_of bs) 0 y, (other_lowest 7 14 (omega arith) (below (size y) (λ v. ltb (pebble (run y (moves_of bs)) v) (target y v))), tt)),
  ),
  seven y t _ [] tt,
  seven y t _ [] tt,
)

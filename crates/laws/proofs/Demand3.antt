-- Demand 3, whole: what holds of any list of pushes (Shortest), of the plan (Balance), and of the bytes that the planner writes (Calls).
use mathlib.Core.Path.{◌≡◌, sym, ap, ◌∙◌}
use mathlib.Core.Logic.{◌↔◌}
use mathlib.Core.List.{List}
use mathlib.Core.Option.{none}
use Prim.Native.Nat.{ℕ, ◌*◌, ◌≤◌, ◌/◌, ◌-◌}
use native.Mathlib.Omega.{arith}
use lib.ListN.{length, take, drop}
use lib.Dec.{leb}
use Rattle.model.specs.Yard.{Yard, size, pebble, target, Shallow, shortest, pebbleCount, Matched}
use Rattle.model.specs.Judge.{row, Tree}
use Rattle.model.specs.Push.{Move, run, accepted, Solved}
use Rattle.model.specs.Plan.{Rule, lowest_child, neediest_child, choice, Side, fills, plan_by, plan}
use Rattle.model.specs.Follow.{lifo}
use Rattle.model.specs.Calls.Answers.{answered, refused}
use Rattle.model.specs.Calls.Plans.{bytes, moves_of, plan_tests, plan_fault, plan_answer, plan_list}
use Rattle.model.specs.Calls.Checks.{max_plan_bytes}
use Rattle.model.specs.Sheets.{program_plan_bytes}
use Rattle.laws.specs.Demand3.{Optimal, Demand3}
use Rattle.laws.proofs.Sums.{sum_cong}
use Rattle.laws.proofs.Demands.{even_solved, solved_even, solved_iff}
use Rattle.laws.proofs.Bounds.{shortest_bound, shortest_max, shortest_fits, shortest_fits_shallow}
use Rattle.laws.proofs.Runs.{obeys, run_tree, pebble_count_run}
use Rattle.laws.proofs.Shortest.{Good, shortest_least, thrifty_crosses, good_tree}
use Rattle.laws.proofs.Follow.{follows_simple}
use Rattle.laws.proofs.LastIn.{lifo_follows}
use Rattle.laws.proofs.Choice.{Sound, lowest_sound, neediest_sound, choice_sound}
use Rattle.laws.proofs.Balance.{Steers, fills_steers, plan_by_good, plan_by_even}
use Rattle.laws.proofs.Calls.{answer_answered, moves_of_bytes, length_bytes, take_overwrite, plan_none, other_unless, seven}

module _ (y : Yard) (t : Tree y) where
  -- pushes bring no pebble in or out, so a yard that some list solves has as many as targets
  pub solved_matched : (ms : List Move) → Solved (run y ms) → Matched y
  solved_matched ms h = sym (pebble_count_run y t ms) ∙ sum_cong (size y) (pebble (run y ms)) (target y) h

  -- whatever is accepted, solves the yard and has the shortest length is optimal
  pub optimal : (ms : List Move) → accepted y ms ≡ ms → Solved (run y ms) → length ms ≡ shortest y → Optimal y ms
  optimal ms o h e = record {
    obeyed = o;
    solves = h;
    crossed = λ v l. omega (arith, thrifty_crosses y t ms (rw (o, (solved_iff (run y ms) (run_tree (obeys ms y t) t)).0 h) (omega arith)) v l, solved_even (run y ms) h v);
    least = λ ps k. omega (arith, shortest_least y t ps k);
    followed = λ ps. let r = lifo_follows y t ps in (lifo y (accepted y ps), r.0, r.1);
    simple = λ ps k f g. follows_simple y t ps g k (f ∙ e);
  }

  -- the plan under any sound side of turns and any sound rule of choice
  module _ (m : Matched y) (side : Side) (steers : Steers side y) (rule : Rule) (sound : Sound rule) where
    good : Good y (plan_by side rule y)
    good = plan_by_good side rule sound y t steers m

    pub plan_by_solves : Solved (run y (plan_by side rule y))
    plan_by_solves = even_solved (run y (plan_by side rule y)) (good_tree y t (plan_by side rule y) good) (plan_by_even side rule sound y t steers m)

    -- Theorem 14: it has as many moves as the shortest length says
    pub plan_by_length : length (plan_by side rule y) ≡ shortest y
    plan_by_length = omega (arith, good.spends, (solved_iff (run y (plan_by side rule y)) (good_tree y t (plan_by side rule y) good)).0 plan_by_solves)

    pub plan_by_optimal : Optimal y (plan_by side rule y)
    plan_by_optimal = optimal (plan_by side rule y) good.obeyed plan_by_solves plan_by_length

  module _ (m : Matched y) where
    pub plan_optimal : Optimal y (plan y)
    unfolding plan
    plan_optimal = plan_by_optimal m fills (fills_steers y) choice choice_sound

    pub plan_length : length (plan y) ≡ shortest y
    unfolding plan
    plan_length = plan_by_length m fills (fills_steers y) choice choice_sound

    -- request 2.6: the lowest child first and the neediest first give plans of one length
    pub rules_length : length (plan_by fills neediest_child y) ≡ length (plan_by fills lowest_child y)
    rules_length = plan_by_length m fills (fills_steers y) neediest_child neediest_sound ∙ sym (plan_by_length m fills (fills_steers y) lowest_child lowest_sound)

    pub plan_lowest : length (plan y) ≡ length (plan_by fills lowest_child y)
    unfolding plan choice
    plan_lowest = rules_length

    -- Corollary 15, and the same against the number of nodes: so checker and trial can read every plan, and where all depths are 1 the program's
    -- plan list has room for it
    pub plan_bound : length (plan y) ≤ pebbleCount y * (size y - 1)
    plan_bound = rw plan_length (shortest_bound y t m)

    pub plan_max : length (plan y) ≤ 8 * (size y * size y / 4)
    plan_max = rw plan_length (shortest_max y t m)

    pub plan_fits : 2 * length (plan y) ≤ max_plan_bytes
    plan_fits = rw plan_length (shortest_fits y t m)

    pub plan_fits_shallow : Shallow y → plan_fault y program_plan_bytes ≡ none
    plan_fits_shallow d = (plan_none y program_plan_bytes).1 (t, m, rw plan_length (shortest_fits_shallow y t m d))

module _ (y : Yard) (list : List ℕ) where
  -- the moves read back are those of the plan
  pub written : (m : ℕ) → plan_answer y list ≡ answered m → (length (plan y) ≡ m) × (take (2 * m) (plan_list y list) ≡ bytes (plan y))
  written m e =
      let a = answer_answered (plan_fault y (length list)) (length (plan y)) m e in
      (a.1, rw a.0 (take_overwrite (bytes (plan y)) list (2 * m) (length_bytes (plan y) ∙ ap (λ (x : ℕ). 2 * x) a.1)))

  pub plan_seven : Tree y → (plan_answer y list ≡ refused (row 7 0)) ↔ (¬ Matched y)
  unfolding plan_fault
  plan_seven t = seven y t (length (plan y)) (drop 2 (plan_tests y (length list))) (other_unless 7 8 (length (plan y)) (omega arith) (leb (2 * length (plan y)) (length list)), tt)

  pub demand_3 : Demand3 y list (plan_answer y list) (plan_list y list)
  demand_3 = record {
    accepts = ((λ a. n.0 (answer_answered (plan_fault y (length list)) (length (plan y)) a.0 a.1).0), λ h. (length (plan y), rw (n.1 h)));
    planned = λ m e.
        let w = written m e in
        let ms = ap moves_of w.1 ∙ moves_of_bytes (plan y) in
        let a = n.0 (answer_answered (plan_fault y (length list)) (length (plan y)) m e).0 in
        (rw ms w.0, rw ms (plan_optimal y a.0 a.1));
    no_plan = λ t. ((λ e ps h. (plan_seven t).0 e (solved_matched y t ps h)), λ h. (plan_seven t).1 (λ m. h (plan y) (plan_optimal y t m).solves));
  }
    where
      n : (plan_fault y (length list) ≡ none) ↔ (Tree y × Matched y × (2 * length (plan y) ≤ length list))
      n = plan_none y (length list)

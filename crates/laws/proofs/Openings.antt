-- Openings (request 2.13). A legal push lowers the shortest length by one if its edge wants it, and else raises it by one. So a shortest plan
-- starts with m exactly if m's edge wants m: what is left is then planned in one move less.
use mathlib.Core.Path.{◌≡◌, refl, sym, ap, ◌∙◌}
use mathlib.Core.Bool.{Bool, true, false, not, ◌&&◌, ◌||◌, or-false, and-true, and-eq-true_iff}
use mathlib.Core.List.{List, [], ◌∷◌, ◌++◌, map}
use mathlib.Core.Option.{some}
use mathlib.Core.Logic.{◌↔◌, inl, inr}
use Prim.Native.Nat.{ℕ, ◌+◌, ◌-◌, ◌*◌, ◌≤◌, ◌<◌}
use native.Mathlib.Omega.{arith}
use native.Mathlib.Decide.{ℕ_discrete, dec_le, dec_lt}
use lib.ListN.{length, take, drop, length-map}
use lib.Dec.{ltb, eqb}
use borrow.Author.Tests.{ltb-true, lt-ltb, le-ltb, eq-eqb, ne_eqb}
use Rattle.model.specs.Yard.{Yard, size, parent, one, sum, below, root, pebbles_in, targets_in, surplus, lacking, shortest, Matched}
use Rattle.model.specs.Judge.{Fault, Tree, matched_tests, matched_fault}
use Rattle.model.specs.Push.{Move, push, legal, moved, run, accepted, Solved}
use Rattle.model.specs.Plan.{plan}
use Rattle.model.specs.Openings.{wants, opening, openings_from, openings}
use Rattle.model.specs.Calls.Answers.{answered}
use Rattle.model.specs.Calls.Plans.{bytes, moves_of}
use Rattle.model.specs.Calls.Openings.{openings_tests, openings_fault, openings_answer, openings_list}
use Rattle.laws.specs.Algorithms.{need, crossing}
use Rattle.laws.specs.Openings.{ShortestPlan, Opens, Listed, Sorted, Before, EveryOpening}
use Rattle.laws.proofs.Basics.{one_le, first_refused}
use Rattle.laws.proofs.Sums.{sum_cong, sum_mono, sum_ones, sum_add, sum_swap, sum_pick, length_below}
use Rattle.laws.proofs.Judged.{wood}
use Rattle.laws.proofs.Demands.{solved_iff, root_even}
use Rattle.laws.proofs.Step.{Step, step, ends, legal_step, crosses, moved_tree}
use Rattle.laws.proofs.Runs.{Obeys, pebble_count_run, run_one}
use Rattle.laws.proofs.Shortest.{shortest_least, shortest_falls, shortest_grows}
use Rattle.laws.proofs.Calls.{answer_answered, moves_of_bytes, length_bytes, take_overwrite}
use Rattle.laws.proofs.Moves.{obeys_accepted, accepted_obeys}
use Rattle.laws.proofs.Demand3.{plan_optimal, plan_length}
use Rattle.laws.proofs.Listed.{sorted_once, collect_listed, listed_collect, sorted_collect, length_collect, listed_map, map_listed, sorted_map, listed_below, below_listed, sorted_below}

-- what is wanted of a legal push
wants_need : (y : Yard) (m : Move) (s : Step y m) → (wants y m ≡ true) ↔ (0 < need y s.away s.node)
wants_need y m s = rw ((crosses y m s m.from).1, (crosses y m s m.to).0, s.is) (go s.away)
  where
    go : (b : Bool) → ((((not b && eqb (crossing y.parents b s.node).from s.node) && ltb 0 (surplus y (crossing y.parents b s.node).from))
        || ((b && eqb (crossing y.parents b s.node).to s.node) && ltb 0 (lacking y (crossing y.parents b s.node).to))) ≡ true) ↔ (0 < need y b s.node)
    go true = rw (eq-eqb s.node s.node refl) (ltb-true 0 (lacking y s.node), lt-ltb 0 (lacking y s.node))
    go false = rw (eq-eqb s.node s.node refl, or-false) (ltb-true 0 (surplus y s.node), lt-ltb 0 (surplus y s.node))

-- an opening is a legal push that its edge needs
module _ (y : Yard) (e : Move) where
  pub opening_step : opening y e ≡ true → (s : Step y e) × (0 < need y s.away s.node)
  unfolding opening
  opening_step h =
      let b = (and-eq-true_iff (legal y e) (wants y e)).0 h in
      let s = step y e b.0 in
      (s, (wants_need y e s).0 b.1)

  pub step_opening : (s : Step y e) → 0 < need y s.away s.node → opening y e ≡ true
  unfolding opening
  step_opening s n = rw (legal_step y e s, (wants_need y e s).1 n)

-- the nodes to which an opening goes from a
abbrev tos : Yard → ℕ → List ℕ
tos y a = below (size y) (λ b. opening y (push a b))

-- the entries of the list are the openings
pub listed_opening : (y : Yard) (e : Move) → Listed e (openings y) ↔ (opening y e ≡ true)
unfolding openings
listed_opening y e = (
  (λ l.
      let c = listed_collect (openings_from y) (size y) e l in
      let r = map_listed (push c.0) e (tos y c.0) c.2 in
      rw r.2 (below_listed (λ b. opening y (push c.0 b)) (size y) r.0 r.1).1),
  λ h.
      let x = ends y e (opening_step y e h).0 in
      collect_listed (openings_from y) (size y) e.from e x.0 (listed_map (push e.from) e.to (tos y e.from) (listed_below (λ b. opening y (push e.from b)) (size y) e.to x.1 h)),
)

-- ordered by from and then to, each once
openings_sorted : (y : Yard) → Sorted Before (openings y)
unfolding openings
openings_sorted y = sorted_collect (openings_from y) Before
    (λ a. sorted_map (push a) (λ b c. b < c) Before (λ b c l. inr (refl, l)) (tos y a) (sorted_below (λ b. opening y (push a b)) (size y)))
    (λ a c x z l h k. inl (omega (arith, l, from a x h, from c z k)))
    (size y)
  where
    from : (a : ℕ) (x : Move) → Listed x (map (push a) (tos y a)) → x.from ≡ a
    from a x h = ap (λ (m : Move). m.from) (map_listed (push a) x (tos y a) h).2

-- so each once: none comes before itself
openings_once : (y : Yard) (xs ys : List Move) (e : Move) → openings y ≡ xs ++ e ∷ ys → (¬ Listed e xs) × (¬ Listed e ys)
openings_once y xs ys e q = sorted_once Before not_before xs ys e (rw q at (openings_sorted y))
  where
    not_before : (m : Move) → ¬ Before m m
    not_before m (inl l) = omega arith
    not_before m (inr l) = omega (arith, l.1)

-- obeying one leaves a yard whose shortest length is one less
opening_nearer : (y : Yard) (e : Move) → Listed e (openings y) → shortest y ≡ shortest (run y (e ∷ [])) + 1
opening_nearer y e l =
    let o = opening_step y e ((listed_opening y e).0 l) in
    rw (run_one y e (legal_step y e o.0)).0 (shortest_falls y e o.0 o.1)

obeys_next : {y z : Yard} {e : Move} {ps : List Move} → Obeys y (e ∷ ps) z → Step y e × Obeys (moved y e) ps z
obeys_next (Obeys.next s o) = (s, o)

module _ (y : Yard) (t : Tree y) (m : Matched y) where
  -- a plan is shortest exactly if it has as many moves as the shortest length says
  shortest_plan_iff : (ms : List Move) → ShortestPlan y ms ↔ ((accepted y ms ≡ ms) × Solved (run y ms) × (length ms ≡ shortest y))
  shortest_plan_iff ms = (
    (λ p. (
      p.obeyed,
      p.solves,
      omega (
        arith,
        plan_length y t m,
        p.least (plan y) (plan_optimal y t m).obeyed (plan_optimal y t m).solves,
        rw p.obeyed at (shortest_least y t ms p.solves),
      ),
    )),
    λ h. record { obeyed = h.0; solves = h.1; least = λ ps a q. omega (arith, h.2, rw a at (shortest_least y t ps q)) },
  )

  plan_shortest : ShortestPlan y (plan y)
  plan_shortest = (shortest_plan_iff (plan y)).1 ((plan_optimal y t m).obeyed, (plan_optimal y t m).solves, plan_length y t m)

  opens_opening : (e : Move) → Opens y e → opening y e ≡ true
  opens_opening e h = go (dec_lt 0 (need y s.away s.node))
    where
      ps : List Move
      ps = h.0

      both : Step y e × Obeys (moved y e) ps (run y (e ∷ ps))
      both = obeys_next (accepted_obeys y t (e ∷ ps) h.1.obeyed)

      s : Step y e
      s = both.0

      rest : shortest (moved y e) ≤ length ps
      rest =
          let a = obeys_accepted both.1 in
          rw a.0 at (shortest_least (moved y e) (moved_tree y e s) ps (rw a.1 h.1.solves))

      go : Dec (0 < need y s.away s.node) → opening y e ≡ true
      go (yes n) = step_opening y e s n
      go (no n) = absurd (omega (arith, rest, shortest_grows y e s (omega arith), ((shortest_plan_iff (e ∷ ps)).0 h.1).2))

  opening_opens : (e : Move) → opening y e ≡ true → Opens y e
  opening_opens e h =
      let o = opening_step y e h in
      let s = o.0 in
      let tz = moved_tree y e s in
      let mz : Matched (moved y e) = rw (run_one y e (legal_step y e s)).0 at (pebble_count_run y t (e ∷ [])) ∙ m in
      let a = obeys_accepted (Obeys.next s (accepted_obeys (moved y e) tz (plan (moved y e)) (plan_optimal (moved y e) tz mz).obeyed)) in (
        plan (moved y e),
        record {
          obeyed = a.0;
          solves = rw a.1 (plan_optimal (moved y e) tz mz).solves;
          least = λ ps b q. omega (arith, plan_length (moved y e) tz mz, shortest_falls y e s o.1, rw b at (shortest_least y t ps q));
        },
      )

  all_opens : (e : Move) → Listed e (openings y) ↔ Opens y e
  all_opens e = ((λ l. opening_opens e ((listed_opening y e).0 l)), λ h. (listed_opening y e).1 (opens_opening e h))

  plan_opens : (e : Move) (ps : List Move) → plan y ≡ e ∷ ps → Listed e (openings y)
  plan_opens e ps q = (all_opens e).1 (ps, rw q at plan_shortest)

  solved_none : (openings y ≡ []) ↔ Solved y
  solved_none = (
    (λ e. (solved_iff y t).1 (first (plan y) refl e)),
    λ h. none (openings y) refl ((solved_iff y t).0 h),
  )
    where
      first : (ms : List Move) → plan y ≡ ms → openings y ≡ [] → shortest y ≡ 0
      first [] q e = sym (plan_length y t m) ∙ ap length q
      first (x ∷ ms) q e = absurd (rw e at (plan_opens x ms q))

      none : (ms : List Move) → openings y ≡ ms → shortest y ≡ 0 → ms ≡ []
      none [] q h = refl
      none (x ∷ ms) q h = absurd (omega (arith, h, opening_nearer y x (rw q (inl refl))))

  -- the openings are every move with which some shortest plan starts, and nothing else
  pub every_opening : EveryOpening y (openings y)
  every_opening = record { all = all_opens; ordered = openings_sorted y; once = openings_once y; nearer = opening_nearer y; planned = plan_opens; none = solved_none }

-- the list has at most one move for each edge
module _ (y : Yard) (t : Tree y) where
  upwards : ℕ → ℕ
  upwards v = one (ltb 0 (surplus y v))

  downwards : ℕ → ℕ
  downwards v = one (ltb 0 (lacking y v))

  opening_le : (a b : ℕ) → one (opening y (push a b)) ≤ one (eqb b (parent y a)) * upwards a + one (eqb a (parent y b)) * downwards b
  unfolding opening upwards downwards
  opening_le a b = rw (eq-eqb a a refl, eq-eqb b b refl, and-true (eqb a (parent y b)))
      (go (legal y (push a b)) (eqb b (parent y a)) (ltb 0 (surplus y a)) (eqb a (parent y b)) (ltb 0 (lacking y b)))
    where
      go : (l p q r s : Bool) → one (l && ((p && q) || (r && s))) ≤ one p * one q + one r * one s
      go false p q r s = omega arith
      go true true true r s = omega arith
      go true true false true s = omega arith
      go true true false false s = omega arith
      go true false q true s = omega arith
      go true false q false s = omega arith

  openings_le : length (openings y) ≤ sum (size y) (λ v. upwards v + downwards v)
  unfolding openings
  openings_le = omega (
    arith,
    length_collect from (size y),
    sum_cong (size y) (λ a. length (from a)) (λ a. sum (size y) (λ b. one (opening y (push a b)))) (λ a _. length-map (tos y a) (push a) ∙ length_below (size y) (λ b. opening y (push a b))),
    sum_mono (size y) (λ a. sum (size y) (λ b. one (opening y (push a b)))) (λ a. upwards a + sum (size y) (down a)) (λ a l. omega (
      arith,
      sum_mono (size y) (λ b. one (opening y (push a b))) (λ b. one (eqb b (parent y a)) * upwards a + down a b) (λ b _. opening_le a b),
      sum_add (size y) (λ b. one (eqb b (parent y a)) * upwards a) (down a),
      sum_pick (size y) (parent y a) (λ _. upwards a) ((wood y t).parent_lt a l),
    )),
    sum_add (size y) upwards (λ a. sum (size y) (down a)),
    sum_add (size y) upwards downwards,
    sum_swap (size y) (size y) down,
    sum_cong (size y) (λ b. sum (size y) (λ a. down a b)) downwards (λ b l. sum_pick (size y) (parent y b) (λ _. downwards b) ((wood y t).parent_lt b l)),
  )
    where
      from : ℕ → List Move
      from a = map (push a) (tos y a)

      down : ℕ → ℕ → ℕ
      down a b = one (eqb a (parent y b)) * downwards b

  pub openings_few : Matched y → length (openings y) < size y
  unfolding upwards downwards
  openings_few m = omega (
    arith,
    openings_le,
    sum_add (size y) (λ v. upwards v + downwards v) (λ v. one (eqb v (root y)) * 1),
    sum_pick (size y) (root y) (λ _. 1) (wood y t).root_lt,
    sum_mono (size y) (λ v. upwards v + downwards v + one (eqb v (root y)) * 1) (λ _. 1) (λ v _. each v (ℕ_discrete v (root y))),
    sum_ones (size y),
  )
    where
      sign : (a b : ℕ) → Dec (a ≤ b) → one (ltb 0 (a - b)) + one (ltb 0 (b - a)) ≤ 1
      sign a b (yes h) = rw (le-ltb 0 (a - b) (omega arith)) (omega (arith, one_le (ltb 0 (b - a))))
      sign a b (no h) = rw (le-ltb 0 (b - a) (omega arith)) (omega (arith, one_le (ltb 0 (a - b))))

      each : (v : ℕ) → Dec (v ≡ root y) → upwards v + downwards v + one (eqb v (root y)) * 1 ≤ 1
      each v (yes q) = rw (q, le-ltb 0 (surplus y (root y)) (omega (arith, root_even y t m)), le-ltb 0 (lacking y (root y)) (omega (arith, root_even y t m)), eq-eqb (root y) (root y) refl) (omega arith)
      each v (no d) = rw (ne_eqb v (root y) d) (omega (arith, sign (pebbles_in y v) (targets_in y v) (dec_le (pebbles_in y v) (targets_in y v))))

-- refusals 1 to 7 as the planner
pub openings_matched : (y : Yard) (f : Fault) → matched_fault y ≡ some f → (room : ℕ) → openings_fault y room ≡ some f
unfolding matched_fault openings_fault
openings_matched y f e room = first_refused (matched_tests y) (drop 2 (openings_tests y room)) f e

-- what an accepted call wrote, read back
pub openings_written : (y : Yard) (list : List ℕ) (k : ℕ) → openings_answer y list ≡ answered k → (length (openings y) ≡ k) × (moves_of (take (2 * k) (openings_list y list)) ≡ openings y)
openings_written y list k e =
    let a = answer_answered (openings_fault y (length list)) (length (openings y)) k e in
    (a.1, rw (a.0, take_overwrite (bytes (openings y)) list (2 * k) (length_bytes (openings y) ∙ ap (λ (x : ℕ). 2 * x) a.1)) (moves_of_bytes (openings y)))

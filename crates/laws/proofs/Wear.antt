-- Wear (request 2.12). The answer is what was asked and nothing else is. Moving the stretch on by one takes a move away and brings one in, and each
-- crosses one edge: so only the edge of the move that comes in can have more crossings than before, and where it has more than all stretches before
-- had, it alone does. That makes an algorithm in steps, one for each move, which compares that one edge only.
use mathlib.Core.Path.{◌≡◌, refl, sym, ap, ◌∙◌}
use mathlib.Core.Logic.{◌≢◌, ◌↔◌}
use mathlib.Core.Bool.{Bool, true, false, not, cond, ◌&&◌, and-eq-true_iff}
use mathlib.Core.List.{List, [], ◌∷◌, ◌++◌}
use Prim.Native.Nat.{ℕ, zero, suc, ◌+◌, ◌-◌, ◌*◌, ◌≤◌, ◌<◌, max}
use native.Mathlib.Omega.{arith}
use native.Mathlib.Decide.{ℕ_discrete, dec_lt}
use lib.ListN.{length, get_or, take, drop, length-drop}
use lib.Seq.{take-suc, take_all, drop-cons, get_or-drop}
use lib.Dec.{leb, ltb, eqb}
use borrow.Author.Tests.{ltb-true, leb-true, eqb-true, eqb-false, eq-eqb, ne_eqb}
use Rattle.model.specs.Yard.{Yard, size, parent, one, lowest, most, root, imbalance, Matched}
use Rattle.model.specs.Judge.{Tree}
use Rattle.model.specs.Push.{Move, push, accepted, is_up, is_down, count}
use Rattle.model.specs.Plan.{plan}
use Rattle.model.specs.Wear.{stretch, stretches, wear_at, busiest, Wear, wear_over, wear}
use Rattle.model.specs.Calls.Answers.{answered}
use Rattle.model.specs.Calls.Plans.{moves_of}
use Rattle.model.specs.Calls.Checks.{check_tests, check_fault}
use Rattle.model.specs.Calls.Wear.{wear_tests, wear_fault, wear_answer}
use Rattle.laws.specs.Wear.{Worst}
use Rattle.laws.proofs.Basics.{one_le, below_none, none_all, unless_none}
use Rattle.laws.proofs.Sums.{most_le}
use Rattle.laws.proofs.Found.{found, lowest_is, lowest_none}
use Rattle.laws.proofs.Trees.{no_pair}
use Rattle.laws.proofs.Judged.{wood}
use Rattle.laws.specs.Algorithms.{crossing}
use Rattle.laws.proofs.Step.{Step, crosses, ends}
use Rattle.laws.proofs.Runs.{Obeys, root_run}
use Rattle.laws.proofs.Calls.{answer_answered, totals_none}
use Rattle.laws.proofs.Moves.{accepted_obeys}
use Rattle.laws.proofs.Demand3.{plan_optimal}
use Rattle.laws.proofs.Demand2.{check_fault_none}

-- most
most_met : (f : ℕ → ℕ) (n : ℕ) → 0 < n → (i : ℕ) × (i < n) × (f i ≡ most n f)
unfolding most
most_met f zero l = absurd (omega arith)
most_met f (suc zero) l = (0, omega arith, omega arith)
most_met f (suc (suc n)) l = go (dec_lt (most (suc n) f) (f (suc n))) (most_met f (suc n) (omega arith))
  where
    go : Dec (most (suc n) f < f (suc n)) → (i : ℕ) × (i < suc n) × (f i ≡ most (suc n) f) → (i : ℕ) × (i < suc (suc n)) × (f i ≡ max (most (suc n) f) (f (suc n)))
    go (yes h) r = (suc n, omega arith, omega arith)
    go (no h) r = (r.0, omega (arith, r.1), omega (arith, r.2))

most_is : (f : ℕ → ℕ) (n i c : ℕ) → i < n → f i ≡ c → ((v : ℕ) → v < n → f v ≤ c) → c ≡ most n f
most_is f n i c l e h = let r = most_met f n (omega arith) in omega (arith, most_le f n i l, r.2, h r.0 r.1)

most_lt : (f : ℕ → ℕ) (n c : ℕ) → 0 < n → ((v : ℕ) → v < n → f v < c) → most n f < c
most_lt f n c l h = let r = most_met f n l in omega (arith, r.2, h r.0 r.1)

most_one : (f : ℕ → ℕ) → most 1 f ≡ f 0
unfolding most
most_one f = omega arith

-- the lowest number below n at which f is k
abbrev pub lowest_at : ℕ → (ℕ → ℕ) → ℕ → ℕ
lowest_at n f k = lowest n (λ v. eqb (f v) k)

lowest_met : (n : ℕ) (f : ℕ → ℕ) (k i : ℕ) → i < n → f i ≡ k → (lowest_at n f k < n) × (f (lowest_at n f k) ≡ k) × ((v : ℕ) → v < lowest_at n f k → f v ≢ k)
lowest_met n f k i l e = go (dec_lt (lowest_at n f k) n)
  where
    p : ℕ → Bool
    p v = eqb (f v) k

    go : Dec (lowest_at n f k < n) → (lowest_at n f k < n) × (f (lowest_at n f k) ≡ k) × ((v : ℕ) → v < lowest_at n f k → f v ≢ k)
    go (yes h) = let a = lowest_is n n (lowest_at n f k) p refl (omega arith) in (h, eqb-true (f (lowest_at n f k)) k a.1, λ v m. eqb-false (f v) k (a.2 v m))
    go (no h) = absurd (eqb-false (f i) k (below_none n p (lowest_none n p (lowest_at n f k) refl (omega arith)) i l) e)

lowest_is_it : (n : ℕ) (f : ℕ → ℕ) (k i : ℕ) → i < n → f i ≡ k → ((v : ℕ) → v < i → f v ≢ k) → i ≡ lowest_at n f k
lowest_is_it n f k i l e h = found n n i (λ v. eqb (f v) k) l (λ v m. ne_eqb (f v) k (h v m)) (eq-eqb (f i) k e)

-- the answer, and that it is the only one
module _ (y : Yard) (w : ℕ) (ms : List Move) where
  busiest_le : (i v : ℕ) → v < size y → wear_at y w ms i v ≤ busiest y w ms i
  busiest_le i v l = most_le (wear_at y w ms i) (size y) v l

  pub wear_worst : (s : ℕ) → 0 < s → 0 < size y → Worst y w ms s (wear_over y w ms s)
  unfolding wear_over
  wear_worst s ls ln = record {
    first_lt = a.0;
    edge_lt = b.0;
    attained = b.1;
    largest = λ i v l k. omega (arith, busiest_le i v k, most_le (busiest y w ms) s i l);
    earliest = λ i v l k. omega (arith, a.0, busiest_le i v k, most_le (busiest y w ms) s i (omega (arith, a.0)), a.2 i l);
    lowest = λ v l. omega (arith, b.0, a.1, busiest_le r.first v (omega (arith, b.0)), b.2 v l);
  }
    where
      r : Wear
      r = wear_over y w ms s

      a : (r.first < s) × (busiest y w ms r.first ≡ r.crossings) × ((i : ℕ) → i < r.first → busiest y w ms i ≢ r.crossings)
      a = let h = most_met (busiest y w ms) s ls in lowest_met s (busiest y w ms) r.crossings h.0 h.1 h.2

      b : (r.edge < size y) × (wear_at y w ms r.first r.edge ≡ r.crossings) × ((v : ℕ) → v < r.edge → wear_at y w ms r.first v ≢ r.crossings)
      b = let h = most_met (wear_at y w ms r.first) (size y) ln in lowest_met (size y) (wear_at y w ms r.first) r.crossings h.0 h.1 (h.2 ∙ a.1)

  pub wear_only : (s : ℕ) (r : Wear) → Worst y w ms s r → r ≡ wear_over y w ms s
  unfolding wear_over
  wear_only s r h = rw (← c, ← i) (ap (λ (e : ℕ). record { crossings = r.crossings; first = r.first; edge = e }) e)
    where
      at : busiest y w ms r.first ≡ r.crossings
      at = sym (most_is (wear_at y w ms r.first) (size y) r.edge r.crossings h.edge_lt h.attained (λ v l. h.largest r.first v h.first_lt l))

      c : r.crossings ≡ most s (busiest y w ms)
      c = most_is (busiest y w ms) s r.first r.crossings h.first_lt at (λ i l. omega (arith, most_lt (wear_at y w ms i) (size y) (suc r.crossings) (omega (arith, h.edge_lt)) (λ v k. omega (arith, h.largest i v l k))))

      i : r.first ≡ lowest_at s (busiest y w ms) r.crossings
      i = lowest_is_it s (busiest y w ms) r.crossings r.first h.first_lt at
          (λ j l. omega (arith, most_lt (wear_at y w ms j) (size y) r.crossings (omega (arith, h.edge_lt)) (λ v k. h.earliest j v l k)))

      e : r.edge ≡ lowest_at (size y) (wear_at y w ms r.first) r.crossings
      e = lowest_is_it (size y) (wear_at y w ms r.first) r.crossings r.edge h.edge_lt h.attained (λ v l. omega (arith, h.lowest v l))

-- the edge that a move crosses
abbrev pub edge_of : Yard → Move → ℕ
edge_of y m = cond (eqb (parent y m.from) m.to) m.from m.to

-- how often a move crosses the edge of v
abbrev pub hits : Yard → Move → ℕ → ℕ
hits y m v = one (is_up y v m) + one (is_down y v m)

edge_node : (y : Yard) (m : Move) (s : Step y m) → edge_of y m ≡ s.node
edge_node y m s = rw s.is (go s.away)
  where
    go : (b : Bool) → edge_of y (crossing y.parents b s.node) ≡ s.node
    go true = rw (ne_eqb (parent y (parent y s.node)) s.node (λ e. no_pair (wood y s.tree) s.node (parent y s.node) s.node_lt s.off_root refl (sym e)))
    go false = rw (eq-eqb (parent y s.node) (parent y s.node) refl)

-- what each move of an accepted list crosses: one edge, which is not the root's
pub record Crossed (y : Yard) (m : Move) : Type 0 where
  pub from_lt : m.from < size y
  pub edge_lt : edge_of y m < size y
  pub off_root : edge_of y m ≢ root y
  pub once : (v : ℕ) → hits y m v ≡ one (eqb v (edge_of y m))

pub step_crossed : (y : Yard) (m : Move) → Step y m → Crossed y m
step_crossed y m s = record {
  from_lt = (ends y m s).0;
  edge_lt = rw (edge_node y m s) s.node_lt;
  off_root = rw (edge_node y m s) s.off_root;
  once = λ v. rw ((crosses y m s v).0, (crosses y m s v).1, edge_node y m s) (go s.away (eqb v s.node));
}
  where
    go : (b c : Bool) → one ((not b) && c) + one (b && c) ≡ one c
    go true true = refl
    go true false = refl
    go false true = refl
    go false false = refl

obeys_crossed : {y z : Yard} {ms : List Move} (d : Move) → Obeys y ms z → (j : ℕ) → j < length ms → Crossed y (get_or ms j d)
obeys_crossed d Obeys.done j l = absurd (omega arith)
obeys_crossed d (Obeys.next {y} {m = m} s o) zero l = step_crossed y m s
obeys_crossed d (Obeys.next {y} {m = m} s o) (suc j) l = let c = obeys_crossed d o j (omega arith) in record { from_lt = c.from_lt; edge_lt = c.edge_lt; off_root = c.off_root; once = c.once }

-- count
pub count_append : (p : Move → Bool) (ms ns : List Move) → count p (ms ++ ns) ≡ count p ms + count p ns
unfolding count
count_append p [] ns = omega arith
count_append p (m ∷ ms) ns = omega (arith, count_append p ms ns)

pub count_le : (p : Move → Bool) (ms : List Move) → count p ms ≤ length ms
unfolding count
count_le p [] = omega arith
count_le p (m ∷ ms) = omega (arith, one_le (p m), count_le p ms)

count_take : (p : Move → Bool) (n : ℕ) (ms : List Move) → count p (take n ms) ≤ count p ms
unfolding count
count_take p zero ms = omega arith
count_take p (suc n) [] = omega arith
count_take p (suc n) (m ∷ ms) = omega (arith, count_take p n ms)

count_drop : (p : Move → Bool) (n : ℕ) (ms : List Move) → count p (drop n ms) ≤ count p ms
unfolding count
count_drop p zero ms = omega arith
count_drop p (suc n) [] = omega arith
count_drop p (suc n) (m ∷ ms) = omega (arith, count_drop p n ms)

count_stretch : (p : Move → Bool) (w i : ℕ) (ms : List Move) → count p (stretch w ms i) ≤ count p ms
count_stretch p w i ms = omega (arith, count_take p w (drop i ms), count_drop p i ms)

pub wear_at_le : (y : Yard) (w : ℕ) (ms : List Move) (i v : ℕ) → wear_at y w ms i v ≤ 2 * length ms
unfolding wear_at
wear_at_le y w ms i v = omega (arith, count_stretch (is_up y v) w i ms, count_stretch (is_down y v) w i ms, count_le (is_up y v) ms, count_le (is_down y v) ms)

count_front : (p : Move → Bool) (ms : List Move) (d : Move) (w i : ℕ) → 0 < w → i < length ms → one (p (get_or ms i d)) ≤ count p (stretch w ms i)
unfolding count
count_front p ms d zero i lw l = absurd (omega arith)
count_front p ms d (suc w) i lw l = rw (drop-cons ms i d l) (omega arith)

-- a stretch moved on by one: one move goes, and one comes in
count_next : (p : Move → Bool) (ms : List Move) (d : Move) (w i : ℕ) → i + w < length ms
    → count p (stretch w ms (suc i)) + one (p (get_or ms i d)) ≡ count p (stretch w ms i) + one (p (get_or ms (i + w) d))
unfolding count
count_next p ms d w i l =
    let front : take (suc w) (drop i ms) ≡ get_or ms i d ∷ stretch w ms (suc i) = ap (take (suc w)) (drop-cons ms i d (omega arith)) in
    let back : take (suc w) (drop i ms) ≡ stretch w ms i ++ (get_or ms (i + w) d ∷ []) = take-suc (drop i ms) w d (omega (arith, length-drop i ms)) ∙ rw (get_or-drop i ms w d) in
    omega (arith, ap (count p) (sym front ∙ back), count_append p (stretch w ms i) (get_or ms (i + w) d ∷ []))

module _ (y : Yard) (w : ℕ) (ms : List Move) (d : Move) where
  pub wear_at_next : (i v : ℕ) → i + w < length ms → wear_at y w ms (suc i) v + hits y (get_or ms i d) v ≡ wear_at y w ms i v + hits y (get_or ms (i + w) d) v
  unfolding wear_at
  wear_at_next i v l = omega (arith, count_next (is_up y v) ms d w i l, count_next (is_down y v) ms d w i l)

  pub wear_at_front : (i v : ℕ) → 0 < w → i < length ms → hits y (get_or ms i d) v ≤ wear_at y w ms i v
  unfolding wear_at
  wear_at_front i v lw l = omega (arith, count_front (is_up y v) ms d w i lw l, count_front (is_down y v) ms d w i lw l)

  -- the first stretch, move by move, and what it gives
  pub wear_at_more : (v : ℕ) → w < length ms → wear_at y (suc w) ms 0 v ≡ wear_at y w ms 0 v + hits y (get_or ms w d) v
  unfolding wear_at count
  wear_at_more v l = rw (take-suc ms w d l) (omega (arith, count_append (is_up y v) (take w ms) (get_or ms w d ∷ []), count_append (is_down y v) (take w ms) (get_or ms w d ∷ [])))

  pub wear_start : wear_over y w ms 1 ≡ record { crossings = busiest y w ms 0; first = 0; edge = lowest_at (size y) (wear_at y w ms 0) (busiest y w ms 0) }
  unfolding wear_over
  wear_start = rw (most_one (busiest y w ms), ← (lowest_is_it 1 (busiest y w ms) (busiest y w ms 0) 0 (omega arith) refl (λ v l. absurd (omega arith))))

-- from stretch to stretch, by the move that goes and the one that comes in
module _ (y : Yard) (t : Tree y) (w : ℕ) (ms : List Move) (d : Move) (i : ℕ) (l : i + w < length ms) (goes : Crossed y (get_or ms i d)) (comes : Crossed y (get_or ms (i + w) d)) where
  pub wear_at_slides : (v : ℕ) → wear_at y w ms (suc i) v + one (eqb v (edge_of y (get_or ms i d))) ≡ wear_at y w ms i v + one (eqb v (edge_of y (get_or ms (i + w) d)))
  wear_at_slides v = omega (arith, wear_at_next y w ms d i v l, goes.once v, comes.once v)

  -- only the edge of the move that comes in can have more crossings than before
  pub wear_at_others : (v : ℕ) → v ≢ edge_of y (get_or ms (i + w) d) → wear_at y w ms (suc i) v ≤ wear_at y w ms i v
  wear_at_others v n = omega (arith, wear_at_slides v, ap one (ne_eqb v (edge_of y (get_or ms (i + w) d)) n))

  e : ℕ
  e = edge_of y (get_or ms (i + w) d)

  before : Worst y w ms (suc i) (wear_over y w ms (suc i))
  before = wear_worst y w ms (suc i) (omega arith) (omega (arith, (wood y t).root_lt))

  others : (v : ℕ) → v < size y → v ≢ e → wear_at y w ms (suc i) v ≤ (wear_over y w ms (suc i)).crossings
  unfolding e
  others v n q = omega (arith, wear_at_others v q, before.largest i v (omega arith) n)

  -- the largest is that of the stretches before, or this edge's
  largest_next : (c : ℕ) → (wear_over y w ms (suc i)).crossings ≤ c → wear_at y w ms (suc i) e ≤ c → (j v : ℕ) → j < suc (suc i) → v < size y → wear_at y w ms j v ≤ c
  largest_next c h g j v k n = go (ℕ_discrete j (suc i)) (ℕ_discrete v e)
    where
      go : Dec (j ≡ suc i) → Dec (v ≡ e) → wear_at y w ms j v ≤ c
      go (no p) q = omega (arith, before.largest j v (omega arith) n)
      go (yes p) (yes q) = rw (p, q) g
      go (yes p) (no q) = rw p (omega (arith, others v n q))

  -- so either nothing changes, or that edge has more than all before and is the answer from there on
  pub wear_stays : wear_at y w ms (suc i) (edge_of y (get_or ms (i + w) d)) ≤ (wear_over y w ms (suc i)).crossings → wear_over y w ms (suc (suc i)) ≡ wear_over y w ms (suc i)
  unfolding e
  wear_stays h = sym (wear_only y w ms (suc (suc i)) (wear_over y w ms (suc i)) (record {
    first_lt = omega (arith, before.first_lt);
    edge_lt = before.edge_lt;
    attained = before.attained;
    largest = largest_next _ (omega arith) h;
    earliest = before.earliest;
    lowest = before.lowest;
  }))

  pub wear_rises : (wear_over y w ms (suc i)).crossings < wear_at y w ms (suc i) (edge_of y (get_or ms (i + w) d))
      → wear_over y w ms (suc (suc i)) ≡ record { crossings = wear_at y w ms (suc i) (edge_of y (get_or ms (i + w) d)); first = suc i; edge = edge_of y (get_or ms (i + w) d) }
  unfolding e
  wear_rises h = sym (wear_only y w ms (suc (suc i)) _ (record {
    first_lt = omega arith;
    edge_lt = comes.edge_lt;
    attained = refl;
    largest = largest_next _ (omega arith) (omega arith);
    earliest = λ j v k n. omega (arith, before.largest j v k n);
    lowest = λ v k. omega (arith, others v (omega (arith, comes.edge_lt)) (omega arith));
  }))

module _ (y : Yard) (t : Tree y) (w : ℕ) (ms : List Move) (a : accepted y ms ≡ ms) (d : Move) where
  crossed : (j : ℕ) → j < length ms → Crossed y (get_or ms j d)
  crossed = obeys_crossed d (accepted_obeys y t ms a)

  wear_at_root : (i : ℕ) → wear_at y w ms i (root y) ≡ 0
  unfolding wear_at
  wear_at_root i = omega (arith, root_run (accepted_obeys y t ms a), count_stretch (is_up y (root y)) w i ms, count_stretch (is_down y (root y)) w i ms)

  -- some edge is crossed within the first stretch, and nowhere the root's, which is none: so the edge of the answer is one
  pub wear_edge : 0 < w → w ≤ length ms → (0 < (wear y w ms).crossings) × ((wear y w ms).edge ≢ root y)
  wear_edge lw lm = (some (w - 1) (omega arith), λ q. omega (arith, some (w - 1) (omega arith), b.attained, rw (← q) at (wear_at_root (wear y w ms).first)))
    where
      b : Worst y w ms (stretches w ms) (wear y w ms)
      b = wear_worst y w ms (stretches w ms) (omega arith) (omega (arith, (wood y t).root_lt))

      some : (k : ℕ) → suc k ≡ w → 0 < (wear y w ms).crossings
      some k q =
          let c = crossed k (omega arith) in
          let e = edge_of y (get_or ms k d) in
          omega (arith, b.largest 0 e (omega arith) c.edge_lt, rw q at (wear_at_more y k ms d e (omega arith)), c.once e, ap one (eq-eqb e e refl))

-- with the whole of a planned sheet as the one stretch, the crossings are the largest size of a demand
pub most_cong : (n : ℕ) (f g : ℕ → ℕ) → ((v : ℕ) → v < n → f v ≡ g v) → most n f ≡ most n g
unfolding most
most_cong zero f g h = refl
most_cong (suc n) f g h = rw (most_cong n f g (λ v l. h v (omega arith)), h n (omega arith))

pub wear_planned : (y : Yard) → Tree y → Matched y → (wear y (length (plan y)) (plan y)).crossings ≡ most (size y) (imbalance y)
unfolding wear_at
wear_planned y t m =
    let ms : List Move = plan y in
    let one : stretches (length ms) ms ≡ 1 = omega arith in
    let o = plan_optimal y t m in
    ap (λ (s : ℕ). (wear_over y (length ms) ms s).crossings) one
    ∙ ap (λ (r : Wear). r.crossings) (wear_start y (length ms) ms (push 0 0))
    ∙ most_cong (size y) (wear_at y (length ms) ms 0) (imbalance y) (λ v l. rw (take_all (length ms) ms (omega arith)) (omega (arith, o.crossed v l, ap (count (is_up y v)) o.obeyed, ap (count (is_down y v)) o.obeyed)))

-- an accepted call
pub wear_answer_law : (y : Yard) (bs : List ℕ) (w : ℕ) (r : Wear) → wear_answer y bs w ≡ answered r
    → (0 < w) × (w ≤ length (moves_of bs)) × Worst y w (moves_of bs) (stretches w (moves_of bs)) r × (r.edge ≢ root y)
unfolding wear_fault check_fault
wear_answer_law y bs w r e =
    let a = answer_answered (wear_fault y bs w) (wear y w (moves_of bs)) r e in
    let p = none_all (wear_tests y bs w) a.0 in
    let q = none_all (check_tests y bs) p.0 in
    let h = (check_fault_none y q.0 ((totals_none y).0 q.1.0) bs).0 p.0 in
    let b = (and-eq-true_iff (ltb 0 w) (leb w (length (moves_of bs)))).0 (unless_none _ 28 0 p.1.0) in
    let lw = ltb-true 0 w b.0 in
    let lm = leb-true w (length (moves_of bs)) b.1 in
    rw (← a.1) (
      lw,
      lm,
      wear_worst y w (moves_of bs) (stretches w (moves_of bs)) (omega arith) (omega (arith, (wood y q.0).root_lt)),
      (wear_edge y q.0 w (moves_of bs) h.1 (push 0 0) lw lm).1,
    )

-- the stretches are those that end within the moves
pub stretches_lt : (w : ℕ) (ms : List Move) (i : ℕ) → (i < stretches w ms) ↔ (i + w ≤ length ms)
stretches_lt w ms i = omega arith

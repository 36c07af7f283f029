-- Pebbles followed from their starts, whichever of a node's pebbles is taken. Positions count the pebbles, so where they end is what is known
-- of the yard; and a pebble changes sides of an edge each time that it crosses, so twice only if pebbles cross it both ways.
use mathlib.Core.Path.{◌≡◌, refl, sym, ap, ◌∙◌}
use mathlib.Core.Logic.{◌↔◌}
use mathlib.Core.Bool.{Bool, true, false, cond}
use mathlib.Core.List.{List, [], ◌∷◌, ◌++◌}
use Prim.Native.Nat.{ℕ, zero, suc, ◌+◌, ◌*◌, ◌≤◌, ◌<◌}
use native.Mathlib.Omega.{arith}
use native.Mathlib.Decide.{ℕ_discrete}
use lib.ListN.{length, get_or, set, replicate, length-append, length-replicate, length-set}
use lib.Seq.{get_or-set_same, get_or-set_other}
use lib.Dec.{eqb}
use borrow.Author.Tests.{eq-eqb, ne_eqb}
use Rattle.model.specs.Yard.{Yard, size, pebble, target, capacity, one, sum, inside, shortest, pebbleCount}
use Rattle.model.specs.Judge.{Tree}
use Rattle.model.specs.Push.{Move, moved, run, accepted, Solved, is_up, is_down, count, ups, downs}
use Rattle.model.specs.Follow.{placed, starts, occurs, At, Follows, route, crossings}
use Rattle.laws.proofs.Basics.{eqb_sym, one_le}
use Rattle.laws.proofs.Sums.{sum_cong, sum_add, sum_zero, sum_pick, sum_some}
use Rattle.laws.proofs.Judged.{facts}
use Rattle.laws.proofs.Demands.{solved_iff}
use Rattle.laws.proofs.Step.{Step, ends, moved_pebble, inside_ends}
use Rattle.laws.proofs.Runs.{Obeys, obeys, run_tree}
use Rattle.laws.proofs.Shortest.{Thrifty, thrifty_crosses}

-- occurs
pub occurs_append : (v : ℕ) (ps qs : List ℕ) → occurs v (ps ++ qs) ≡ occurs v ps + occurs v qs
unfolding occurs
occurs_append v [] qs = omega arith
occurs_append v (p ∷ ps) qs = omega (arith, occurs_append v ps qs)

occurs_replicate : (v n k : ℕ) → occurs v (replicate k n) ≡ one (eqb v n) * k
unfolding occurs
occurs_replicate v n zero = omega arith
occurs_replicate v n (suc k) = omega (arith, occurs_replicate v n k)

-- one position changes
pub occurs_set : (ps : List ℕ) (i a b v : ℕ) → At ps i a → occurs v (set ps i b) + one (eqb v a) ≡ occurs v ps + one (eqb v b)
unfolding occurs
occurs_set [] i a b v h = absurd (omega (arith, h.0))
occurs_set (p ∷ ps) zero a b v h = omega (arith, ap (λ (x : ℕ). one (eqb v x)) h.1)
occurs_set (p ∷ ps) (suc i) a b v h = omega (arith, occurs_set ps i a b v (omega (arith, h.0), h.1))

-- At
pub at_occurs : (ps : List ℕ) (i a : ℕ) → At ps i a → 0 < occurs a ps
unfolding occurs
at_occurs [] i a h = absurd (omega (arith, h.0))
at_occurs (p ∷ ps) zero a h = omega (arith, ap one (eq-eqb a p (sym h.1)))
at_occurs (p ∷ ps) (suc i) a h = omega (arith, at_occurs ps i a (omega (arith, h.0), h.1))

pub occurs_at : (ps : List ℕ) (a : ℕ) → 0 < occurs a ps → (i : ℕ) × At ps i a
unfolding occurs
occurs_at [] a h = absurd (omega arith)
occurs_at (p ∷ ps) a h = go (ℕ_discrete a p) (occurs_at ps a)
  where
    go : Dec (a ≡ p) → (0 < occurs a ps → (i : ℕ) × At ps i a) → (i : ℕ) × At (p ∷ ps) i a
    go (yes e) ih = (0, (omega arith, sym e))
    go (no n) ih = let r = ih (omega (arith, ap one (ne_eqb a p n))) in (suc r.0, (omega (arith, r.1), r.1.1))

-- where one stands at most there is one
pub at_only : (ps : List ℕ) (i j a : ℕ) → occurs a ps ≤ 1 → At ps i a → At ps j a → i ≡ j
unfolding occurs
at_only [] i j a l h k = absurd (omega (arith, h.0))
at_only (p ∷ ps) zero zero a l h k = refl
at_only (p ∷ ps) zero (suc j) a l h k = absurd (omega (arith, ap one (eq-eqb a p (sym h.1)), at_occurs ps j a (omega (arith, k.0), k.1)))
at_only (p ∷ ps) (suc i) zero a l h k = absurd (omega (arith, ap one (eq-eqb a p (sym k.1)), at_occurs ps i a (omega (arith, h.0), h.1)))
at_only (p ∷ ps) (suc i) (suc j) a l h k = ap suc (at_only ps i j a (omega arith) (omega (arith, h.0), h.1) (omega (arith, k.0), k.1))

-- placed
pub occurs_placed : (n : ℕ) (f : ℕ → ℕ) (v : ℕ) → occurs v (placed n f) ≡ sum n (λ u. one (eqb u v) * f u)
unfolding occurs placed sum
occurs_placed zero f v = refl
occurs_placed (suc n) f v = rw (occurs_append, occurs_placed n f v, occurs_replicate, eqb_sym v n)

pub length_placed : (n : ℕ) (f : ℕ → ℕ) → length (placed n f) ≡ sum n f
unfolding placed sum
length_placed zero f = refl
length_placed (suc n) f = rw (length-append, length_placed n f, length-replicate)

-- at each node as many positions as pebbles
abbrev pub Counts : Yard → List ℕ → Type 0
Counts y ps = (v : ℕ) → v < size y → occurs v ps ≡ pebble y v

pub starts_counts : (y : Yard) → Counts y (starts y)
starts_counts y v l = occurs_placed (size y) (pebble y) v ∙ sum_pick (size y) v (pebble y) l

pub starts_length : (y : Yard) → length (starts y) ≡ pebbleCount y
starts_length y = length_placed (size y) (pebble y)

pub start_lt : (y : Yard) (i : ℕ) → i < length (starts y) → get_or (starts y) i 0 < size y
start_lt y i l = go (sum_some (size y) (λ u. one (eqb u s) * pebble y u) (omega (arith, occurs_placed (size y) (pebble y) s, at_occurs (starts y) i s (l, refl))))
  where
    s : ℕ
    s = get_or (starts y) i 0

    go : (u : ℕ) × (u < size y) × (0 < one (eqb u s) * pebble y u) → s < size y
    go h = at (ℕ_discrete h.0 s)
      where
        at : Dec (h.0 ≡ s) → s < size y
        at (yes e) = omega (arith, h.1)
        at (no n) = absurd (omega (arith, rw (ne_eqb h.0 s n) at h.2))

pub counts_moved : (y : Yard) (m : Move) → Step y m → (ps : List ℕ) (i : ℕ) → At ps i m.from → Counts y ps → Counts (moved y m) (set ps i m.to)
counts_moved y m s ps i a h v l = omega (arith, occurs_set ps i m.from m.to v a, moved_pebble y m s v, h v l)

pub counts_run : {y z : Yard} {ms : List Move} {ps is qs : List ℕ} → Obeys y ms z → Follows ps ms is qs → Counts y ps → Counts z qs
counts_run Obeys.done Follows.done h = h
counts_run (Obeys.next {y} {m = m} s o) (Follows.next {ps = ps} {i = i} a f) h = counts_run o f (counts_moved y m s ps i a h)

-- every pebble stands in the yard
pub follows_within : {y z : Yard} {ms : List Move} {ps is qs : List ℕ} → Obeys y ms z → Follows ps ms is qs → ((i : ℕ) → i < length ps → get_or ps i 0 < size y)
    → (i : ℕ) → i < length qs → get_or qs i 0 < size y
follows_within Obeys.done Follows.done h i l = h i l
follows_within (Obeys.next {y} {m = m} s o) (Follows.next {ps = ps} {i = j} a f) h i l = follows_within o f go i l
  where
    go : (i : ℕ) → i < length (set ps j m.to) → get_or (set ps j m.to) i 0 < size y
    go i l = at (ℕ_discrete i j)
      where
        k : i < length ps
        k = rw length-set at l

        at : Dec (i ≡ j) → get_or (set ps j m.to) i 0 < size y
        at (yes e) = rw (e, get_or-set_same ps j m.to 0 a.0) (ends y m s).1
        at (no n) = rw (get_or-set_other ps j i m.to 0 n) (h i k)

-- with room for one at each node there is one way to follow
pub follows_only : {y z : Yard} {ms : List Move} {ps is qs js rs : List ℕ} → Obeys y ms z → ((v : ℕ) → v < size y → capacity y v ≤ 1)
    → Counts y ps → Follows ps ms is qs → Follows ps ms js rs → (is ≡ js) × (qs ≡ rs)
follows_only Obeys.done c h Follows.done Follows.done = (refl, refl)
follows_only (Obeys.next {y} {m = m} s o) c h (Follows.next {ps = ps} {i = i} a f) (Follows.next {i = j} b g) =
    let e : i ≡ j = at_only ps i j m.from (omega (arith, h m.from (ends y m s).0, (facts y s.tree).pebble_le m.from (ends y m s).0, c m.from (ends y m s).0)) a b in
    let r = follows_only o c (counts_moved y m s ps i a h) f (rw (← e) at g) in
    (rw (e, r.0), r.1)

-- route
count_route : (i j : ℕ) (m : Move) (ms : List Move) (js : List ℕ) (p : Move → Bool) → count p (route i (m ∷ ms) (j ∷ js)) ≡ one (eqb i j) * one (p m) + count p (route i ms js)
unfolding count route
count_route i j m ms js p = go (eqb i j)
  where
    go : (b : Bool) → count p (cond b (m ∷ route i ms js) (route i ms js)) ≡ one b * one (p m) + count p (route i ms js)
    go true = omega arith
    go false = omega arith

-- as many as those that take it
pub route_length : {ps is qs : List ℕ} {ms : List Move} → Follows ps ms is qs → (i : ℕ) → length (route i ms is) ≡ occurs i is
unfolding occurs route
route_length Follows.done i = refl
route_length (Follows.next {is = is} {m = m} {ms = ms} {i = j} a f) i = go (eqb i j) (route_length f i)
  where
    go : (b : Bool) → length (route i ms is) ≡ occurs i is → length (cond b (m ∷ route i ms is) (route i ms is)) ≡ one b + occurs i is
    go true e = omega arith
    go false e = omega arith

-- a pebble goes on from where its last move took it, from its start to its end
pub data Trail : ℕ → List Move → ℕ → Type 0 where
  stand : {s : ℕ} → Trail s [] s
  step : {m : Move} {ms : List Move} {e : ℕ} → Trail m.to ms e → Trail m.from (m ∷ ms) e

pub route_walk : {ps is qs : List ℕ} {ms : List Move} → Follows ps ms is qs → (i : ℕ) → Trail (get_or ps i 0) (route i ms is) (get_or qs i 0)
unfolding route
route_walk Follows.done i = Trail.stand
route_walk (Follows.next {ps = ps} {qs = qs} {is = is} {m = m} {ms = ms} {i = j} a f) i = go (ℕ_discrete i j) (route_walk f i)
  where
    go : Dec (i ≡ j) → Trail (get_or (set ps j m.to) i 0) (route i ms is) (get_or qs i 0) → Trail (get_or ps i 0) (cond (eqb i j) (m ∷ route i ms is) (route i ms is)) (get_or qs i 0)
    go (yes e) w = rw (e, eq-eqb j j refl, a.1) (Trail.step (rw (e, get_or-set_same ps j m.to 0 a.0) at w))
    go (no n) w = rw (ne_eqb i j n) (rw (get_or-set_other ps j i m.to 0 n) at w)

-- the moves of all pebbles are the moves: so those over an edge, either way, add up
pub routes_count : {ps qs is : List ℕ} {ms : List Move} → Follows ps ms is qs → (p : Move → Bool) → sum (length ps) (λ i. count p (route i ms is)) ≡ count p ms
unfolding count route
routes_count (Follows.done {ps}) p = sum_zero (length ps) _ (λ i _. refl)
routes_count (Follows.next {ps = ps} {is = is} {m = m} {ms = ms} {i = j} a f) p =
    sum_cong (length ps) _ _ (λ i _. count_route i j m ms is p) ∙ sum_add (length ps) _ _
    ∙ omega (arith, sum_pick (length ps) j (λ _. one (p m)) a.0, routes_count f p, ap (λ (n : ℕ). sum n (λ i. count p (route i ms is))) (length-set ps j m.to))

-- a pebble that stands at s crosses an edge towards the root from inside only, and away from it from outside only
abbrev Sides : Yard → List Move → List ℕ → ℕ → ℕ → ℕ → Type 0
Sides y ms is i s v =
    (crossings y (route i ms is) v ≤ one (inside y.parents v s) + 2 * count (is_down y v) ms)
    × (crossings y (route i ms is) v + one (inside y.parents v s) ≤ 1 + 2 * count (is_up y v) ms)

route_next : (i j : ℕ) (m : Move) (ms : List Move) (is : List ℕ) → route i (m ∷ ms) (j ∷ is) ≡ cond (eqb i j) (m ∷ route i ms is) (route i ms is)
unfolding route
route_next i j m ms is = refl

route_done : (i : ℕ) → route i [] [] ≡ []
unfolding route
route_done i = refl

pub route_sides : {y z : Yard} {ms : List Move} {ps is qs : List ℕ} → Obeys y ms z → Follows ps ms is qs → (i v : ℕ) → Sides y ms is i (get_or ps i 0) v
unfolding count
route_sides (Obeys.done {y}) (Follows.done {ps}) i v = rw (route_done i) (omega (arith, one_le (inside y.parents v (get_or ps i 0))))
route_sides (Obeys.next {y} {m = m} {ms = ms} s o) (Follows.next {ps = ps} {is = is} {i = j} a f) i v = go (ℕ_discrete i j) (route_sides o f i v)
  where
    go : Dec (i ≡ j) → Sides y ms is i (get_or (set ps j m.to) i 0) v → Sides y (m ∷ ms) (j ∷ is) i (get_or ps i 0) v
    go (yes e) ih = rw (route_next i j m ms is, e, a.1, eq-eqb j j refl) (omega (arith, inside_ends y m s v, rw (e, get_or-set_same ps j m.to 0 a.0) at ih))
    go (no n) ih = rw (route_next i j m ms is, ne_eqb i j n) (omega (arith, rw (get_or-set_other ps j i m.to 0 n) at ih))

module _ (y : Yard) (t : Tree y) (ms : List Move) {is qs : List ℕ} (f : Follows (starts y) (accepted y ms) is qs) where
  -- at the end as many pebbles at each node as the yard holds there; and its targets, if the list solves the yard
  pub follows_counts : Counts (run y ms) qs
  follows_counts = counts_run (obeys ms y t) f (starts_counts y)

  pub follows_solved : Solved (run y ms) → (v : ℕ) → v < size y → occurs v qs ≡ target y v
  follows_solved h v l = follows_counts v l ∙ h v l

  -- so each target node has one at its end, and only those; with room for one at each node, no two the same
  pub follows_onto : Solved (run y ms) → (v : ℕ) → v < size y → (0 < target y v) ↔ ((i : ℕ) × At qs i v)
  follows_onto h v l = ((λ p. occurs_at qs v (omega (arith, follows_solved h v l))), λ r. omega (arith, follows_solved h v l, at_occurs qs r.0 v r.1))

  pub follows_apart : ((v : ℕ) → v < size y → capacity y v ≤ 1) → (i j : ℕ) → i < length qs → j < length qs → get_or qs i 0 ≡ get_or qs j 0 → i ≡ j
  follows_apart c i j k l e = at_only qs i j (get_or qs j 0) (omega (arith, follows_counts _ w, (facts (run y ms) (run_tree (obeys ms y t) t)).pebble_le _ w, c _ w)) (k, e) (l, refl)
    where
      w : get_or qs j 0 < size y
      w = follows_within (obeys ms y t) f (start_lt y) j l

  -- over each edge the crossings of all pebbles add up, either way
  pub follows_ups : (v : ℕ) → sum (length (starts y)) (λ i. count (is_up y v) (route i (accepted y ms) is)) ≡ ups y ms v
  follows_ups v = routes_count f (is_up y v)

  pub follows_downs : (v : ℕ) → sum (length (starts y)) (λ i. count (is_down y v) (route i (accepted y ms) is)) ≡ downs y ms v
  follows_downs v = routes_count f (is_down y v)

  -- one of the two parts of a demand is 0, so the pushes over an edge of a list with none to spare all go one way
  pub follows_once : Thrifty y ms → (i v : ℕ) → v < size y → crossings y (route i (accepted y ms) is) v ≤ 1
  follows_once h i v l = omega (arith, thrifty_crosses y t ms h v l, route_sides (obeys ms y t) f i v, one_le (inside y.parents v (get_or (starts y) i 0)))

  -- demand 3: in a list that solves the yard with as many accepted pushes as the shortest length no pebble crosses an edge twice
  pub follows_simple : Solved (run y ms) → length (accepted y ms) ≡ shortest y → (i v : ℕ) → v < size y → crossings y (route i (accepted y ms) is) v ≤ 1
  follows_simple h e = follows_once (omega (arith, e, (solved_iff (run y ms) (run_tree (obeys ms y t) t)).0 h))

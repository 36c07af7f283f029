-- Every answer of the calls is one that a number tells. A place is 0, a node, the number of a move, or the length of the plan: past refusal 1 there
-- are at most 256 nodes, past refusal 9 at most 131,072 moves, and the plan of a tree has at most 131,072; of a sheet it is a line up to 258, or its
-- length. The values are as small.
use mathlib.Core.Path.{◌≡◌, refl}
use mathlib.Core.Logic.{◌↔◌}
use mathlib.Core.Bool.{Bool, true, false, not, cond, ◌&&◌, and-eq-true_iff}
use mathlib.Core.List.{List, [], ◌∷◌}
use mathlib.Core.Option.{Option, none, some}
use Prim.Native.Nat.{ℕ, suc, ◌+◌, ◌*◌, ◌/◌, ◌%◌, ◌≤◌, ◌<◌}
use native.Mathlib.Nat.{mul-le-mul, div-le_self}
use native.Mathlib.Omega.{arith}
use lib.ListN.{length, drop, length-take}
use lib.IntN.{ℤ}
use lib.Dec.{leb, ltb, eqb}
use borrow.Author.Tests.{leb-true, lt-ltb, le-ltb}
use Rattle.model.specs.Yard.{Yard, size, max_size, parent, pebble, full, held, one, below, roots, pebbleCount, targetCount, Matched}
use Rattle.model.specs.Judge.{Fault, row, fault, first_of, unless, at_lowest, size_fault, root_fault, tests, judge, Tree, totals_fault, matched_tests, matched_fault}
use Rattle.model.specs.Push.{Move, adjacent, move_tests, move_fault, push_fault, pushed}
use Rattle.model.specs.Plan.{plan}
use Rattle.model.specs.Calls.Answers.{Answer, answered, refused, rowUnit, in_c, told, InTable, Row, Small, answer, mapAnswer, zeroInC}
use Rattle.model.specs.Calls.Demands.{demands_tests, demands_fault, bound_answer, displaced_answer, longest, longest_answer}
use Rattle.model.specs.declared.Event.{Event}
use Rattle.model.specs.Calls.Events.{possible, event_tests, event_fault}
use Rattle.model.specs.Distance.{distance}
use Rattle.model.specs.Calls.Distances.{nearest, Nearest, nearestOf, nearest_tests, nearest_fault, nearest_answer, inReach, reach_tests, reach_fault, reach_answer}
use Rattle.model.specs.Calls.Plans.{plan_tests, plan_fault, moves_of}
use Rattle.model.specs.Parts.{parts_plan}
use Rattle.model.specs.Calls.Parts.{parts_tests, parts_fault, parts_answer}
use Rattle.model.specs.Calls.Checks.{max_plan_bytes, bytes_fault, moves_fault, Verdict, check_tests, check_fault, check_answer, within, trial_tests, trial_fault, trial_answer, trial_in_c}
use Rattle.model.specs.Wear.{stretches, Wear, wear}
use Rattle.model.specs.Openings.{openings}
use Rattle.model.specs.Calls.Wear.{wear_tests, wear_fault, wear_answer}
use Rattle.model.specs.Calls.Openings.{openings_tests, openings_fault}
use Rattle.laws.specs.Wear.{Worst}
use Rattle.model.specs.Sheets.{max_sheet_bytes, yard_sheet, read_yard, reader, read_answer, write_tests, write_fault, write_answer}
use Rattle.laws.proofs.Basics.{All, one_le, all_below, none_all, unless_none}
use Rattle.laws.proofs.Sums.{sum_mono, sum_scale, sum_le}
use Rattle.laws.proofs.Judged.{facts}
use Rattle.laws.proofs.Calls.{moves_of_half, totals_none, plan_none, matched_tree}
use Rattle.laws.proofs.Demand3.{plan_fits}
use Rattle.laws.proofs.Distance.{distance_lt}
use Rattle.laws.proofs.Nearest.{nearest_none, nearest_is}
use Rattle.laws.proofs.Displaced.{displaced_le}
use Rattle.laws.proofs.PartTurns.{parts_plan_length}
use Rattle.laws.proofs.Wear.{wear_at_le, wear_answer_law}
use Rattle.laws.proofs.Openings.{openings_few}
use Rattle.laws.proofs.Sheets.{YardBytes, yard_sheet_short, read_sizes, read_places}

-- a refusal, if there is one, is of the table and has a small place
pub data Low : Option Fault → Type 0 where
  passes : Low none
  refuses : {f : Fault} → Row f → Low (some f)

pub small : {f : Option Fault} (n : ℕ) → Low f → (f ≡ none → n < rowUnit) → Small (answer f n)
small n Low.passes h = h refl
small n (Low.refuses l) h = l

-- 0 tells that a call with no value of its own was accepted
pub zero_none : (f : Option Fault) → Small (answer f 0) → (zeroInC f ≡ 0) ↔ (f ≡ none)
zero_none none h = ((λ _. refl), λ _. refl)
zero_none (some f) h = ((λ z. absurd (omega (arith, z, h.numbered.0))), λ e. cc)

-- the number tells the answer
pub tells : (a : Answer ℕ) → Small a → told (in_c a) ≡ a
tells (answered n) h = rw (lt-ltb n rowUnit h)
tells (refused f) h =
    let l = h.placed in
    let r = f.number * rowUnit + f.place in
    let p : r / rowUnit ≡ f.number = omega arith in
    let q : r % rowUnit ≡ f.place = omega arith in
    rw (le-ltb r rowUnit (omega (arith, h.numbered)), p, q)

-- a value worked out of an answer
pub map_answer : {A B : Type 0} (g : A → B) (f : Option Fault) (a : A) → mapAnswer g (answer f a) ≡ answer f (g a)
map_answer g none a = refl
map_answer g (some f) a = refl

-- the tests behind a test need be so only if it passes
pub first : {f : Option Fault} (fs : List (Option Fault)) → Low f → (f ≡ none → Low (first_of fs)) → Low (first_of (f ∷ fs))
first fs Low.passes h = h refl
first fs (Low.refuses l) h = Low.refuses l

pub all : (fs : List (Option Fault)) → All Low fs → Low (first_of fs)
all [] h = Low.passes
all (f ∷ fs) h = first fs h.0 (λ _. all fs h.1)

place : (n p : ℕ) → InTable n → p < rowUnit → Low (fault n p)
place n p h l = Low.refuses (record { numbered = h; placed = l })

pub once : (b : Bool) (n p : ℕ) → InTable n → p < rowUnit → Low (unless b (fault n p))
once true n p h l = Low.passes
once false n p h l = place n p h l

-- at a node
nodes : (n : ℕ) → n ≤ 256 → (p : ℕ → Bool) → All (λ v. v < rowUnit) (below n p)
nodes n h p = all_below (λ v. v < rowUnit) p n (λ v l _. omega arith)

lowest : (k n : ℕ) → InTable k → n ≤ 256 → (p : ℕ → Bool) → Low (at_lowest k (below n p))
lowest k n l h p = go (below n p) (nodes n h p)
  where
    go : (vs : List ℕ) → All (λ v. v < rowUnit) vs → Low (at_lowest k vs)
    go [] a = Low.passes
    go (v ∷ vs) a = place k v l a.0

second : (vs : List ℕ) → All (λ v. v < rowUnit) vs → Low (root_fault vs)
second [] a = place 5 0 (omega arith) (omega arith)
second (v ∷ []) a = Low.passes
second (v ∷ w ∷ vs) a = place 5 w (omega arith) a.1.0

-- refusals 1 to 6: past the first there are at most 256 nodes
pub judge_low : (y : Yard) → Low (judge y)
unfolding judge roots
judge_low y =
    first (drop 1 (tests y)) (once ((ltb 0 (size y)) && (leb (size y) max_size)) 1 0 (omega arith) (omega arith)) (λ e.
    let q : (ltb 0 (size y) ≡ true) × (leb (size y) 256 ≡ true) = (and-eq-true_iff _ _).0 (unless_none _ 1 0 e) in
    let h : size y ≤ 256 = leb-true (size y) 256 q.1 in
    all (drop 1 (tests y)) (
      once ((eqb (length y.pebbles) (size y)) && ((eqb (length y.targets) (size y)) && (eqb (length y.depths) (size y)))) 2 0 (omega arith) (omega arith),
      (
        lowest 26 (size y) (omega arith) h _,
        (
          lowest 27 (size y) (omega arith) h _,
          (
            lowest 27 (size y) (omega arith) h _,
            (lowest 4 (size y) (omega arith) h _, (second (roots y.parents) (nodes (size y) h (λ v. eqb (parent y v) v)), (lowest 6 (size y) (omega arith) h _, tt))),
          ),
        ),
      ),
    ))

-- refusals 10 to 13
pub move_low : (y : Yard) (m : Move) (i : ℕ) → i < rowUnit → Low (move_fault y m i)
unfolding move_fault
move_low y m i l = all (move_tests y m i) (once ((ltb m.from (size y)) && (ltb m.to (size y))) 10 i (omega arith) l, (once (adjacent y m.from m.to) 11 i (omega arith) l, (once (held y m.from) 12 i (omega arith) l, (once (not (full y m.to)) 13 i (omega arith) l, tt))))

moves_low : (ms : List Move) (i : ℕ) (y : Yard) → i + length ms ≤ rowUnit → Low (moves_fault i y ms)
unfolding moves_fault
moves_low [] i y l = Low.passes
moves_low (m ∷ ms) i y l = all (move_fault y m i ∷ moves_fault (suc i) (pushed y m) ms ∷ []) (move_low y m i (omega arith), (moves_low ms (suc i) (pushed y m) (omega arith), tt))

-- past refusal 9
pub few_moves : (bs : List ℕ) → bytes_fault bs ≡ none → length (moves_of bs) ≤ 131_072
few_moves bs e =
    let q : (eqb (length bs % 2) 0 ≡ true) × (leb (length bs) max_plan_bytes ≡ true) = (and-eq-true_iff _ _).0 (unless_none _ 9 0 e) in
    omega (arith, moves_of_half bs, leb-true (length bs) max_plan_bytes q.1)

module _ (y : Yard) where
  totals_low : Low (totals_fault y)
  totals_low = once (eqb (pebbleCount y) (targetCount y)) 7 0 (omega arith) (omega arith)

  pub push_low : (m : Move) → Low (push_fault y m)
  unfolding push_fault
  push_low m = all (judge y ∷ move_fault y m 0 ∷ []) (judge_low y, (move_low y m 0 (omega arith), tt))

  pub demands_low : (list : List ℤ) → Low (demands_fault y list)
  unfolding demands_fault
  demands_low list = all (demands_tests y list) (judge_low y, (once (eqb (length list) (size y)) 2 0 (omega arith) (omega arith), tt))

  -- an event answers 0, or its refusal
  pub event_small : (list : List ℤ) (e : Event) (v : ℕ) → Small (answer (event_fault y list e v) 0)
  unfolding event_fault
  event_small list e v = small 0 low (λ _. omega arith)
    where
      low : Low (first_of (event_tests y list e v))
      low =
          first (drop 1 (event_tests y list e v)) (judge_low y) (λ t.
          all (drop 1 (event_tests y list e v)) (
            once (eqb (length list) (size y)) 2 0 (omega arith) (omega arith),
            (once (ltb v (size y)) 19 0 (omega arith) (omega arith), (once (possible y e v) 20 0 (omega arith) (omega arith), (lowest 23 (size y) (omega arith) (facts y t).few.1 _, tt))),
          ))

  -- the nearest pebble's node and its distance are below n, and no more than n are in reach
  module _ (a : ℕ) where
    nearest_low : Low (nearest_fault y a)
    unfolding nearest_fault
    nearest_low = all (nearest_tests y a) (judge_low y, (once (ltb a (size y)) 19 0 (omega arith) (omega arith), (once (ltb 0 (pebbleCount y)) 22 0 (omega arith) (omega arith), tt)))

    pub nearest_small : (Small (mapAnswer (λ (r : Nearest). r.node) (nearest_answer y a))) × (Small (mapAnswer (λ (r : Nearest). r.distance) (nearest_answer y a)))
    nearest_small = rw (map_answer (λ (r : Nearest). r.node), map_answer (λ (r : Nearest). r.distance)) (small _ nearest_low (λ e. (few e).0), small _ nearest_low (λ e. (few e).1))
      where
        few : nearest_fault y a ≡ none → (nearest y a < rowUnit) × (distance y a (nearest y a) < rowUnit)
        few e =
            let h = (nearest_none y a).0 e in
            let l = (nearest_is y a (nearestOf y a) (rw e)).node_lt in
            omega (arith, l, distance_lt y h.0 a (nearest y a) h.1 l, (facts y h.0).few.1)

    pub reach_small : (list : List ℕ) (reach : ℕ) → Small (reach_answer y list a reach)
    unfolding reach_fault
    reach_small list reach = small _ low (λ e. omega (arith, (facts y (none_all (reach_tests y list a) e).0).few, sum_le (size y) (λ v. one (inReach y a reach v)) (λ v. one_le (inReach y a reach v))))
      where
        low : Low (first_of (reach_tests y list a))
        low = all (reach_tests y list a) (judge_low y, (once (eqb (length list) (size y)) 2 0 (omega arith) (omega arith), (once (ltb a (size y)) 19 0 (omega arith) (omega arith), tt)))

  figure_low : Low (matched_fault y)
  unfolding matched_fault
  figure_low = all (matched_tests y) (judge_low y, (totals_low, tt))

  plan_short : Tree y → Matched y → length (plan y) < rowUnit
  plan_short t m = omega (arith, plan_fits y t m)

  plan_low : (room : ℕ) → Low (plan_fault y room)
  unfolding plan_fault
  plan_low room =
      first (drop 1 (plan_tests y room)) (judge_low y) (λ t.
      first (drop 2 (plan_tests y room)) totals_low (λ e.
      all (drop 2 (plan_tests y room)) (once (leb (2 * length (plan y)) room) 8 (length (plan y)) (omega arith) (plan_short t ((totals_none y).0 e)), tt)))

  module _ (bs : List ℕ) where
    pub bytes_low : Low (bytes_fault bs)
    bytes_low = once ((eqb (length bs % 2) 0) && (leb (length bs) max_plan_bytes)) 9 0 (omega arith) (omega arith)

    pub check_low : Low (check_fault y bs)
    unfolding check_fault
    check_low =
        first (drop 1 (check_tests y bs)) (judge_low y) (λ t.
        first (drop 2 (check_tests y bs)) totals_low (λ _.
        first (drop 3 (check_tests y bs)) bytes_low (λ e.
        all (drop 3 (check_tests y bs)) (moves_low (moves_of bs) 0 y (omega (arith, few_moves bs e)), (lowest 14 (size y) (omega arith) (facts y t).few.1 _, tt)))))

    module _ (budget : ℕ) where
      few_taken : bytes_fault bs ≡ none → length (within bs budget) ≤ 131_072
      few_taken e = omega (arith, few_moves bs e, length-take budget (moves_of bs))

      trial_low : Low (trial_fault y bs budget)
      unfolding trial_fault
      trial_low =
          first (drop 1 (trial_tests y bs budget)) (judge_low y) (λ _.
          first (drop 2 (trial_tests y bs budget)) bytes_low (λ e.
          all (drop 2 (trial_tests y bs budget)) (moves_low (within bs budget) 0 y (omega (arith, few_taken e)), tt)))

      pub trial_small : Small (mapAnswer trial_in_c (trial_answer y bs budget))
      unfolding trial_fault
      trial_small = rw map_answer (small _ trial_low (λ e.
          omega (arith, few_taken (none_all (trial_tests y bs budget) e).1.0, late (leb (length (moves_of bs)) budget))))
        where
          late : (b : Bool) → cond b 0 500_000 ≤ 500_000
          late true = omega arith
          late false = omega arith

    -- the checker's answer, with nothing in it but whether it accepts
    pub check_small : Small (answer (check_fault y bs) 0)
    check_small = small 0 check_low (λ _. omega arith)

    -- and its two values
    pub few_checked : check_fault y bs ≡ none → length (moves_of bs) ≤ 131_072
    unfolding check_fault
    few_checked e = few_moves bs (none_all (check_tests y bs) e).1.1.0

    module _ {a : Answer Verdict} (d : a ≡ check_answer y bs) where
      pub checked_small : Small (mapAnswer (λ v. v.moves) a)
      checked_small = rw (d, map_answer) (small _ check_low (λ e. omega (arith, few_checked e)))

      pub excess_small : Small (mapAnswer (λ v. v.excess) a)
      excess_small = rw (d, map_answer) (small _ check_low (λ e. omega (arith, few_checked e)))

    -- the wear's three values
    module _ (w : ℕ) where
      wear_low : Low (wear_fault y bs w)
      unfolding wear_fault
      wear_low = all (wear_tests y bs w) (check_low, (once ((ltb 0 w) && (leb w (length (moves_of bs)))) 28 0 (omega arith) (omega arith), tt))

      worst : wear_fault y bs w ≡ none → (length (moves_of bs) ≤ 131_072) × (size y ≤ 256) × Worst y w (moves_of bs) (stretches w (moves_of bs)) (wear y w (moves_of bs))
      unfolding wear_fault check_fault
      worst e =
          let q = none_all (check_tests y bs) (none_all (wear_tests y bs w) e).0 in
          (few_moves bs q.1.1.0, (facts y q.0).few.1, (wear_answer_law y bs w (wear y w (moves_of bs)) (rw e)).2)

      pub wear_small : Small (mapAnswer (λ (r : Wear). r.crossings) (wear_answer y bs w))
      wear_small = rw map_answer (small _ wear_low (λ e. let h = worst e in omega (arith, h.0, h.2.attained, wear_at_le y w (moves_of bs) (wear y w (moves_of bs)).first (wear y w (moves_of bs)).edge)))

      pub wear_first_small : Small (mapAnswer (λ (r : Wear). r.first) (wear_answer y bs w))
      wear_first_small = rw map_answer (small _ wear_low (λ e. let h = worst e in omega (arith, h.0, h.2.first_lt)))

      pub wear_edge_small : Small (mapAnswer (λ (r : Wear). r.edge) (wear_answer y bs w))
      wear_edge_small = rw map_answer (small _ wear_low (λ e. let h = worst e in omega (arith, h.1, h.2.edge_lt)))

  pub plan_small : (room : ℕ) → Small (answer (plan_fault y room) (length (plan y)))
  plan_small room = small _ (plan_low room) (λ e. let h = (plan_none y room).0 e in plan_short h.0 h.1)

  -- planned part by part it has as many moves
  pub parts_small : (list parts : List ℕ) → Small (parts_answer y list parts)
  unfolding parts_fault
  parts_small list parts = small _ low (λ e. let a = none_all (parts_tests y list parts) e in short a.0 ((totals_none y).0 a.1.0))
    where
      short : Tree y → Matched y → length (parts_plan y) < rowUnit
      short t m = omega (arith, parts_plan_length y t m, plan_short t m)

      low : Low (first_of (parts_tests y list parts))
      low =
          first (drop 1 (parts_tests y list parts)) (judge_low y) (λ t.
          first (drop 2 (parts_tests y list parts)) totals_low (λ e.
          all (drop 2 (parts_tests y list parts)) (
            once (eqb (length parts) (size y)) 2 0 (omega arith) (omega arith),
            (once (leb (2 * length (parts_plan y)) (length list)) 8 (length (parts_plan y)) (omega arith) (short t ((totals_none y).0 e)), tt),
          )))

  -- the openings, fewer than nodes
  pub openings_small : (room : ℕ) → Small (answer (openings_fault y room) (length (openings y)))
  unfolding openings_fault
  openings_small room = small _ low (λ e. let a = none_all (openings_tests y room) e in short a.0 ((totals_none y).0 a.1.0))
    where
      short : Tree y → Matched y → length (openings y) < rowUnit
      short t m = omega (arith, openings_few y t m, (facts y t).few)

      low : Low (first_of (openings_tests y room))
      low =
          first (drop 1 (openings_tests y room)) (judge_low y) (λ t.
          first (drop 2 (openings_tests y room)) totals_low (λ e.
          all (drop 2 (openings_tests y room)) (once (leb (2 * length (openings y)) room) 8 (length (openings y)) (omega arith) (short t ((totals_none y).0 e)), tt)))

  -- the bound's two values
  pub moves_small : Small (mapAnswer (λ l. l.moves) (bound_answer y))
  moves_small = rw map_answer (small _ figure_low (λ e. let h = matched_tree y e in plan_short h.0 h.1))

  pub list_bytes_small : Small (mapAnswer (λ l. l.list_bytes) (bound_answer y))
  list_bytes_small = rw map_answer (small _ figure_low (λ e. let h = matched_tree y e in omega (arith, plan_fits y h.0 h.1)))

  -- no more than 8 pebbles for each node
  pub pebbles_few : Tree y → pebbleCount y ≤ 2_048
  pebbles_few t = omega (
    arith,
    (facts y t).few,
    sum_mono (size y) (pebble y) (λ _. 8 * 1) (λ v l. omega (arith, (facts y t).pebble_le v l, (facts y t).capacity_le v l)),
    sum_scale (size y) 8 (λ _. 1),
    sum_le (size y) (λ _. 1) (λ _. omega arith),
  )

  pub displaced_small : Small (displaced_answer y)
  displaced_small = small _ figure_low (λ e. omega (arith, displaced_le y, pebbles_few (matched_tree y e).0))

-- the figure for n alone
pub longest_small : (n : ℕ) → Small (longest_answer n)
longest_small n = small (longest n) (once ((ltb 0 n) && (leb n max_size)) 1 0 (omega arith) (omega arith)) (λ e.
    let h : n ≤ 256 = leb-true n 256 ((and-eq-true_iff (ltb 0 n) _).0 (unless_none _ 1 0 e)).1 in
    let l : n * n / 4 ≤ n * n = div-le_self (n * n) 4 in
    omega (arith, l, mul-le-mul h h))

-- reading a sheet
pub read_row : (bs : List ℕ) {f : Fault} → read_yard bs ≡ refused f → Row f
read_row bs e = let l = rw e at (read_places bs) in record { numbered = omega arith; placed = omega arith }

pub read_small : (bs ps cs ts ds : List ℕ) → Small (read_answer bs ps cs ts ds)
unfolding reader
read_small bs ps cs ts ds = go ((leb max_size (length ps)) && ((leb max_size (length cs)) && ((leb max_size (length ts)) && (leb max_size (length ds)))))
  where
    said : (a : Answer Yard) → read_yard bs ≡ a → Small (mapAnswer size a)
    said (answered y) e = omega (arith, read_sizes bs y e)
    said (refused f) e = read_row bs e

    go : (t : Bool) → Small (mapAnswer size (elim t [ true ↦ read_yard bs | false ↦ refused (row 18 0) ]))
    go true = said (read_yard bs) refl
    go false = record { numbered = omega arith; placed = omega arith }

-- writing one, of lists of bytes
module _ (y : Yard) (bs : YardBytes y) where
  sheet_short : size_fault y ≡ none → length (yard_sheet y) ≤ max_sheet_bytes
  sheet_short e =
      let q : (ltb 0 (size y) ≡ true) × (leb (size y) max_size ≡ true) = (and-eq-true_iff _ _).0 (unless_none _ 1 0 e) in
      yard_sheet_short y (leb-true (size y) max_size q.1) bs

  pub write_small : (list : List ℕ) → Small (write_answer y list)
  unfolding write_fault
  write_small list = small _ low (λ e. let a = none_all (write_tests y (length list)) e in omega (arith, sheet_short a.0))
    where
      low : Low (write_fault y (length list))
      low =
          first (drop 1 (write_tests y (length list))) (once ((ltb 0 (size y)) && (leb (size y) max_size)) 1 0 (omega arith) (omega arith)) (λ a.
          first (drop 2 (write_tests y (length list))) (once ((eqb (length y.pebbles) (size y)) && ((eqb (length y.targets) (size y)) && (eqb (length y.depths) (size y)))) 2 0 (omega arith) (omega arith)) (λ b.
          all (drop 2 (write_tests y (length list))) (once (leb (length (yard_sheet y)) (length list)) 8 (length (yard_sheet y)) (omega arith) (omega (arith, sheet_short a)), tt)))

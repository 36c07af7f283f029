-- Filling and drawing on the planner's tables and state: from each node that must make way on to the child that is chosen, and in the list from the last
-- move to the first.
use mathlib.Core.Path.{◌≡◌, refl, sym, ap, subst, ◌∙◌}
use mathlib.Core.Logic.{◌≢◌}
use mathlib.Core.Bool.{Bool, true, false, not, cond}
use mathlib.Core.List.{List, [], ◌∷◌, ◌++◌, append_assoc, append-nil}
use Prim.Native.Nat.{ℕ, ◌+◌, ◌-◌, ◌*◌, ◌≤◌, ◌<◌}
use native.Mathlib.Omega.{arith}
use lib.ListN.{length, get_or, take, drop, take-append-drop, length-set, length-append, length-drop, drop_of_length-le}
use lib.Seq.{get_or-set_other, length-take-le, take-append-le, take-take, drop_at, take_at}
use lib.IntN.{pos, nat_abs}
use lib.Dec.{ltb}
use borrow.Author.Tests.{ltb-true, ltb-false, le-leb, lt-leb, lt-ltb, le-ltb}
use Rattle.model.specs.Yard.{Yard, size, up, pebble, capacity, full}
use Rattle.model.specs.Judge.{Tree}
use Rattle.model.specs.Push.{Move, push, after, run}
use Rattle.model.specs.Plan.{choice}
use Rattle.model.specs.Calls.Answers.{overwrite}
use Rattle.model.specs.Calls.Plans.{bytes}
use Rattle.laws.specs.Algorithms.{crossing, need, Serves, direct, behind, blocked}
use Rattle.laws.specs.Choice.{Child, Neediest}
use Rattle.laws.proofs.Calls.{length_bytes}
use Rattle.laws.proofs.Judged.{facts, wood}
use Rattle.laws.proofs.Demands.{weight, weight_child, weight_pos, weight_le}
use Rattle.laws.proofs.Shortest.{good_tree}
use Rattle.laws.proofs.Signed.{nextℤ}
use Rattle.laws.proofs.Choice.{neediest_some, choice_sound}
use Rattle.laws.proofs.Serve.{Due, due_step, due_behind, able_behind, need_behind, free_able, blocked_child, serves_shift}
use Rattle.serve.specs.declared.state.State.{State}
use Rattle.serve.specs.declared.tree.Children.{Children}
use Rattle.serve.specs.Serving.{Describes, Kept, Sees, Halfway, Small, Room, stepped, pebble_counted, picked_state, recorded, Picks, AskedFill, moved_all, written_up_to, Filled, Cleared, AskedServe, Served}
use Rattle.serve.proofs.Looking.{tree_small}
use Rattle.serve.proofs.Picking.{last_stays, picked_long, step_undo, step_near, count_undo, count_redo, count_count, move_pick, shift_steps, moved_append, moved_crossing, moved_length}
use Rattle.serve.proofs.Moving.{bytes_append, two_behind, kept_next}

-- on the way down: a node is below 256, what it looks at, and its count and depth, both small
pub half_small : {y : Yard} {t : Children} {s : State} {u v : ℕ} → Halfway y t s u → v < size y → v < 256
half_small {y} {v = v} r l = tree_small y v r.tree l

pub half_sees : {y : Yard} {t : Children} {s : State} {v : ℕ} → Halfway y t s v → v < size y → Sees y t s v
half_sees {y} {v = v} r l = record {
  tree = r.tree;
  tables = r.tables;
  node = l;
  demands = λ c k. r.demands c k.lt (weight_child (wood y r.tree) v c l k);
  lasts = λ b. r.lasts b v l (omega arith);
}

pub room : {y : Yard} {t : Children} {s : State} {v : ℕ} → Halfway y t s v → v < size y → Room s v (pebble y v) (capacity y v)
room {y} {v = v} r l =
    let f = facts y r.tree in
    (r.pebbles v l, r.depths v l, omega (arith, f.pebble_le v l, f.capacity_le v l), omega (arith, f.capacity_le v l))

pub count_small : {y : Yard} {t : Children} {s : State} {v : ℕ} → Halfway y t s v → v < size y → Small s.pebbles v
count_small r l = let h = room r l in rw h.0 (omega (arith, h.2))

-- it begins where no one has picked, and goes on at the child that is picked
pub half_first : {y : Yard} {t : Children} {s : State} (u : ℕ) → Describes y t s → Halfway y t s u
half_first u r = let k = r.kept in record { tree = r.tree; tables = r.tables; long = k.long; demands = λ c l _. k.demands c l; pebbles = k.pebbles; lasts = λ b v l _. k.lasts b v l; depths = k.depths }

pub half_next : {y : Yard} {t : Children} {s : State} {v c : ℕ} (b : Bool) → Halfway y t s v → v < size y → Child y.parents v c → Halfway y t (picked_state b v c s) c
half_next {y} {t} {s} {v} {c} b r l k = record {
  tree = r.tree;
  tables = r.tables;
  long = picked_long b v c s r.long;
  demands = λ w m n. get_or-set_other s.demands c w (nextℤ b (get_or s.demands c (pos 0))) (pos 0) (λ e. absurd (omega (arith, n, ap weigh e))) ∙ r.demands w m (omega (arith, n, lighter));
  pebbles = r.pebbles;
  lasts = λ a u m n. rw (last_stays b v c s a u (λ e. absurd (omega (arith, n, lighter, ap weigh e)))) (r.lasts a u m (omega (arith, n, lighter)));
  depths = r.depths;
}
  where
    weigh : ℕ → ℕ
    weigh = weight y.parents

    lighter : weigh c < weigh v
    lighter = weight_child (wood y r.tree) v c l k

-- they say whether the node is blocked
pub free_full : (y : Yard) (v : ℕ) (b : Bool) → b ≡ ltb (pebble y v) (capacity y v) → full y v ≡ not b
free_full y v true e = lt-leb (capacity y v) (pebble y v) (ltb-true (pebble y v) (capacity y v) (sym e))
free_full y v false e = le-leb (capacity y v) (pebble y v) (ltb-false (pebble y v) (capacity y v) (sym e))

pub held_free : (y : Yard) (v : ℕ) → (pebble y v ≡ 0 → ⊥) → blocked y false v ≡ false
held_free y v d = ap not (lt-ltb 0 (pebble y v) (omega arith))

pub empty_blocked : (y : Yard) (v : ℕ) → pebble y v ≡ 0 → blocked y false v ≡ true
empty_blocked y v e = ap not (le-ltb 0 (pebble y v) (omega arith))

-- there is a place for the move over the edge of v, whose parent is below 256 too, and behind it those before it
module _ {b : Bool} {y : Yard} {t : Children} {s : State} {end v : ℕ} (a : AskedFill b y t s end v) where
  pub one_place : 1 ≤ end
  one_place = omega (arith, a.places, weight_pos (wood y a.halfway.tree) v a.due.lt)

  pub one_less : end ≡ end - 1 + 1
  one_less = omega (arith, one_place)

  pub less_one : AskedFill b y t s (end - 1 + 1) v
  less_one = rw (← one_less) a

  pub up_small : {u : ℕ} → u ≡ up y.parents v → u < 256
  up_small q = rw q (half_small a.halfway ((wood y a.halfway.tree).parent_lt v a.due.lt))

-- where v is blocked, the child that is chosen makes way
module _ {b : Bool} {y : Yard} {t : Children} {s : State} {end v : ℕ} (a : AskedFill b y t s end v) (e : blocked y b v ≡ true) where
  kid : Child y.parents v (choice (need y b) y v) × Due y b (choice (need y b) y v)
  kid = blocked_child choice choice_sound y a.halfway.tree b v a.due e

  lower : weight y.parents (choice (need y b) y v) < weight y.parents v
  lower = weight_child (wood y a.halfway.tree) v (choice (need y b) y v) a.due.lt kid.0

  module _ {c : ℕ} {s' : State} (q : c ≡ choice (need y b) y v) (p : Picks b v c s s') where
    chosen_picked : s' ≡ picked_state b v (choice (need y b) y v) s
    chosen_picked = p.1 (λ f. absurd (omega (arith, lower, ap (weight y.parents) (sym q ∙ f)))) ∙ rw q

    pub chosen_up : v ≡ up y.parents c
    chosen_up = sym (ap (up y.parents) q ∙ kid.0.up)

    pub chosen_asked : {n : ℕ} → end ≡ n + 1 → AskedFill b y t s' n c
    chosen_asked h = rw (q, chosen_picked) (record { halfway = half_next b a.halfway a.due.lt kid.0; due = kid.1; places = omega (arith, a.places, lower); few = omega (arith, a.few) })

    -- its filling clears v
    pub cleared_behind : {n k : ℕ} {s'' : State} {list list' : List ℕ} → Filled b y n c s' s'' list list' k → Cleared b y n v s s'' list list' k
    cleared_behind {s'' = s''} r =
        let f = rw (q, chosen_picked) at r in
        record {
          moves = f.moves;
          serves = behind e f.serves;
          counted = f.counted;
          written = f.written;
          state = subst (λ (x : ℕ). pebble_counted b x s'' ≡ moved_all b f.moves s) kid.0.up (f.state s (ap (λ (x : ℕ). picked_state b x (choice (need y b) y v) s) (sym kid.0.up)));
        }

-- a v that is not blocked takes the pebble, or gives it
pub cleared_here : {b : Bool} {y : Yard} {t : Children} {s : State} {end n v : ℕ} {list : List ℕ} → AskedFill b y t s end v → blocked y b v ≡ false → Cleared b y n v s (pebble_counted (not b) v s) list list n
unfolding moved_all bytes
cleared_here {b} {s = s} {n = n} {v} {list} a e = record {
  moves = [];
  serves = direct e;
  counted = omega arith;
  written = sym (take-append-drop (2 * n) list);
  state = count_redo b v s (omega (arith, a.halfway.long.pebbles, half_small a.halfway a.due.lt));
}

-- lists that end alike
snoc_one : {A : Type 0} (l : List A) (a : A) {b : A} → (b ∷ []) ≡ l ++ (a ∷ []) → l ≡ []
snoc_one [] a e = refl
snoc_one (x ∷ l) a e = absurd (omega (arith, ap length e, length-append l (a ∷ [])))

snoc_same : {A : Type 0} (l m : List A) (a : A) → l ++ (a ∷ []) ≡ m ++ (a ∷ []) → l ≡ m
snoc_same l m a e = sym (take_at l (a ∷ []) (length l) refl) ∙ ap (take (length l)) e ∙ take_at m (a ∷ []) (length l) (omega (arith, ap length e, length-append l (a ∷ []), length-append m (a ∷ [])))

-- the move for which v is cleared is written before that
recorded_split : (b : Bool) (p v n : ℕ) (list : List ℕ) → 2 * n + 2 ≤ length list → recorded b p v n list ≡ take (2 * n) list ++ (cond b p v ∷ cond b v p ∷ drop (2 * n + 2) list)
recorded_split b p v n list h =
    let e = length-take-le (2 * n) list (omega arith) in
    rw (e, take-append-drop (2 * n) list) at (two_behind (take (2 * n) list) list (cond b p v) (cond b v p) (omega (arith, e)))

crossing_is : (ps : List ℕ) (b : Bool) (v : ℕ) → crossing ps b v ≡ push (cond b (up ps v) v) (cond b v (up ps v))
crossing_is ps true v = refl
crossing_is ps false v = refl

written_before : (ms : List Move) (x z k n : ℕ) (list : List ℕ) → k ≤ n → 2 * n + 2 ≤ length list
    → written_up_to k n ms (take (2 * n) list ++ (x ∷ z ∷ drop (2 * n + 2) list)) ≡ written_up_to k (n + 1) (ms ++ (push x z ∷ [])) list
unfolding bytes
written_before ms x z k n list l h =
    let e = length-take-le (2 * n) list (omega arith) in
    let g : 2 * (n + 1) ≡ 2 * n + 2 = omega arith in
    rw (take-append-le (2 * k) (take (2 * n) list) (x ∷ z ∷ drop (2 * n + 2) list) (omega (arith, e)), take-take (2 * k) (2 * n) list (omega arith), drop_at (take (2 * n) list) (x ∷ z ∷ drop (2 * n + 2) list) (2 * n) e, bytes_append ms (push x z ∷ []), append_assoc (bytes ms) (x ∷ z ∷ []) (drop (2 * (n + 1)) list), g)

-- where a node's children need as much as before, the neediest is the same
neediest_same : {need then : ℕ → ℕ} {y : Yard} {u r : ℕ} (ms : List Move) → ((v : ℕ) → Child y.parents u v → then v ≡ need v) → Neediest need y u r → Neediest then (run y ms) u r
neediest_same ms h n =
    let e = h _ n.needy.0 in
    record { needy = (n.needy.0, omega (arith, n.needy.1, e)); most = λ v k. omega (arith, n.most v k, h v k, e); first = λ v k l. omega (arith, n.first v k l, h v k, e) }

-- the moves on the state: a node above may pick before them or after; and the state of the yard is the one of the yard after them
module _ (y : Yard) (t : Tree y) where
  chosen : {b : Bool} {v : ℕ} → Due y b v → blocked y b v ≡ true → Child y.parents v (choice (need y b) y v) × Due y b (choice (need y b) y v)
  chosen {b} {v} u e = blocked_child choice choice_sound y t b v u e

  small : (v : ℕ) → v < size y → v < 256
  small v l = tree_small y v t l

  module _ (b : Bool) (p w : ℕ) where
    one_pick : {q v : ℕ} → Child y.parents q v → q < size y → weight y.parents q < weight y.parents p → weight y.parents v < weight y.parents w → (s : State)
        → moved_all b (crossing y.parents b v ∷ []) (picked_state b p w s) ≡ picked_state b p w (moved_all b (crossing y.parents b v ∷ []) s)
    one_pick {q} {v} k l g h s =
        moved_crossing y.parents b v (picked_state b p w s)
        ∙ rw k.up (move_pick b (λ o. absurd (omega (arith, g, ap (weight y.parents) o))) (λ o. absurd (omega (arith, h, ap (weight y.parents) o))) s)
        ∙ ap (picked_state b p w) (sym (moved_crossing y.parents b v s))

    moved_pick : {q v : ℕ} {ms : List Move} → Serves choice y b v ms → Due y b v → Child y.parents q v → q < size y → weight y.parents q < weight y.parents p → weight y.parents v < weight y.parents w → (s : State)
        → moved_all b ms (picked_state b p w s) ≡ picked_state b p w (moved_all b ms s)
    moved_pick (direct e) u k l g h s = one_pick k l g h s
    moved_pick {q} {v} (behind {ms = ms} e r) u k l g h s =
        let c = chosen u e in
        let n = weight_child (wood y t) q v l k in
        let m = weight_child (wood y t) v (choice (need y b) y v) u.lt c.0 in
        moved_append b ms (crossing y.parents b v ∷ []) (picked_state b p w s)
        ∙ ap (moved_all b (crossing y.parents b v ∷ [])) (moved_pick {q = v} r c.1 c.0 u.lt (omega (arith, g, n)) (omega (arith, h, m)) s)
        ∙ one_pick k l g h (moved_all b ms s)
        ∙ ap (picked_state b p w) (sym (moved_append b ms (crossing y.parents b v ∷ []) s))

  -- those before the last one, for which v was cleared
  way_pick : {b : Bool} {v : ℕ} (ms ns : List Move) → Serves choice y b v ns → ns ≡ ms ++ (crossing y.parents b v ∷ []) → Due y b v → Child y.parents (up y.parents v) v → (s : State)
      → moved_all b ms (picked_state b (up y.parents v) v s) ≡ picked_state b (up y.parents v) v (moved_all b ms s)
  unfolding moved_all
  way_pick {b} {v} ms ns (direct e) q u k s = rw (snoc_one ms (crossing y.parents b v) q)
  way_pick {b} {v} ms ns (behind {ms = os} e r) q u k s =
      let c = chosen u e in
      let l = (wood y t).parent_lt v u.lt in
      let n = weight_child (wood y t) (up y.parents v) v l k in
      let m = weight_child (wood y t) v (choice (need y b) y v) u.lt c.0 in
      rw (← (snoc_same os ms (crossing y.parents b v) q)) (moved_pick b (up y.parents v) v r c.1 c.0 u.lt n m s)

  pub served_kept : {b : Bool} {v : ℕ} {ms : List Move} → Serves choice y b v ms → Due y b v → Neediest (need y b) y (up y.parents v) v → (s : State) → Kept y s → Kept (run y ms) (moved_all b ms s)
  unfolding due_step after choice
  served_kept {b} {v} (direct e) u n s k =
      subst (Kept (run y (crossing y.parents b v ∷ []))) (shift_steps y.parents b v s n.needy.0.other ∙ sym (moved_crossing y.parents b v s))
      (kept_next y [] (crossing y.parents b v) s k (due_step y t b v u (free_able y b v e)) n)
  served_kept {b} {v} (behind {ms = ms} e r) u n s k =
      let c = choice (need y b) y v in
      let q = chosen u e in
      let p = serves_shift choice choice_sound y t r q.1 in
      let w = moved_all b ms s in
      subst (Kept (run y (ms ++ (crossing y.parents b v ∷ []))))
      (shift_steps y.parents b v w n.needy.0.other ∙ sym (moved_append b ms (crossing y.parents b v ∷ []) s ∙ moved_crossing y.parents b v w))
      (kept_next y ms (crossing y.parents b v) w (served_kept r q.1 (rw q.0.up (neediest_some (need y b) y v c (q.0, q.1.needs))) s k)
      (due_step (run y ms) (good_tree y t ms p.good) b v (due_behind y t b v c ms u q.0 p) (able_behind y t b v c ms u q.0 p))
      (neediest_same ms (λ i j. need_behind y t b v c ms u q.0 p n.needy.0 j) n))

-- clearing and the last move are a filling
pub filled_last : {b : Bool} {y : Yard} {t : Children} {n end u v k : ℕ} {s s' : State} {list list' : List ℕ}
    → AskedFill b y t s end v → end ≡ n + 1 → length list ≡ 512 → u ≡ up y.parents v → Cleared b y n v s s' (recorded b u v n list) list' k → Filled b y end v s s' list list' k
filled_last {b} {y} {t} {n} {end} {u} {v} {k} {s} {s'} {list} a h l q c = record {
  long = l;
  moves = c.moves ++ (m ∷ []);
  serves = c.serves;
  counted = omega (arith, c.counted, length-append c.moves (m ∷ []));
  written = c.written ∙ rw (h, crossing_is y.parents b v, ← q, recorded_split b u v n list (omega (arith, a.few))) (written_before c.moves (cond b u v) (cond b v u) k n list (omega (arith, c.counted)) (omega (arith, a.few)));
  state = λ s₀ e. sym (
      moved_append b c.moves (m ∷ []) s₀ ∙ moved_crossing y.parents b v (moved_all b c.moves s₀)
      ∙ ap (λ (z : State). pebble_counted (not b) v (pebble_counted b x z)) (
      sym (way_pick y tree c.moves (c.moves ++ (m ∷ [])) c.serves refl a.due here s₀) ∙ ap (moved_all b c.moves) (sym e) ∙ sym c.state
      )
      ∙ count_count (not b) b v x (pebble_counted b v s') here.other
      ∙ ap (pebble_counted b x) (count_undo b v s' (omega (arith, long, half_small a.halfway a.due.lt)))
      );
}
  where
    m : Move
    m = crossing y.parents b v

    x : ℕ
    x = up y.parents v

    tree : Tree y
    tree = a.halfway.tree

    here : Child y.parents x v
    here = record { lt = a.due.lt; up = refl; other = λ e. a.due.off_root ((wood y tree).root_only v a.due.lt (sym e)) }

    long : length s'.pebbles ≡ 256
    long =
        sym (length-set s'.pebbles v (nextℤ b (get_or s'.pebbles v (pos 0)))) ∙ ap (λ (z : State). length z.pebbles) c.state
        ∙ (moved_length b c.moves s).1 ∙ a.halfway.long.pebbles

-- a turn at u, whose child v was picked: what filling v or drawing from it asks, and the counts of both
module _ {b : Bool} {y : Yard} {t : Children} {s₀ s : State} {plan : List ℕ} {u v : ℕ} (a : AskedServe b y t s₀ s plan u v) where
  grown : Tree y
  grown = a.described.tree

  pub serve_up : u ≡ up y.parents v
  serve_up = sym a.chosen.needy.0.up

  u_lt : u < size y
  u_lt = rw serve_up ((wood y grown).parent_lt v a.due.lt)

  pub serve_half : Halfway y t s v
  serve_half = rw a.picked (half_next b (half_first u a.described) u_lt a.chosen.needy.0)

  pub serve_asked : AskedFill b y t s 256 v
  serve_asked = record { halfway = serve_half; due = a.due; places = omega (arith, weight_le y.parents v, (facts y grown).few); few = omega arith }

  few : (w : ℕ) → w < size y → nat_abs (get_or s.pebbles w (pos 0)) ≤ 255
  few w l = let f = facts y grown in rw (serve_half.pebbles w l) (omega (arith, f.pebble_le w l, f.capacity_le w l))

  pub serve_small : (u < 256) × (v < 256) × (u ≢ v) × Small s.pebbles u × Small s.pebbles v
  serve_small = (half_small serve_half u_lt, half_small serve_half a.due.lt, (λ e. a.chosen.needy.0.other (sym e)), omega (arith, few u u_lt), omega (arith, few v a.due.lt))

  module _ {ms : List Move} (r : Serves choice y b v ms) where
    serve_room : 2 * length ms ≤ length plan
    serve_room = omega (arith, a.room, (serves_shift choice choice_sound y grown r a.due).good.spends)

    serve_kept : Kept (run y ms) (moved_all b ms s₀)
    serve_kept = served_kept y grown r a.due (rw (← serve_up) a.chosen) s₀ a.described.kept

  -- a single move, and those that were handed over
  pub serve_one_room : blocked y b v ≡ false → 2 ≤ length plan
  serve_one_room e = omega (arith, serve_room (direct e))

  pub serve_one : blocked y b v ≡ false → Served b y v (pebble_counted (not b) v (pebble_counted b u s)) plan (recorded b u v 0 plan) 1
  unfolding bytes
  serve_one e = record {
    moves = crossing y.parents b v ∷ [];
    serves = direct e;
    made = record { kept = rw (a.picked, serve_up, ← (moved_crossing y.parents b v s₀)) (serve_kept (direct e)); written = rw (crossing_is y.parents b v, ← serve_up) (recorded_split b u v 0 plan (omega (arith, serve_room (direct e)))); counted = refl };
  }

  module _ {s' : State} {list list' : List ℕ} {k : ℕ} (f : Filled b y 256 v s s' list list' k) where
    -- the state, and the count at u that is still to change
    done : pebble_counted b u s' ≡ moved_all b f.moves s₀
    done = rw serve_up (f.state s₀ (rw (← serve_up) a.picked))

    kept : Kept (run y f.moves) (pebble_counted b u s')
    kept = rw done (serve_kept f.serves)

    pub serve_few : Small s'.pebbles u
    serve_few =
        let g = facts (run y f.moves) (good_tree y grown f.moves (serves_shift choice choice_sound y grown f.serves a.due).good) in
        let l : length s'.pebbles ≡ 256 = sym (length-set s'.pebbles u (nextℤ b (get_or s'.pebbles u (pos 0)))) ∙ kept.long.pebbles in
        let n = step_near (not b) u u (stepped b u s'.pebbles) in
        omega (arith, rw (step_undo b u s'.pebbles (omega (arith, l, serve_small.0)), kept.pebbles u u_lt) at n, g.pebble_le u u_lt, g.capacity_le u u_lt)

    -- the list, and room for them
    front : length (take (2 * k) list) ≡ 2 * k
    front = length-take-le (2 * k) list (omega (arith, f.long, f.counted))

    pub serve_list : (length list' ≡ 512) × (k ≤ 256) × (512 ≤ length plan + 2 * k)
    serve_list = (ap length f.written ∙ omega (arith, front, f.counted, length-append (take (2 * k) list) (bytes f.moves ++ drop 512 list), length-append (bytes f.moves) (drop 512 list), length_bytes f.moves, length-drop 512 list, f.long), omega (arith, f.counted), omega (arith, f.counted, serve_room f.serves))

    pub serve_all : {s'' : State} {plan' : List ℕ} {count : ℕ} → s'' ≡ pebble_counted b u s' → plan' ≡ overwrite (drop (2 * k) list') plan → count + k ≡ 256 → Served b y v s'' plan plan' count
    serve_all p q c = record {
      moves = f.moves;
      serves = f.serves;
      made = record {
        kept = rw p kept;
        written = q ∙ rw (f.written, drop_at (take (2 * k) list) (bytes f.moves ++ drop 512 list) (2 * k) front, drop_of_length-le list {i = 512} (omega (arith, f.long)), append-nil (bytes f.moves));
        counted = omega (arith, f.counted);
      };
    }

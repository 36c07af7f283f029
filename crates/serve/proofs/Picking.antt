-- Entries of the state's lists that are stepped and set, in any order where they are different
-- ones; and moves on the state.
use mathlib.Core.Path.{◌≡◌, refl, sym, ap, ◌∙◌}
use mathlib.Core.Logic.{◌≢◌}
use mathlib.Core.Bool.{Bool, true, false, not, cond, false≢true}
use mathlib.Core.List.{List, [], ◌∷◌, ◌++◌}
use Prim.Native.Nat.{ℕ, zero, suc, ◌+◌, ◌≤◌, ◌<◌}
use native.Mathlib.Omega.{arith}
use native.Mathlib.Decide.{ℕ_discrete, dec_lt}
use lib.ListN.{length, get_or, set, length-set}
use lib.Seq.{get_or-set_same, get_or-set_other, set-get_or, set_out}
use lib.IntN.{ℤ, pos, negsuc, nat_abs}
use Rattle.model.specs.Yard.{up}
use Rattle.model.specs.Push.{Move}
use Rattle.laws.specs.Algorithms.{crossing}
use Rattle.laws.proofs.Signed.{nextℤ}
use Rattle.serve.specs.declared.state.State.{State}
use Rattle.serve.specs.Serving.{lasts, Long, stepped, pebble_counted, picked_state, moved_state, moved_all}

-- two entries set, and one set twice
set_swap : {A : Type 0} (l : List A) (i j : ℕ) (a b : A) → i ≢ j → set (set l i a) j b ≡ set (set l j b) i a
set_swap [] i j a b d = refl
set_swap (x ∷ xs) zero zero a b d = absurd (d refl)
set_swap (x ∷ xs) zero (suc j) a b d = refl
set_swap (x ∷ xs) (suc i) zero a b d = refl
set_swap {A} (x ∷ xs) (suc i) (suc j) a b d = ap (λ (r : List A). x ∷ r) (set_swap xs i j a b (λ e. d (ap suc e)))

set_twice : {A : Type 0} (l : List A) (i : ℕ) (a b : A) → set (set l i a) i b ≡ set l i b
set_twice [] i a b = refl
set_twice (x ∷ xs) zero a b = refl
set_twice {A} (x ∷ xs) (suc i) a b = ap (λ (r : List A). x ∷ r) (set_twice xs i a b)

-- there and back
next_undo : (b : Bool) (k : ℤ) → nextℤ (not b) (nextℤ b k) ≡ k
next_undo true (pos zero) = refl
next_undo true (pos (suc n)) = refl
next_undo true (negsuc n) = refl
next_undo false (pos n) = refl
next_undo false (negsuc zero) = refl
next_undo false (negsuc (suc n)) = refl

pub step_undo : (b : Bool) (i : ℕ) (s : List ℤ) → i < length s → stepped (not b) i (stepped b i s) ≡ s
step_undo b i s l = rw (get_or-set_same s i (nextℤ b (get_or s i (pos 0))) (pos 0) l, next_undo b (get_or s i (pos 0)), set_twice s i (nextℤ b (get_or s i (pos 0))) (get_or s i (pos 0))) (set-get_or s i (pos 0))

pub step_redo : (b : Bool) (i : ℕ) (s : List ℤ) → i < length s → stepped b i (stepped (not b) i s) ≡ s
step_redo true i s l = step_undo false i s l
step_redo false i s l = step_undo true i s l

-- no entry goes farther from 0 than by one
next_near : (b : Bool) (k : ℤ) → nat_abs (nextℤ b k) ≤ nat_abs k + 1
next_near true (pos zero) = omega arith
next_near true (pos (suc n)) = omega arith
next_near true (negsuc n) = omega arith
next_near false (pos n) = omega arith
next_near false (negsuc zero) = omega arith
next_near false (negsuc (suc n)) = omega arith

pub step_near : (b : Bool) (i j : ℕ) (s : List ℤ) → nat_abs (get_or (stepped b i s) j (pos 0)) ≤ nat_abs (get_or s j (pos 0)) + 1
step_near b i j s = go (ℕ_discrete j i) (dec_lt i (length s))
  where
    go : Dec (j ≡ i) → Dec (i < length s) → nat_abs (get_or (stepped b i s) j (pos 0)) ≤ nat_abs (get_or s j (pos 0)) + 1
    go (no d) _ = rw (get_or-set_other s i j (nextℤ b (get_or s i (pos 0))) (pos 0) d) (omega arith)
    go (yes e) (yes l) = rw (e, get_or-set_same s i (nextℤ b (get_or s i (pos 0))) (pos 0) l) (next_near b (get_or s i (pos 0)))
    go (yes e) (no l) = rw (set_out s i (nextℤ b (get_or s i (pos 0))) (omega arith)) (omega arith)

-- a step and an entry set elsewhere, and two steps
step_set : (b : Bool) (i j : ℕ) (a : ℤ) (s : List ℤ) → i ≢ j → stepped b i (set s j a) ≡ set (stepped b i s) j a
step_set b i j a s d = rw (get_or-set_other s j i a (pos 0) d) (set_swap s j i a (nextℤ b (get_or s i (pos 0))) (λ e. d (sym e)))

pub step_step : (b c : Bool) (i j : ℕ) (s : List ℤ) → i ≢ j → stepped b i (stepped c j s) ≡ stepped c j (stepped b i s)
step_step b c i j s d = step_set b i j (nextℤ c (get_or s j (pos 0))) s d ∙ rw (get_or-set_other s i j (nextℤ b (get_or s i (pos 0))) (pos 0) (λ e. d (sym e)))

-- two steps of a count, there and back
pub count_undo : (b : Bool) (v : ℕ) (s : State) → v < length s.pebbles → pebble_counted (not b) v (pebble_counted b v s) ≡ s
count_undo b v s l = ap (λ (p : List ℤ). record s { pebbles = p }) (step_undo b v s.pebbles l)

pub count_redo : (b : Bool) (v : ℕ) (s : State) → v < length s.pebbles → pebble_counted b v (pebble_counted (not b) v s) ≡ s
count_redo b v s l = ap (λ (p : List ℤ). record s { pebbles = p }) (step_redo b v s.pebbles l)

pub count_count : (b c : Bool) (v w : ℕ) (s : State) → v ≢ w → pebble_counted b v (pebble_counted c w s) ≡ pebble_counted c w (pebble_counted b v s)
count_count b c v w s d = ap (λ (p : List ℤ). record s { pebbles = p }) (step_step b c v w s.pebbles d)

-- a child picked, and a pebble counted: the pebbles stay; the one served last is read where it was
-- written, and elsewhere it stays
module _ (b : Bool) (u c : ℕ) (s : State) where
  pub count_pick : (a : Bool) (v : ℕ) → pebble_counted a v (picked_state b u c s) ≡ picked_state b u c (pebble_counted a v s)
  count_pick a v = refl

  pub pick_reads : (v : ℕ) → get_or (picked_state b u c s).pebbles v (pos 0) ≡ get_or s.pebbles v (pos 0)
  pick_reads v = refl

  pub last_same : u < length (lasts b s) → get_or (lasts b (picked_state b u c s)) u (pos 0) ≡ pos c
  last_same l = go b l
    where
      go : (a : Bool) → u < length (lasts a s) → get_or (lasts a (picked_state a u c s)) u (pos 0) ≡ pos c
      go true k = get_or-set_same s.last_filled u (pos c) (pos 0) k
      go false k = get_or-set_same s.last_drawn u (pos c) (pos 0) k

  pub last_stays : (a : Bool) (w : ℕ) → (w ≡ u → a ≡ not b) → get_or (lasts a (picked_state b u c s)) w (pos 0) ≡ get_or (lasts a s) w (pos 0)
  last_stays a w d = go a b d
    where
      go : (a b : Bool) → (w ≡ u → a ≡ not b) → get_or (lasts a (picked_state b u c s)) w (pos 0) ≡ get_or (lasts a s) w (pos 0)
      go true true e = get_or-set_other s.last_filled u w (pos c) (pos 0) (λ q. false≢true (sym (e q)))
      go false false e = get_or-set_other s.last_drawn u w (pos c) (pos 0) (λ q. false≢true (e q))
      go true false e = refl
      go false true e = refl

  pub picked_long : Long s → Long (picked_state b u c s)
  picked_long l = record { demands = simp length-set l.demands; pebbles = l.pebbles; lasts = λ a. go a b ∙ l.lasts a; depths = l.depths }
    where
      go : (a b : Bool) → length (lasts a (picked_state b u c s)) ≡ length (lasts a s)
      go true true = length-set s.last_filled u (pos c)
      go false false = length-set s.last_drawn u (pos c)
      go true false = refl
      go false true = refl

-- two children picked, of two nodes
pub pick_pick : (b : Bool) {u c v w : ℕ} → u ≢ v → c ≢ w → (s : State) → picked_state b u c (picked_state b v w s) ≡ picked_state b v w (picked_state b u c s)
pick_pick true {u} {c} {v} {w} d e s = rw (step_step true true c w s.demands e, set_swap s.last_filled v u (pos w) (pos c) (λ q. d (sym q))) refl
pick_pick false {u} {c} {v} {w} d e s = rw (step_step false false c w s.demands e, set_swap s.last_drawn v u (pos w) (pos c) (λ q. d (sym q))) refl

-- a move, and a child picked elsewhere
pub move_pick : (b : Bool) {p w q v : ℕ} → p ≢ q → w ≢ v → (s : State) → moved_state b q v (picked_state b p w s) ≡ picked_state b p w (moved_state b q v s)
move_pick b {p} {w} {q} {v} d e s = ap (λ (z : State). pebble_counted (not b) v (pebble_counted b q z)) (sym (pick_pick b d e s))

-- the counts of a move, from one node to another
pub shift_steps : (t : List ℕ) (b : Bool) (v : ℕ) (s : State) → v ≢ up t v
    → pebble_counted false (crossing t b v).to (pebble_counted true (crossing t b v).from (picked_state b (up t v) v s)) ≡ moved_state b (up t v) v s
shift_steps t true v s d = refl
shift_steps t false v s d = count_count false true (up t v) v (picked_state false (up t v) v s) (λ e. d (sym e))

-- some moves more, and how long the lists of the state are
pub moved_append : (b : Bool) (ms ns : List Move) (s : State) → moved_all b (ms ++ ns) s ≡ moved_all b ns (moved_all b ms s)
unfolding moved_all
moved_append b [] ns s = refl
moved_append b (m ∷ ms) ns s = moved_append b ms ns (moved_state b (cond b m.from m.to) (cond b m.to m.from) s)

pub moved_crossing : (t : List ℕ) (b : Bool) (v : ℕ) (s : State) → moved_all b (crossing t b v ∷ []) s ≡ moved_state b (up t v) v s
unfolding moved_all
moved_crossing t true v s = refl
moved_crossing t false v s = refl

abbrev AsLong : State → State → Type 0
AsLong z s =
    (length z.demands ≡ length s.demands) × (length z.pebbles ≡ length s.pebbles) × (length z.last_filled ≡ length s.last_filled)
    × (length z.last_drawn ≡ length s.last_drawn) × (length z.depths ≡ length s.depths)

pub moved_length : (b : Bool) (ms : List Move) (s : State) → AsLong (moved_all b ms s) s
unfolding moved_all
moved_length b [] s = (refl, refl, refl, refl, refl)
moved_length b (m ∷ ms) s =
    let r = moved_length b ms (moved_state b (cond b m.from m.to) (cond b m.to m.from) s) in
    let n = one b (cond b m.from m.to) (cond b m.to m.from) in
    (r.0 ∙ n.0, r.1 ∙ n.1, r.2 ∙ n.2, r.3 ∙ n.3, r.4 ∙ n.4)
  where
    one : (b : Bool) (p v : ℕ) → AsLong (moved_state b p v s) s
    one true p v = (simp length-set refl, simp length-set refl, simp length-set refl, refl, refl)
    one false p v = (simp length-set refl, simp length-set refl, refl, simp length-set refl, refl)

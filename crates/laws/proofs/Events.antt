-- Events (request 2.5). One mark more or less at a node changes what lies in each subtree that the node is in, by one, and in no
-- other: so a demand list that belongs to the yard belongs to the altered yard once the entries on the way to the root have changed by one.
use mathlib.Core.Path.{◌≡◌, refl, sym, ap, ◌∙◌}
use mathlib.Core.Bool.{Bool, true, false, cond}
use mathlib.Core.Logic.{◌↔◌}
use mathlib.Core.List.{List}
use Prim.Native.Nat.{ℕ, suc, ◌+◌, ◌-◌, ◌*◌, ◌≤◌, ◌<◌}
use native.Mathlib.Omega.{arith}
use native.Mathlib.Decide.{ℕ_discrete}
use lib.ListN.{length, get_or, length-set}
use lib.Seq.{get_or-set_same, get_or-set_other}
use lib.Dec.{ltb, eqb}
use lib.IntN.{ℤ, pos, nat_abs, sub_ℕ, suc_ℤ, pred_ℤ, neg_ℤ, ◌-ℤ◌, suc-pred, pred-suc, suc_ℤ-+ℤ, pred_ℤ-+ℤ, +ℤ_invr}
use borrow.Author.Tests.{ltb-true, lt-ltb, eq-eqb, ne_eqb}
use Rattle.model.specs.declared.Event.{Event}
use Rattle.model.specs.declared.Event.TheVariants.{PebbleArrives, PebbleLeaves, TargetSet, TargetCleared}
use Rattle.model.specs.Yard.{Yard, yard_of, size, pebble, target, capacity, one, sum, inside, subtotal, targets_in, pebbles_in, demand, entry}
use Rattle.model.specs.Judge.{Tree}
use Rattle.model.specs.Calls.Demands.{demands_fault, demands_of, demands_list}
use Rattle.model.specs.Calls.Events.{oneMore, oneLess, pebbles_after, targets_after, altered, changed, entry_after, demands_after, possible}
use Rattle.laws.specs.Events.{CanHappen, JustPossible}
use Rattle.laws.proofs.Sums.{sum_cong, sum_add, sum_pick}
use Rattle.laws.proofs.Judged.{facts, counted_tree}
use Rattle.laws.proofs.Signed.{sub_suc, suc_sub}
use Rattle.laws.proofs.Ranges.{length_range, get_d_listed, listed}
use Rattle.laws.proofs.Equation2.{demands_entry}

-- one entry more or less
module _ (list : List ℕ) (v : ℕ) (l : v < length list) where
  pub get_d_more : (u : ℕ) → get_or (oneMore list v) u 0 ≡ get_or list u 0 + one (eqb u v)
  get_d_more u = go (ℕ_discrete u v)
    where
      go : Dec (u ≡ v) → get_or (oneMore list v) u 0 ≡ get_or list u 0 + one (eqb u v)
      go (yes e) = rw (e, eq-eqb v v refl, get_or-set_same list v (get_or list v 0 + 1) 0 l)
      go (no d) = rw (ne_eqb u v d, get_or-set_other list v u (get_or list v 0 + 1) 0 d) (omega arith)

  pub get_d_less : 0 < get_or list v 0 → (u : ℕ) → get_or list u 0 ≡ get_or (oneLess list v) u 0 + one (eqb u v)
  get_d_less h u = go (ℕ_discrete u v)
    where
      go : Dec (u ≡ v) → get_or list u 0 ≡ get_or (oneLess list v) u 0 + one (eqb u v)
      go (yes e) = rw (e, eq-eqb v v refl, get_or-set_same list v (get_or list v 0 - 1) 0 l) (omega arith)
      go (no d) = rw (ne_eqb u v d, get_or-set_other list v u (get_or list v 0 - 1) 0 d) (omega arith)

-- one unit more at v is one more in each subtree that v is in
pub subtotal_more : (ps : List ℕ) (f g : ℕ → ℕ) (v : ℕ) → v < length ps → ((u : ℕ) → g u ≡ f u + one (eqb u v))
    → (t : ℕ) → subtotal ps g t ≡ subtotal ps f t + one (inside ps t v)
unfolding subtotal
subtotal_more ps f g v l e t =
    sum_cong (length ps) _ (λ u. within u * f u + one (eqb u v) * within u) (λ u _. omega (arith, ap (λ (x : ℕ). within u * x) (e u)))
    ∙ sum_add (length ps) (λ u. within u * f u) (λ u. one (eqb u v) * within u)
    ∙ ap (λ (x : ℕ). sum (length ps) (λ u. within u * f u) + x) (sum_pick (length ps) v within l)
  where
    within : ℕ → ℕ
    within u = one (inside ps t u)

-- a difference, one of whose sides changes by one under a test
rises_left : (a b c : ℕ) (t : Bool) → c ≡ a + one t → sub_ℕ c b ≡ cond t (suc_ℤ (sub_ℕ a b)) (sub_ℕ a b)
rises_left a b c true e = let q : c ≡ suc a = omega arith in rw q (suc_sub a b)
rises_left a b c false e = let q : c ≡ a = omega arith in rw q

falls_left : (a b c : ℕ) (t : Bool) → a ≡ c + one t → sub_ℕ c b ≡ cond t (pred_ℤ (sub_ℕ a b)) (sub_ℕ a b)
falls_left a b c true e = let q : a ≡ suc c = omega arith in rw q (sym (ap pred_ℤ (suc_sub c b) ∙ pred-suc (sub_ℕ c b)))
falls_left a b c false e = let q : a ≡ c = omega arith in rw q

falls_right : (a b c : ℕ) (t : Bool) → c ≡ b + one t → sub_ℕ a c ≡ cond t (pred_ℤ (sub_ℕ a b)) (sub_ℕ a b)
falls_right a b c true e = let q : c ≡ suc b = omega arith in rw q (sub_suc a b)
falls_right a b c false e = let q : c ≡ b = omega arith in rw q

rises_right : (a b c : ℕ) (t : Bool) → b ≡ c + one t → sub_ℕ a c ≡ cond t (suc_ℤ (sub_ℕ a b)) (sub_ℕ a b)
rises_right a b c true e = let q : b ≡ suc c = omega arith in rw q (sym (ap suc_ℤ (sub_suc a c) ∙ suc-pred (sub_ℕ a c)))
rises_right a b c false e = let q : b ≡ c = omega arith in rw q

-- an event that can happen, at a node of a tree
module _ (y : Yard) (t : Tree y) (v : ℕ) (l : v < size y) where
  more_le : (list : List ℕ) → length list ≡ size y → ltb (get_or list v 0) (capacity y v) ≡ true → ((u : ℕ) → u < size y → get_or list u 0 ≤ capacity y u)
      → (u : ℕ) → u < size y → get_or (oneMore list v) u 0 ≤ capacity y u
  more_le list e h k u m = go (ℕ_discrete u v)
    where
      new : get_or (oneMore list v) u 0 ≡ get_or list u 0 + one (eqb u v)
      new = get_d_more list v (omega arith) u

      go : Dec (u ≡ v) → get_or (oneMore list v) u 0 ≤ capacity y u
      go (yes q) = omega (arith, new, ap one (eq-eqb u v q), rw (← q) at (ltb-true (get_or list v 0) (capacity y v) h))
      go (no d) = omega (arith, new, ap one (ne_eqb u v d), k u m)

  less_le : (list : List ℕ) → length list ≡ size y → ltb 0 (get_or list v 0) ≡ true → ((u : ℕ) → u < size y → get_or list u 0 ≤ capacity y u)
      → (u : ℕ) → u < size y → get_or (oneLess list v) u 0 ≤ capacity y u
  less_le list e h k u m = omega (arith, k u m, get_d_less list v (omega arith) (ltb-true 0 (get_or list v 0) h) u)

  room : (list : List ℕ) → length list ≡ size y → get_or (oneMore list v) v 0 ≤ capacity y v → ltb (get_or list v 0) (capacity y v) ≡ true
  room list e h = lt-ltb (get_or list v 0) (capacity y v) (omega (arith, get_d_more list v (omega arith) v, ap one (eq-eqb v v refl)))

  -- the altered yard is a tree again
  pub altered_tree : (e : Event) → possible y e v ≡ true → Tree (altered y e v)
  unfolding altered
  altered_tree e h = go e h
    where
      pl : length y.pebbles ≡ size y
      pl = (facts y t).pebbles_size

      tl : length y.targets ≡ size y
      tl = (facts y t).targets_size

      go : (e : Event) → possible y e v ≡ true → Tree (yard_of y.parents (pebbles_after y e v) (targets_after y e v) y.depths)
      go PebbleArrives h = counted_tree y t _ _ (simp length-set pl) tl (more_le y.pebbles pl h (facts y t).pebble_le) (facts y t).target_le
      go PebbleLeaves h = counted_tree y t _ _ (simp length-set pl) tl (less_le y.pebbles pl h (facts y t).pebble_le) (facts y t).target_le
      go TargetSet h = counted_tree y t _ _ pl (simp length-set tl) (facts y t).pebble_le (more_le y.targets tl h (facts y t).target_le)
      go TargetCleared h = counted_tree y t _ _ pl (simp length-set tl) (facts y t).pebble_le (less_le y.targets tl h (facts y t).target_le)

  -- which is so only if there was room; so an event can happen exactly if its 20 is not given
  can_happen : (e : Event) → (possible y e v ≡ true) ↔ CanHappen y e v
  unfolding altered
  can_happen PebbleArrives = (altered_tree PebbleArrives, λ a. room y.pebbles (facts y t).pebbles_size ((facts (altered y PebbleArrives v) a).pebble_le v l))
  can_happen PebbleLeaves = (ltb-true 0 (pebble y v), lt-ltb 0 (pebble y v))
  can_happen TargetSet = (altered_tree TargetSet, λ a. room y.targets (facts y t).targets_size ((facts (altered y TargetSet v) a).target_le v l))
  can_happen TargetCleared = (ltb-true 0 (target y v), lt-ltb 0 (target y v))

  -- and its demands are those of before, but for the nodes on the way from v to the root, where they change by one
  pub demand_altered : (e : Event) → possible y e v ≡ true → (u : ℕ) → demand (altered y e v) u ≡ cond (inside y.parents u v) (changed e (demand y u)) (demand y u)
  unfolding altered
  demand_altered e h u = go e h
    where
      pl : v < length y.pebbles
      pl = omega (arith, (facts y t).pebbles_size)

      tl : v < length y.targets
      tl = omega (arith, (facts y t).targets_size)

      go : (e : Event) → possible y e v ≡ true → demand (yard_of y.parents (pebbles_after y e v) (targets_after y e v) y.depths) u ≡ cond (inside y.parents u v) (changed e (demand y u)) (demand y u)
      go PebbleArrives h = falls_right (targets_in y u) (pebbles_in y u) (pebbles_in (altered y PebbleArrives v) u) (inside y.parents u v) (subtotal_more y.parents (pebble y) (pebble (altered y PebbleArrives v)) v l (get_d_more y.pebbles v pl) u)
      go PebbleLeaves h = rises_right (targets_in y u) (pebbles_in y u) (pebbles_in (altered y PebbleLeaves v) u) (inside y.parents u v) (subtotal_more y.parents (pebble (altered y PebbleLeaves v)) (pebble y) v l (get_d_less y.pebbles v pl (ltb-true 0 (pebble y v) h)) u)
      go TargetSet h = rises_left (targets_in y u) (pebbles_in y u) (targets_in (altered y TargetSet v) u) (inside y.parents u v) (subtotal_more y.parents (target y) (target (altered y TargetSet v)) v l (get_d_more y.targets v tl) u)
      go TargetCleared h = falls_left (targets_in y u) (pebbles_in y u) (targets_in (altered y TargetCleared v) u) (inside y.parents u v) (subtotal_more y.parents (target (altered y TargetCleared v)) (target y) v l (get_d_less y.targets v tl (ltb-true 0 (target y v) h)) u)

pub just_possible : (y : Yard) → JustPossible y
just_possible y t v l = can_happen y t v l

-- the demand list after an event: entries on the way to the root change by one, the others stay
pub changed_one : (e : Event) (k : ℤ) → nat_abs (changed e k -ℤ k) ≡ 1
changed_one e k = go e
  where
    risen : nat_abs (suc_ℤ k -ℤ k) ≡ 1
    risen = ap nat_abs (suc_ℤ-+ℤ k (neg_ℤ k) ∙ ap suc_ℤ (+ℤ_invr k))

    fallen : nat_abs (pred_ℤ k -ℤ k) ≡ 1
    fallen = ap nat_abs (pred_ℤ-+ℤ k (neg_ℤ k) ∙ ap pred_ℤ (+ℤ_invr k))

    go : (e : Event) → nat_abs (changed e k -ℤ k) ≡ 1
    go PebbleArrives = fallen
    go PebbleLeaves = risen
    go TargetSet = risen
    go TargetCleared = fallen

module _ (y : Yard) (e : Event) (v : ℕ) (list : List ℤ) where
  pub length_demands_after : length (demands_after y e v list) ≡ size y
  unfolding demands_after
  length_demands_after = length_range (entry_after y e v list) 0 (size y)

  entry_after_law : (u : ℕ) → u < size y → entry (demands_after y e v list) u ≡ entry_after y e v list u
  unfolding demands_after
  entry_after_law u l = get_d_listed (entry_after y e v list) (pos 0) (size y) u l

  pub entry_on : (u : ℕ) → u < size y → inside y.parents u v ≡ true → entry (demands_after y e v list) u ≡ changed e (entry list u)
  entry_on u l i = entry_after_law u l ∙ rw i

  pub entry_off : (u : ℕ) → u < size y → inside y.parents u v ≡ false → entry (demands_after y e v list) u ≡ entry list u
  entry_off u l i = entry_after_law u l ∙ rw i

-- the list that belongs to the yard is what the account call writes
pub demands_list_tree : (y : Yard) (list : List ℤ) → Tree y → length list ≡ size y → demands_list y list ≡ demands_of y
unfolding demands_fault
demands_list_tree y list t e = rw (t, eq-eqb (length list) (size y) e)

module _ (y : Yard) (t : Tree y) (e : Event) (v : ℕ) (l : v < size y) (h : possible y e v ≡ true) where
  entry_right : (u : ℕ) → u < size y → entry_after y e v (demands_of y) u ≡ demand (altered y e v) u
  entry_right u k = rw (demands_entry y u k) (sym (demand_altered y t v l e h u))

  -- after an event it is the list of the altered yard
  pub demands_after_right : demands_after y e v (demands_of y) ≡ demands_of (altered y e v)
  unfolding altered
  demands_after_right =
      listed (demand (altered y e v)) (pos 0) (size y) (demands_after y e v (demands_of y)) (length_demands_after y e v (demands_of y))
      (λ u k. entry_after_law y e v (demands_of y) u k ∙ entry_right u k)

-- The state of `gather`: a node's pending number counts itself, until it is added to its parent, and the nodes under it that wait; its entry is what
-- equation 2 says of the children that are added. At 1 no child waits; adding the node changes its parent's entry and sum, and no other.
use mathlib.Core.Path.{◌≡◌, refl, sym, ap, ◌∙◌}
use mathlib.Core.Logic.{◌≢◌}
use mathlib.Core.Bool.{Bool, true, false, not, ◌&&◌, ◌||◌, and-false, and-eq-true_iff}
use mathlib.Core.List.{List, [], map}
use Prim.Native.Nat.{ℕ, zero, suc, ◌+◌, ◌-◌, ◌*◌, ◌≤◌, ◌<◌}
use native.Mathlib.Omega.{arith}
use native.Mathlib.Decide.{ℕ_discrete}
use lib.ListN.{length, get_or, set, length-set}
use lib.Seq.{get_or-set_same, get_or-set_other}
use lib.Dec.{ltb, eqb}
use lib.IntN.{ℤ, pos, nat_abs, sub_ℕ, ◌+ℤ◌, +ℤ_idr, +ℤ_assoc}
use borrow.Author.Tests.{lt-ltb, eqb-true, eq-eqb, ne_eqb, not-true}
use Rattle.model.specs.Yard.{Yard, size, max_demand, parent, pebble, target, one, sum, below, is_child, root, climbs, sumℤ, entry, Equation2}
use Rattle.model.specs.Judge.{Tree}
use Rattle.laws.proofs.Basics.{eqb_sym, one_le, all_below, none_below}
use Rattle.laws.proofs.Found.{below_cong}
use Rattle.laws.proofs.Ranges.{map_all}
use Rattle.laws.proofs.Sums.{sum_cong, sum_mono, sum_ones, sum_add, sum_zero, sum_pick, sum_term, sum_some, sum_scale}
use Rattle.laws.proofs.Climb.{climbs_self, climbs_fixed, climbs_up, climbs_inside}
use Rattle.laws.specs.Choice.{Child}
use Rattle.laws.proofs.Trees.{Wood, is_child_law, child_is, child_off_root}
use Rattle.laws.proofs.Judged.{Flat, wood}
use Rattle.laws.proofs.Demands.{weight, weight_le, weight_child}
use Rattle.laws.proofs.Signed.{sub_size, size_add, sum_insert}
use Rattle.demand.proofs.Lists.{stored}

-- 1 for a node that waits to be added, 0 for one that is added
abbrev pub waiting : List ℕ → ℕ → ℕ
waiting pending v = one (ltb 0 (get_or pending v 0))

-- the sum of f over the waiting nodes
abbrev pub over_waiting : Yard → List ℕ → (ℕ → ℕ) → ℕ
over_waiting y pending f = sum (size y) (λ c. f c * waiting pending c)

-- 1 at the nodes whose parent is v
abbrev under : Yard → ℕ → ℕ → ℕ
under y v c = one (eqb (parent y c) v)

-- the children of v that are added, and their entries summed
abbrev added : Yard → List ℕ → ℕ → ℕ → Bool
added y pending v c = (is_child y.parents v c) && (not (ltb 0 (get_or pending c 0)))

abbrev taken : Yard → List ℕ → List ℤ → ℕ → ℤ
taken y pending list v = sumℤ (map (entry list) (below (size y) (added y pending v)))

-- the size of the entry of v
abbrev size_at : List ℤ → ℕ → ℕ
size_at list v = nat_abs (get_or list v (pos 0))

-- climbing from v meets a node that waits
abbrev Reaches : Yard → List ℕ → ℕ → Type 0
Reaches y pending v = (t : ℕ) × (t < size y) × (waiting pending t ≡ 1) × ((k : ℕ) × (climbs k y.parents v t ≡ true))

-- equation 2 as far as children are added; the sizes of what waits never grow, and whether the parents are a tree's is not known
pub record Partial (y : Yard) (pending : List ℕ) (list : List ℤ) : Type 0 where
  pub lists : Flat y
  pub room : size y ≤ length pending
  pub long : length list ≡ size y
  pub waits : (v : ℕ) → v < size y → get_or pending v 0 ≡ waiting pending v + over_waiting y pending (under y v)
  pub entry : (v : ℕ) → v < size y → entry list v ≡ sub_ℕ (target y v) (pebble y v) +ℤ taken y pending list v
  pub sizes : over_waiting y pending (size_at list) ≤ max_demand
  pub reach : (v : ℕ) → v < size y → Reaches y pending v

waits_one : (pending : List ℕ) (v : ℕ) → 0 < get_or pending v 0 → waiting pending v ≡ 1
waits_one pending v l = rw (lt-ltb 0 (get_or pending v 0) l)

-- at the start every node waits
pub starts : (y : Yard) (pending : List ℕ) (list : List ℤ) → Flat y → size y ≤ length pending → length list ≡ size y
    → ((v : ℕ) → v < size y → get_or pending v 0 ≡ 1 + sum (size y) (under y v))
    → ((v : ℕ) → v < size y → get_or list v (pos 0) ≡ sub_ℕ (target y v) (pebble y v)) → Partial y pending list
unfolding sumℤ
starts y pending list f room long counts own = record {
  lists = f;
  room = room;
  long = long;
  waits = λ v l. counts v l ∙ rw (all v l) (ap (λ (x : ℕ). 1 + x) (sum_cong (size y) _ _ (λ c k. rw (all c k) (omega arith))));
  entry = λ v l. own v l ∙ sym (ap (λ (vs : List ℕ). sub_ℕ (target y v) (pebble y v) +ℤ sumℤ (map (entry list) vs)) (none v) ∙ +ℤ_idr (sub_ℕ (target y v) (pebble y v)));
  sizes = omega (arith, sum_mono (size y) (λ v. size_at list v * waiting pending v) (λ _. 8 * 1) (λ v l. rw (own v l, all v l) (omega (arith, sub_size (target y v) (pebble y v), f.target_le v l, f.pebble_le v l, f.capacity_le v l))), sum_scale (size y) 8 (λ _. 1), sum_ones (size y), f.few);
  reach = λ v l. (v, l, all v l, (0, climbs_self 0 y.parents v));
}
  where
    all : (v : ℕ) → v < size y → waiting pending v ≡ 1
    all v l = waits_one pending v (omega (arith, counts v l))

    none : (v : ℕ) → below (size y) (added y pending v) ≡ []
    none v = none_below (size y) (added y pending v) (λ c l. rw (lt-ltb 0 (get_or pending c 0) (omega (arith, counts c l))) (and-false (is_child y.parents v c)))

-- the entry of a node that waits is a number from −2,048 to 2,048
pub small : {y : Yard} {pending : List ℕ} {list : List ℤ} → Partial y pending list → (v : ℕ) → v < size y → waiting pending v ≡ 1 → size_at list v ≤ max_demand
small {y} {pending} {list} h v l w = omega (arith, h.sizes, sum_term (size y) v (λ c. size_at list c * waiting pending c) l, ap (λ (x : ℕ). size_at list v * x) w)

-- at the start all nodes wait
pub all_wait : (y : Yard) (pending : List ℕ) → ((v : ℕ) → v < size y → 0 < get_or pending v 0) → size y ≡ over_waiting y pending (λ _. 1)
all_wait y pending h = sym (sum_cong (size y) (λ c. 1 * waiting pending c) (λ _. 1) (λ c l. rw (waits_one pending c (h c l))) ∙ sum_ones (size y))

-- the pending numbers after u is added to its parent p
abbrev pub after : List ℕ → ℕ → ℕ → List ℕ
after pending u p = set (set pending p (get_or pending p 0 - 1)) u 0

-- a node that is ready to be added
pub record Ready (y : Yard) (pending : List ℕ) (list : List ℤ) (u : ℕ) : Type 0 where
  pub state : Partial y pending list
  pub lt : u < size y
  pub alone : get_or pending u 0 ≡ 1

module _ {y : Yard} {pending : List ℕ} {list : List ℤ} {u : ℕ} (r : Ready y pending list u) where
  pub waits : waiting pending u ≡ 1
  waits = waits_one pending u (omega (arith, r.alone))

  none_under : over_waiting y pending (under y u) ≡ 0
  none_under = omega (arith, r.state.waits u r.lt, r.alone, waits)

  -- a waiting node counts at its parent
  counts : (c v : ℕ) → c < size y → parent y c ≡ v → waiting pending c ≤ over_waiting y pending (under y v)
  counts c v k e = omega (arith, sum_term (size y) c (λ c. under y v c * waiting pending c) k, ap (λ (b : Bool). one b * waiting pending c) (eq-eqb (parent y c) v e))

  pub child : Child y.parents (parent y u) u
  child = record { lt = r.lt; up = refl; other = λ e. omega (arith, none_under, waits, counts u u r.lt (sym e)) }

  pub parent_lt : parent y u < size y
  parent_lt = r.state.lists.parent_lt u r.lt

  -- the parent waits for itself and for u
  pub parent_waits : 2 ≤ get_or pending (parent y u) 0
  parent_waits =
      let e = r.state.waits (parent y u) parent_lt in
      let k = counts u (parent y u) r.lt refl in
      omega (arith, waits, waits_one pending (parent y u) (omega (arith, waits)))

  pub above_waits : waiting pending (parent y u) ≡ 1
  above_waits = waits_one pending (parent y u) (omega (arith, parent_waits))

  next : List ℕ
  next = after pending u (parent y u)

  -- u no longer waits, and its parent has one pending node less
  counted : (v : ℕ) → get_or pending v 0 ≡ get_or next v 0 + one (eqb v u) + one (eqb v (parent y u))
  unfolding next
  counted v = omega (arith, lowered v, stored lower u v 0 0 1 (rw length-set (omega (arith, r.lt, r.state.room))) (omega (arith, lowered u, r.alone, ap one (ne_eqb u (parent y u) child.other))))
    where
      lower : List ℕ
      lower = set pending (parent y u) (get_or pending (parent y u) 0 - 1)

      lowered : (v : ℕ) → get_or pending v 0 + one (eqb v (parent y u)) * 0 ≡ get_or lower v 0 + one (eqb v (parent y u)) * 1
      lowered v = stored pending (parent y u) v (get_or pending (parent y u) 0 - 1) 0 1 (omega (arith, parent_lt, r.state.room)) (omega (arith, parent_waits))

  waited : (v : ℕ) → waiting pending v ≡ waiting next v + one (eqb v u)
  waited v = go (ℕ_discrete v u) (ℕ_discrete v (parent y u))
    where
      go : Dec (v ≡ u) → Dec (v ≡ parent y u) → waiting pending v ≡ waiting next v + one (eqb v u)
      go (yes e) _ =
          let gone : get_or next u 0 ≡ 0 = omega (arith, counted u, r.alone, ap one (eq-eqb u u refl)) in
          rw (e, r.alone, gone, eq-eqb u u refl)
      go (no d) (yes e) =
          let two : 2 ≤ get_or pending v 0 = rw e parent_waits in
          let less : 1 ≤ get_or next v 0 = omega (arith, counted v, ap one (ne_eqb v u d), one_le (eqb v (parent y u))) in
          rw (waits_one pending v (omega arith), waits_one next v less, ne_eqb v u d)
      go (no d) (no g) =
          let same : get_or next v 0 ≡ get_or pending v 0 = omega (arith, counted v, ap one (ne_eqb v u d), ap one (ne_eqb v (parent y u) g)) in
          rw (same, ne_eqb v u d) (omega arith)

  stays : waiting next (parent y u) ≡ 1
  stays = omega (arith, waited (parent y u), above_waits, ap one (ne_eqb (parent y u) u (λ e. child.other (sym e))))

  -- its term goes from every sum over the waiting nodes
  gone : (f : ℕ → ℕ) → over_waiting y pending f ≡ over_waiting y next f + f u
  gone f =
      sum_cong (size y) _ (λ c. f c * waiting next c + one (eqb c u) * f c) (λ c _. omega (arith, ap (λ (x : ℕ). f c * x) (waited c)))
      ∙ sum_add (size y) (λ c. f c * waiting next c) (λ c. one (eqb c u) * f c)
      ∙ ap (λ (x : ℕ). over_waiting y next f + x) (sum_pick (size y) u f r.lt)

  pub fewer : over_waiting y pending (λ _. 1) ≡ over_waiting y (after pending u (parent y u)) (λ _. 1) + 1
  unfolding next
  fewer = gone (λ _. 1)

  -- u is added, and no other node is that was not
  more : (v c : ℕ) → added y next v c ≡ ((is_child y.parents v c) && ((eqb c u) || (not (ltb 0 (get_or pending c 0)))))
  more v c = ap (λ (b : Bool). (is_child y.parents v c) && b) (go (ltb 0 (get_or pending c 0)) (ltb 0 (get_or next c 0)) (eqb c u) (waited c))
    where
      go : (a b e : Bool) → one a ≡ one b + one e → not b ≡ (e || not a)
      go true true true q = absurd (omega arith)
      go true true false q = refl
      go true false true q = refl
      go true false false q = absurd (omega arith)
      go false true e q = absurd (omega arith)
      go false false true q = absurd (omega arith)
      go false false false q = refl

  -- so the sum of its parent has its entry more, and the other sums are as they were
  joined : taken y next list (parent y u) ≡ taken y pending list (parent y u) +ℤ entry list u
  joined = sum_insert (entry list) (added y pending (parent y u)) (added y next (parent y u)) u (rw (lt-ltb 0 (get_or pending u 0) (omega (arith, r.alone))) (and-false (is_child y.parents (parent y u) u))) (size y) r.lt (λ c _. more (parent y u) c ∙ at c (ℕ_discrete c u))
    where
      at : (c : ℕ) → Dec (c ≡ u) → ((is_child y.parents (parent y u) c) && ((eqb c u) || (not (ltb 0 (get_or pending c 0))))) ≡ ((eqb c u) || (added y pending (parent y u) c))
      at c (yes e) = rw (e, eq-eqb u u refl, child_is y.parents (parent y u) u child)
      at c (no d) = rw (ne_eqb c u d)

  other : (v : ℕ) → v ≢ parent y u → taken y next list v ≡ taken y pending list v
  other v d = ap (λ (vs : List ℕ). sumℤ (map (entry list) vs)) (below_cong (size y) (added y next v) (added y pending v) (λ c _. more v c ∙ at c (ℕ_discrete c u)))
    where
      at : (c : ℕ) → Dec (c ≡ u) → ((is_child y.parents v c) && ((eqb c u) || (not (ltb 0 (get_or pending c 0))))) ≡ added y pending v c
      at c (yes e) = rw (e, ne_eqb (parent y u) v (λ q. d (sym q)))
      at c (no n) = rw (ne_eqb c u n)

  -- the parent itself waits, and so is in no sum
  same : (z : ℤ) (v : ℕ) → taken y next (set list (parent y u) z) v ≡ taken y next list v
  same z v = ap sumℤ (map_all (entry (set list (parent y u) z)) (entry list) (below (size y) (added y next v)) (all_below _ (added y next v) (size y) (λ c _ e. get_or-set_other list (parent y u) c z (pos 0) (λ q. at c q ((and-eq-true_iff (is_child y.parents v c) (not (ltb 0 (get_or next c 0)))).0 e).1))))
    where
      at : (c : ℕ) → c ≡ parent y u → not (ltb 0 (get_or next c 0)) ≡ true → ⊥
      at c q e = omega (arith, stays, ap (waiting next) q, ap one (not-true (ltb 0 (get_or next c 0)) e))

  pub joined_small : nat_abs (get_or list (parent y u) (pos 0) +ℤ get_or list u (pos 0)) ≤ max_demand
  joined_small = omega (
    arith,
    size_add (get_or list (parent y u) (pos 0)) (get_or list u (pos 0)),
    gone (size_at list),
    r.state.sizes,
    sum_term (size y) (parent y u) (λ c. size_at list c * waiting next c) parent_lt,
    ap (λ (x : ℕ). size_at list (parent y u) * x) stays,
  )

  -- what waits is no larger than before
  sized : {z : ℤ} → z ≡ get_or list (parent y u) (pos 0) +ℤ get_or list u (pos 0) → over_waiting y next (size_at (set list (parent y u) z)) ≤ max_demand
  sized {z} q = omega (
    arith,
    r.state.sizes,
    gone (size_at list),
    sum_mono (size y) (λ v. size_at (set list (parent y u) z) v * waiting next v) (λ v. size_at list v * waiting next v + one (eqb v (parent y u)) * size_at list u) (λ v _. at v (ℕ_discrete v (parent y u))),
    sum_add (size y) (λ v. size_at list v * waiting next v) (λ v. one (eqb v (parent y u)) * size_at list u),
    sum_pick (size y) (parent y u) (λ _. size_at list u) parent_lt,
  )
    where
      at : (v : ℕ) → Dec (v ≡ parent y u) → size_at (set list (parent y u) z) v * waiting next v ≤ size_at list v * waiting next v + one (eqb v (parent y u)) * size_at list u
      at v (yes e) =
          rw (e, get_or-set_same list (parent y u) z (pos 0) (omega (arith, r.state.long, parent_lt)), q, stays, eq-eqb (parent y u) (parent y u) refl)
          (omega (arith, size_add (get_or list (parent y u) (pos 0)) (get_or list u (pos 0))))
      at v (no d) = rw (get_or-set_other list (parent y u) v z (pos 0) d) (omega arith)

  -- what reached u reaches its parent
  reaches : (v : ℕ) → v < size y → Reaches y next v
  reaches v l = let q = r.state.reach v l in go q.0 q.1 q.2 q.3.0 q.3.1 (ℕ_discrete q.0 u)
    where
      go : (t : ℕ) → t < size y → waiting pending t ≡ 1 → (k : ℕ) → climbs k y.parents v t ≡ true → Dec (t ≡ u) → Reaches y next v
      go t m w k c (yes e) = (parent y u, parent_lt, stays, (suc k, climbs_up k y.parents v u (rw e at c)))
      go t m w k c (no d) = (t, m, omega (arith, waited t, ap one (ne_eqb t u d)), (k, c))

  pub adds : {z : ℤ} → z ≡ get_or list (parent y u) (pos 0) +ℤ get_or list u (pos 0) → Partial y (after pending u (parent y u)) (set list (parent y u) z)
  unfolding next
  adds {z} q = record {
    lists = r.state.lists;
    room = simp length-set r.state.room;
    long = simp length-set r.state.long;
    waits = λ v k. omega (arith, r.state.waits v k, counted v, waited v, ap one (eqb_sym v (parent y u)), gone (under y v));
    entry = λ v k. at v k (ℕ_discrete v (parent y u));
    sizes = sized q;
    reach = reaches;
  }
    where
      at : (v : ℕ) → v < size y → Dec (v ≡ parent y u) → entry (set list (parent y u) z) v ≡ sub_ℕ (target y v) (pebble y v) +ℤ taken y next (set list (parent y u) z) v
      at v k (yes e) = rw (e, same z (parent y u), joined) (
          get_or-set_same list (parent y u) z (pos 0) (omega (arith, r.state.long, parent_lt)) ∙ q ∙ ap (λ (x : ℤ). x +ℤ entry list u) (r.state.entry (parent y u) parent_lt)
          ∙ +ℤ_assoc (sub_ℕ (target y (parent y u)) (pebble y (parent y u))) (taken y pending list (parent y u)) (entry list u))
      at v k (no d) = rw (same z v, other v d) (get_or-set_other list (parent y u) v z (pos 0) d ∙ r.state.entry v k)

  -- no other node but the parent becomes ready
  pub only : (v : ℕ) → (get_or pending v 0 ≡ 1 → v ≡ u) → get_or (after pending u (parent y u)) v 0 ≡ 1 → v ≡ parent y u
  unfolding next
  only v f e = go (ℕ_discrete v u) (ℕ_discrete v (parent y u))
    where
      go : Dec (v ≡ u) → Dec (v ≡ parent y u) → v ≡ parent y u
      go _ (yes q) = q
      go (yes q) (no g) = absurd (omega (arith, counted v, r.alone, ap one (eq-eqb v u q), ap (λ (v : ℕ). get_or pending v 0) q))
      go (no d) (no g) = absurd (d (f (omega (arith, counted v, ap one (ne_eqb v u d), ap one (ne_eqb v (parent y u) g)))))

-- where no node is ready and one waits, that is its own parent, as else it were ready; every node climbs to it, and equation 2 is met
module _ {y : Yard} {pending : List ℕ} {list : List ℤ} (h : Partial y pending list) (none : (v : ℕ) → v < size y → get_or pending v 0 ≡ 1 → ⊥) (e : over_waiting y pending (λ _. 1) ≡ 1) where
  s : (v : ℕ) × (v < size y) × (0 < 1 * waiting pending v)
  s = sum_some (size y) (λ c. 1 * waiting pending c) (omega (arith, e))

  abbrev r : ℕ
  r = s.0

  alone : (t : ℕ) → t < size y → waiting pending t ≡ 1 → t ≡ r
  alone t l w = go (ℕ_discrete t r)
    where
      two : t ≢ r → (c : ℕ) → Dec (c ≡ t) → Dec (c ≡ r) → one (eqb c t) * 1 + one (eqb c r) * 1 ≤ 1 * waiting pending c
      two d c (yes p) _ = rw (p, eq-eqb t t refl, ne_eqb t r d, w) (omega arith)
      two d c (no p) (yes q) = rw (ne_eqb c t p, eq-eqb c r q) (omega (arith, s.2, ap (waiting pending) q))
      two d c (no p) (no q) = rw (ne_eqb c t p, ne_eqb c r q) (omega arith)

      go : Dec (t ≡ r) → t ≡ r
      go (yes q) = q
      go (no d) = absurd (omega (
        arith,
        e,
        sum_mono (size y) (λ c. one (eqb c t) * 1 + one (eqb c r) * 1) (λ c. 1 * waiting pending c) (λ c _. two d c (ℕ_discrete c t) (ℕ_discrete c r)),
        sum_add (size y) (λ c. one (eqb c t) * 1) (λ c. one (eqb c r) * 1),
        sum_pick (size y) t (λ _. 1) l,
        sum_pick (size y) r (λ _. 1) s.1,
      ))

  own : Dec (parent y r ≡ r) → parent y r ≡ r
  own (yes q) = q
  own (no d) = absurd (none r s.1 (omega (arith, h.waits r s.1, s.2, one_le (ltb 0 (get_or pending r 0)), sum_zero (size y) (λ c. under y r c * waiting pending c) (λ c l. at c l (ltb 0 (get_or pending c 0)) refl))))
    where
      at : (c : ℕ) → c < size y → (b : Bool) → ltb 0 (get_or pending c 0) ≡ b → under y r c * one b ≡ 0
      at c l true q = rw (alone c l (ap one q), ne_eqb (parent y r) r d)
      at c l false q = omega arith

  pub left_wood : (w : ℕ) × Wood y.parents w
  left_wood = (
    r,
    record {
      parent_lt = h.lists.parent_lt;
      root_lt = s.1;
      root_parent = own (ℕ_discrete (parent y r) r);
      root_only = λ v l q. let m = h.reach v l in eqb-true v m.0 (sym (climbs_fixed m.3.0 y.parents v m.0 q) ∙ m.3.1) ∙ alone m.0 m.1 m.2;
      to_root = λ v l. let m = h.reach v l in climbs_inside y.parents h.lists.parent_lt r m.3.0 v l (rw (alone m.0 m.1 m.2) at m.3.1);
    },
  )

  pub left_meets : (v : ℕ) → v < size y → Equation2 y list v
  left_meets v l =
      h.entry v l
      ∙ ap (λ (vs : List ℕ). sub_ℕ (target y v) (pebble y v) +ℤ sumℤ (map (entry list) vs)) (below_cong (size y) (added y pending v) (is_child y.parents v) (λ c k. at c k (is_child y.parents v c) refl (ltb 0 (get_or pending c 0)) refl))
    where
      at : (c : ℕ) → c < size y → (a : Bool) → is_child y.parents v c ≡ a → (b : Bool) → ltb 0 (get_or pending c 0) ≡ b → (a && (not b)) ≡ a
      at c k true p true q = let f = is_child_law y.parents v c k p in absurd (f.other (alone c k (ap one q) ∙ sym (own (ℕ_discrete (parent y r) r)) ∙ ap (parent y) (sym (alone c k (ap one q))) ∙ f.up))
      at c k true p false q = refl
      at c k false p b q = refl

-- on a tree none but the root waits, from the leaves up
module _ {y : Yard} {pending : List ℕ} {list : List ℤ} (h : Partial y pending list) (none : (v : ℕ) → v < size y → get_or pending v 0 ≡ 1 → ⊥) (t : Tree y) where
  quiet : (k v : ℕ) → v < size y → weight y.parents v ≤ k → (c : ℕ) → Child y.parents v c → waiting pending c ≡ 0
  quiet zero v l b c e = absurd (omega (arith, weight_child (wood y t) v c l e))
  quiet (suc k) v l b c e = omega (
    arith,
    h.waits c e.lt,
    one_le (ltb 0 (get_or pending c 0)),
    none c e.lt,
    sum_zero (size y) _ (λ d m. go d m (eqb (parent y d) c) refl (quiet k c e.lt (omega (arith, weight_child (wood y t) v c l e)) d)),
  )
    where
      go : (d : ℕ) → d < size y → (q : Bool) → eqb (parent y d) c ≡ q → (Child y.parents c d → waiting pending d ≡ 0) → one q * waiting pending d ≡ 0
      go d m true q ih =
          let p = eqb-true (parent y d) c q in
          let off : d ≢ c = λ x. child_off_root (wood y t) v c e ((wood y t).root_only c e.lt (ap (parent y) (sym x) ∙ p)) in
          rw (ih (record { lt = m; up = p; other = off }))
      go d m false q ih = omega arith

  pub root_left : over_waiting y pending (λ _. 1) ≡ 1
  root_left =
      sum_cong (size y) (λ c. 1 * waiting pending c) (λ c. one (eqb c (root y)) * 1) (λ c l. go c l (ℕ_discrete c (root y)))
      ∙ sum_pick (size y) (root y) (λ _. 1) (wood y t).root_lt
    where
      go : (c : ℕ) → c < size y → Dec (c ≡ root y) → 1 * waiting pending c ≡ one (eqb c (root y)) * 1
      go c l (yes e) =
          let m = h.reach c l in
          let q : c ≡ m.0 = eqb-true c m.0 (sym (climbs_fixed m.3.0 y.parents c m.0 (ap (parent y) e ∙ (wood y t).root_parent ∙ sym e)) ∙ m.3.1) in
          rw (eq-eqb c (root y) e) (omega (arith, m.2, ap (waiting pending) q))
      go c l (no d) =
          rw (ne_eqb c (root y) d)
          (omega (arith, quiet (size y) (parent y c) ((wood y t).parent_lt c l) (weight_le y.parents (parent y c)) c (record { lt = l; up = refl; other = λ e. d ((wood y t).root_only c l (sym e)) })))

-- The least that a node ever holds along the plan, told by the demands alone (2.10), whatever the capacities. The plan pushes a pebble from a
-- node that lacks some down only where that node is full, and one up into a node only where it is empty or has none to give: with such pushes,
-- each of which lowers the shortest length, a node comes down as far as its demands say and no further.
use mathlib.Core.Path.{◌≡◌, refl, sym, ap, ◌∙◌, subst}
use mathlib.Core.Logic.{◌≢◌, ◌⊎◌, inl, inr}
use mathlib.Core.Bool.{Bool, true, false, not, ◌&&◌}
use mathlib.Core.List.{List, [], ◌∷◌, ◌++◌}
use Prim.Native.Nat.{ℕ, suc, ◌+◌, ◌-◌, ◌*◌, ◌≤◌, ◌<◌, min}
use native.Mathlib.Nat.{mul-le-mul_left}
use native.Mathlib.Omega.{arith}
use native.Mathlib.Decide.{ℕ_discrete}
use lib.Dec.{eqb}
use borrow.Author.Tests.{eq-eqb, ne_eqb, ltb-false, leb-true, not-true}
use Rattle.model.specs.Yard.{Yard, size, parent, pebble, capacity, held, is_child, one, sum, lacking, surplus, Matched}
use Rattle.model.specs.Judge.{Tree}
use Rattle.model.specs.Push.{Move, moved, after, run, Solved, is_up, is_down, count}
use Rattle.model.specs.Plan.{needy, nonempty, Rule, choice, fills, plan}
use Rattle.model.specs.Follow.{displaced}
use Rattle.laws.proofs.Basics.{All}
use Rattle.laws.proofs.Sums.{sum_cong, sum_mono, sum_add, sum_zero}
use Rattle.laws.proofs.Trees.{parent_outside}
use Rattle.laws.proofs.Judged.{facts, wood}
use Rattle.laws.proofs.Demands.{solved_even}
use Rattle.laws.specs.Algorithms.{crossing, need, blocked, Serves, Settles, Balances}
use Rattle.laws.proofs.Step.{Step, ends, legal_step, crosses, moved_pebble}
use Rattle.laws.proofs.Runs.{obeys, run_tree, run_one, after_append}
use Rattle.laws.proofs.Shortest.{Good, good_append, good_tree, good_one, good_thrifty, thrifty_crosses, keeps}
use Rattle.laws.proofs.Serve.{Able, Due, chosen_due, due_step, free_able, blocked_child, serves_shift, stays, due_behind, able_behind}
use Rattle.laws.proofs.Choice.{Sound, none_over, choice_sound}
use Rattle.laws.proofs.Balance.{Even, first_needy, fills_steers, settles_good, Fit, fit_children, fit_run, balances_good, root_fit, plan_by_balances}
use Rattle.laws.proofs.Least.{least, least_step}
use Rattle.laws.proofs.Outgoing.{outgoing, leaves_step}
use Rattle.laws.proofs.Demand3.{plan_optimal}
use Rattle.laws.proofs.Displaced.{displaced_least}

-- how far a node comes down that has room for c, holds p, lacks a and gives o: one that lacks some is not left full
abbrev down_to : ℕ → ℕ → ℕ → ℕ → ℕ
down_to c p a o = min (c - min 1 a) (min p (p + a - o))

abbrev pub floor : Yard → ℕ → ℕ
floor y v = down_to (capacity y v) (pebble y v) (lacking y v) (outgoing y v)

down_to_other : (c p a o : ℕ) → min p (down_to c p a o) ≡ down_to c p a o
down_to_other c p a o = go (c - min 1 a) (p + a - o)
  where
    go : (k x : ℕ) → min p (min k (min p x)) ≡ min k (min p x)
    go k x = omega arith

-- none is lacking, and none to give
down_to_rest : (c p a o : ℕ) → a ≡ 0 → o ≡ 0 → p ≤ c → p ≡ down_to c p a o
down_to_rest c p a o e f l = omega arith

-- one comes from above
down_to_fill : (c p a o : ℕ) → p < c → min p (down_to c (suc p) a o) ≡ down_to c p (suc a) o
down_to_fill c p a o l = go (c - min 1 a) (c - min 1 (suc a)) (suc p + a - o) (p + suc a - o) (omega arith) (omega arith) (omega arith)
  where
    go : (k j x z : ℕ) → p ≤ k → p ≤ j → x ≡ z → min p (min k (min (suc p) x)) ≡ min j (min p z)
    go k j x z h i e = omega arith

-- one goes
down_to_give : (c p a o : ℕ) → (a ≡ 0) ⊎ (c ≤ suc p) → p < c → min (suc p) (down_to c p a o) ≡ down_to c (suc p) a (suc o)
down_to_give c p a o h l = go (c - min 1 a) (p + a - o) (suc p + a - suc o) (omega arith) (low h)
  where
    low : (a ≡ 0) ⊎ (c ≤ suc p) → min (c - min 1 a) (p + a - o) ≤ p
    low (inl e) = omega arith
    low (inr k) = omega arith

    go : (k x z : ℕ) → x ≡ z → min k x ≤ p → min (suc p) (min k (min p x)) ≡ min k (min (suc p) z)
    go k x z e h = omega arith

-- one comes from below
down_to_draw : (c p a o : ℕ) → (p ≡ 0) ⊎ (o ≡ 0) → p < c → min p (down_to c (suc p) a o) ≡ down_to c p a o
down_to_draw c p a o (inl e) l = rw e (go (c - min 1 a) (1 + a - o) (0 + a - o))
  where
    go : (k x z : ℕ) → min 0 (min k (min 1 x)) ≡ min k (min 0 z)
    go k x z = omega arith
down_to_draw c p a o (inr e) l = rw e (go (c - min 1 a) (suc p + a - 0) (p + a - 0) (omega arith) (omega arith) (omega arith))
  where
    go : (k x z : ℕ) → p ≤ k → p ≤ x → p ≤ z → min p (min k (min (suc p) x)) ≡ min k (min p z)
    go k x z h i j = omega arith

-- a push that lowers the shortest length: the demands that it changes
module _ (y : Yard) (m : Move) (s : Step y m) (n : 0 < need y s.away s.node) where
  spent : (v : ℕ) → v < size y → (lacking y v ≡ lacking (moved y m) v + one (is_down y v m)) × (surplus y v ≡ surplus (moved y m) v + one (is_up y v m))
  unfolding count
  spent v l =
      let r = run_one y m (legal_step y m s) in
      let h = rw (r.0, r.1) at (thrifty_crosses y s.tree (m ∷ []) (good_thrifty y s.tree (m ∷ []) (good_one y m s n)) v l) in
      omega (arith, h)

  -- one that leaves a node was to leave it
  outgoing_moved : (v : ℕ) → v < size y → outgoing (moved y m) v + one (eqb v m.from) ≡ outgoing y v
  outgoing_moved v l = omega (
    arith,
    leaves_step y m s v,
    spent v l,
    sum_cong (size y) (λ c. one (is_child y.parents v c) * lacking y c) (λ c. one (is_child y.parents v c) * lacking (moved y m) c + one (is_child y.parents v c) * one (is_down y c m)) (λ c k. ap (λ (x : ℕ). one (is_child y.parents v c) * x) (spent c k).0 ∙ omega arith),
    sum_add (size y) (λ c. one (is_child y.parents v c) * lacking (moved y m) c) (λ c. one (is_child y.parents v c) * one (is_down y c m)),
  )

-- the upper end of an edge lets a pebble down (true) or takes one up
abbrev pub Lets : Yard → Bool → ℕ → Type 0
Lets y true u = (lacking y u ≡ 0) ⊎ (capacity y u ≤ pebble y u)
Lets y false u = (pebble y u ≡ 0) ⊎ (outgoing y u ≡ 0)

pub data Tidy : Yard → List Move → Yard → Type 0 where
  done : {y : Yard} → Tidy y [] y
  next : {y z : Yard} {m : Move} {ms : List Move} (s : Step y m) → 0 < need y s.away s.node → Lets y s.away (parent y s.node) → Tidy (moved y m) ms z → Tidy y (m ∷ ms) z

-- the law of one push, by what it does to the counts of v
module _ (y : Yard) (m : Move) (s : Step y m) (n : 0 < need y s.away s.node) (h : Lets y s.away (parent y s.node)) (v : ℕ) (l : v < size y) where
  abbrev Falls : Type 0
  Falls = min (pebble y v) (floor (moved y m) v) ≡ floor y v

  -- from p, a and o to p', a' and o'
  by : (p a o p' a' o' : ℕ) → pebble y v ≡ p → lacking y v ≡ a → outgoing y v ≡ o → pebble (moved y m) v ≡ p' → lacking (moved y m) v ≡ a' → outgoing (moved y m) v ≡ o'
      → min p (down_to (capacity y v) p' a' o') ≡ down_to (capacity y v) p a o → Falls
  by p a o p' a' o' e f g e' f' g' q = ap (λ (x : ℕ). min x (floor (moved y m) v)) e ∙ ap (λ (x : ℕ). min p x) (same e' f' g') ∙ q ∙ sym (same e f g)
    where
      same : {p a o p' a' o' : ℕ} → p ≡ p' → a ≡ a' → o ≡ o' → down_to (capacity y v) p a o ≡ down_to (capacity y v) p' a' o'
      same e f g = rw (e, f, g)

  pub floor_step : Falls
  floor_step = go s.away s.is (crosses y m s v).0 n h
    where
      c : ℕ
      c = capacity y v

      p' : ℕ
      p' = pebble (moved y m) v

      a' : ℕ
      a' = lacking (moved y m) v

      o' : ℕ
      o' = outgoing (moved y m) v

      stays_put : v ≢ m.from → v ≢ m.to → is_down y v m ≡ false → Falls
      stays_put f t d = by (pebble y v) (lacking y v) (outgoing y v) (pebble y v) (lacking y v) (outgoing y v) refl refl refl
          (omega (arith, moved_pebble y m s v, ap one (ne_eqb v m.from f), ap one (ne_eqb v m.to t)))
          (omega (arith, spent y m s n v l, ap one d))
          (omega (arith, outgoing_moved y m s n v l, ap one (ne_eqb v m.from f)))
          (down_to_other c (pebble y v) (lacking y v) (outgoing y v))

      gives : v ≡ m.from → is_down y v m ≡ false → (lacking y v ≡ 0) ⊎ (c ≤ pebble y v) → Falls
      gives f d k = by (suc p') a' (suc o') p' a' o' less a_same
          (omega (arith, outgoing_moved y m s n v l, ap one (eq-eqb v m.from f))) refl refl refl
          (down_to_give c p' a' o' (at k) (omega (arith, less, (facts y s.tree).pebble_le v l)))
        where
          less : pebble y v ≡ suc p'
          less = omega (arith, moved_pebble y m s v, ap one (eq-eqb v m.from f), ap one (ne_eqb v m.to (λ t. (ends y m s).2 (sym f ∙ t))))

          a_same : lacking y v ≡ a'
          a_same = omega (arith, spent y m s n v l, ap one d)

          at : (lacking y v ≡ 0) ⊎ (c ≤ pebble y v) → (a' ≡ 0) ⊎ (c ≤ suc p')
          at (inl e) = inl (sym a_same ∙ e)
          at (inr q) = inr (omega (arith, less))

      -- v gets one, of those that it lacks or not
      gets : v ≡ m.to → (a : ℕ) → lacking y v ≡ a → (pebble y v < c → min (pebble y v) (down_to c (suc (pebble y v)) a' (outgoing y v)) ≡ down_to c (pebble y v) a (outgoing y v)) → Falls
      gets t a f q = by (pebble y v) a (outgoing y v) (suc (pebble y v)) a' (outgoing y v) refl f refl
          (omega (arith, moved_pebble y m s v, ap one (ne_eqb v m.from off), ap one (eq-eqb v m.to t)))
          refl
          (omega (arith, outgoing_moved y m s n v l, ap one (ne_eqb v m.from off)))
          (q (rw t s.room))
        where
          off : v ≢ m.from
          off f = (ends y m s).2 (sym f ∙ t)

      go : (b : Bool) → m ≡ crossing y.parents b s.node → is_down y v m ≡ (b && (eqb v s.node)) → 0 < need y b s.node → Lets y b (parent y s.node) → Falls
      go true e d k h = at (ℕ_discrete v s.node) (ℕ_discrete v (parent y s.node))
        where
          from_is : m.from ≡ parent y s.node
          from_is = ap (λ (x : Move). x.from) e

          to_is : m.to ≡ s.node
          to_is = ap (λ (x : Move). x.to) e

          at : Dec (v ≡ s.node) → Dec (v ≡ parent y s.node) → Falls
          at (yes q) _ = gets (q ∙ sym to_is) (suc a') (omega (arith, spent y m s n v l, ap one (d ∙ eq-eqb v s.node q))) (down_to_fill c (pebble y v) a' (outgoing y v))
          at (no f) (yes q) = gives (q ∙ sym from_is) (d ∙ ne_eqb v s.node f) (subst (Lets y true) (sym q) h)
          at (no f) (no g) = stays_put (λ q. g (q ∙ from_is)) (λ q. f (q ∙ to_is)) (d ∙ ne_eqb v s.node f)
      go false e d k h = at (ℕ_discrete v s.node) (ℕ_discrete v (parent y s.node))
        where
          from_is : m.from ≡ s.node
          from_is = ap (λ (x : Move). x.from) e

          to_is : m.to ≡ parent y s.node
          to_is = ap (λ (x : Move). x.to) e

          at : Dec (v ≡ s.node) → Dec (v ≡ parent y s.node) → Falls
          at (yes q) _ = gives (q ∙ sym from_is) d (inl (rw q (omega arith)))
          at (no f) (yes q) = gets (q ∙ sym to_is) a' (omega (arith, spent y m s n v l, ap one d)) (down_to_draw c (pebble y v) a' (outgoing y v) (subst (Lets y false) (sym q) h))
          at (no f) (no g) = stays_put (λ q. f (q ∙ from_is)) (λ q. g (q ∙ to_is)) d

-- where all demands are 0 it is what the node holds
floor_solved : (y : Yard) → Tree y → Solved y → (v : ℕ) → v < size y → pebble y v ≡ floor y v
floor_solved y t h v l = down_to_rest (capacity y v) (pebble y v) (lacking y v) (outgoing y v) (none v).0 gone ((facts y t).pebble_le v l)
  where
    none : (v : ℕ) → (lacking y v ≡ 0) × (surplus y v ≡ 0)
    none v = omega (arith, solved_even y h v)

    gone : outgoing y v ≡ 0
    gone = omega (arith, none v, sum_zero (size y) (λ c. one (is_child y.parents v c) * lacking y c) (λ c _. rw (none c).0 (omega arith)))

pub tidy_least : {y z : Yard} {ms : List Move} → Tidy y ms z → Tree z → Solved z → (v : ℕ) → v < size y → least y ms v ≡ floor y v
unfolding least
tidy_least (done {y}) t h v l = floor_solved y t h v l
tidy_least (next {y} {m = m} {ms = ms} s n k r) t h v l = least_step y m s ms v ∙ ap (λ (x : ℕ). min (pebble y v) x) (tidy_least r t h v l) ∙ floor_step y m s n k v l

-- two lists, one after the other
tidy_append : {x y z : Yard} {ms ns : List Move} → Tidy x ms y → Tidy y ns z → Tidy x (ms ++ ns) z
tidy_append done r = r
tidy_append (next s n k q) r = next s n k (tidy_append q r)

-- pushes that lower the shortest length at no time
lets_keeps : (y : Yard) → Tree y → (ms : List Move) → Good y ms → (b : Bool) (u : ℕ) → u < size y → pebble (run y ms) u ≡ pebble y u → Lets y b u → Lets (run y ms) b u
lets_keeps y t ms g true u l e (inl h) = inl (omega (arith, keeps y t ms g u l))
lets_keeps y t ms g true u l e (inr h) = inr (omega (arith, e))
lets_keeps y t ms g false u l e (inl h) = inl (e ∙ h)
lets_keeps y t ms g false u l e (inr h) = inr (omega (
  arith,
  keeps y t ms g u l,
  sum_mono (size y) (λ c. one (is_child y.parents u c) * lacking (run y ms) c) (λ c. one (is_child y.parents u c) * lacking y c) (λ c k. mul-le-mul_left (one (is_child y.parents u c)) (keeps y t ms g c k).0),
))

-- filling and drawing
one_tidy : (y : Yard) → Tree y → (b : Bool) (v : ℕ) → (u : Due y b v) → Able y (not b) v → Lets y b (parent y v) → Tidy y (crossing y.parents b v ∷ []) (run y (crossing y.parents b v ∷ []))
unfolding due_step
one_tidy y t b v u a h =
    let s = due_step y t b v u a in
    rw (run_one y (crossing y.parents b v) (legal_step y (crossing y.parents b v) s)).0 (next s u.needs h done)

module _ (y : Yard) where
  -- a blocked node lets a pebble down, being full, or takes one up, being empty
  blocked_lets : (b : Bool) (v : ℕ) → blocked y b v ≡ true → Lets y b v
  blocked_lets true v e = inr (leb-true (capacity y v) (pebble y v) e)
  blocked_lets false v e = inl (omega (arith, ltb-false 0 (pebble y v) (not-true (held y v) e)))

-- a turn at an even node fills, as it lacks none; or draws, where it is empty or no child lacks any
turn_lets : (y : Yard) (u : ℕ) → Even y u → Lets y (fills y u) u
unfolding fills
turn_lets y u e = go (held y u) refl (needy (lacking y) y u) refl
  where
    go : (h : Bool) → held y u ≡ h → (vs : List ℕ) → needy (lacking y) y u ≡ vs → Lets y (h && (nonempty vs)) u
    go true h (v ∷ vs) q = inl (omega arith)
    go true h [] q = inr (omega (arith, none_over (lacking y) y u q))
    go false h vs q = inl (omega (arith, ltb-false 0 (pebble y u) h))

module _ (rule : Rule) (sound : Sound rule) where
  serves_tidy : {y : Yard} {b : Bool} {v : ℕ} {ms : List Move} → Tree y → Serves rule y b v ms → Due y b v → Lets y b (parent y v) → Tidy y ms (run y ms)
  serves_tidy {y} {b} {v} t (Serves.direct e) u h = one_tidy y t b v u (free_able y b v e) h
  serves_tidy {y} {b} {v} t (Serves.behind {ms = ms} e s) u h =
      let q = blocked_child rule sound y t b v u e in
      let p = serves_shift rule sound y t s q.1 in
      let c = rule (need y b) y v in
      let stay = stays y t b v c ms u q.0 p (parent y v) ((wood y t).parent_lt v u.lt) (parent_outside (wood y t) v u.lt u.off_root) in
      rw (after_append ms (crossing y.parents b v ∷ []) y)
      (tidy_append (serves_tidy t s q.1 (rw q.0.up (blocked_lets y b v e)))
      (one_tidy (run y ms) (good_tree y t ms p.good) b v (due_behind y t b v c ms u q.0 p) (able_behind y t b v c ms u q.0 p)
      (lets_keeps y t ms p.good b (parent y v) ((wood y t).parent_lt v u.lt) stay h)))

  -- the loop at u, which has none to lack and none too many; and balancing
  settles_tidy : {y : Yard} {u : ℕ} {ms : List Move} → Settles fills rule y u ms → Tree y → u < size y → Even y u → Tidy y ms (run y ms)
  unfolding after
  settles_tidy (Settles.settled q) t l e = done
  settles_tidy {y} {u} (Settles.turned {c = c} {cs = cs} {ms = ms} {ns = ns} q s r) t l e =
      let n = first_needy y u c cs q in
      let o = fills_steers y y.pebbles t u l e c n.0 n.1 in
      let k = chosen_due rule sound y t (fills y u) u o.0 o.1 in
      let g = (serves_shift rule sound y t s k.1).good in
      rw (after_append ms ns y)
      (tidy_append (serves_tidy t s k.1 (rw k.0.up (turn_lets y u e)))
      (settles_tidy r (good_tree y t ms g) l (omega (arith, keeps y t ms g u l))))

  balances_tidy : {y : Yard} {us : List ℕ} {ms : List Move} → Balances fills rule y us ms → Tree y → All (Fit y) us → Tidy y ms (run y ms)
  unfolding after
  balances_tidy Balances.none t a = done
  balances_tidy {y} (Balances.next {u = u} {us = us} {ms = ms} {ns = ns} {ps = ps} s b r) t a =
      let st = fills_steers y in
      let h = settles_good fills rule sound s t st a.0.0 a.0.1 in
      let z = good_tree y t ms h.good in
      let g = good_append y ms ns h.good (balances_good fills rule sound b z st (fit_children y u ms h)).0 in
      let first : Tidy y (ms ++ ns) (run y (ms ++ ns)) = rw (after_append ms ns y) (tidy_append (settles_tidy s t a.0.0 a.0.1) (balances_tidy b z (fit_children y u ms h))) in
      rw (after_append (ms ++ ns) ps y) (tidy_append first (balances_tidy r (good_tree y t (ms ++ ns) g) (fit_run y t (ms ++ ns) g us a.1)))

-- the plan, and its figure by the demands alone
module _ (y : Yard) (t : Tree y) (m : Matched y) where
  pub plan_tidy : Tidy y (plan y) (run y (plan y))
  unfolding plan
  plan_tidy = balances_tidy choice choice_sound (plan_by_balances fills choice choice_sound y t (fills_steers y) m) t (root_fit y t m)

  pub plan_least : (v : ℕ) → v < size y → least y (plan y) v ≡ floor y v
  plan_least = tidy_least plan_tidy (run_tree (obeys (plan y) y t) t) (plan_optimal y t m).solves

  pub displaced_floor : displaced y ≡ sum (size y) (λ v. pebble y v - floor y v)
  displaced_floor = displaced_least y t m ∙ sum_cong (size y) _ _ (λ v l. ap (λ (x : ℕ). pebble y v - x) (plan_least v l))

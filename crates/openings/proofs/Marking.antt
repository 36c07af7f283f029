-- Which opening goes over an edge: down if its node lacks a pebble, has a place and its parent holds one; up if it has too many, holds one and its parent has a place.
use mathlib.Core.Path.{◌≡◌, refl, sym, ap, ◌∙◌}
use mathlib.Core.Logic.{◌≢◌}
use mathlib.Core.Bool.{Bool, true, false, not, cond, ◌&&◌, and-eq-true_iff, false≢true}
use Prim.Native.Nat.{ℕ, ◌+◌, ◌≤◌, ◌<◌}
use native.Mathlib.Omega.{arith}
use native.Mathlib.Decide.{ℕ_discrete}
use lib.ListN.{length, get_or, set, length-set}
use lib.Seq.{get_or-set_same, get_or-set_other}
use lib.Dec.{ltb, eqb}
use lib.IntN.{ℤ, pos, negsuc}
use lib.Signed.{lt_z}
use mir.Syntax.{w16}
use mir.Val.{to_z, of_z}
use borrow.Author.Tests.{ltb-true, lt-ltb, le-ltb, le-leb, lt-leb, eqb-true, eq-eqb, ne_eqb, not-true, not-false}
use Rattle.model.specs.Yard.{Yard, size, parent, pebble, capacity, root, head_or, is_child, lacking, surplus, demand, Matched}
use Rattle.model.specs.Judge.{Tree}
use Rattle.model.specs.Push.{push}
use Rattle.model.specs.Openings.{opening}
use Rattle.laws.proofs.Basics.{not_so}
use Rattle.laws.proofs.Found.{found, missed, from_next}
use Rattle.laws.specs.Choice.{Child}
use Rattle.laws.proofs.Trees.{is_child_law, child_is}
use Rattle.laws.proofs.Judged.{facts, wood}
use Rattle.laws.proofs.Demands.{root_even}
use Rattle.laws.specs.Algorithms.{need}
use Rattle.laws.proofs.Step.{Step, crosses, ends}
use Rattle.laws.proofs.Signed.{above0, below0, demand_parts, demand_range}
use Rattle.serve.specs.declared.tree.Children.{Children}
use Rattle.serve.specs.Serving.{Alone, linked_to}
use Rattle.openings.specs.declared.edges.Marks.{Marks}
use Rattle.serve.proofs.Numbers.{small_back}
use Rattle.laws.proofs.Openings.{opening_step, step_opening}
use Rattle.std.specs.Prelude.{Option, Some, None}
use Rattle.std.specs.Option.{option_eq}
use Rattle.openings.specs.contracts.edges.WayPartialEq.TheImpl as WayPartialEq
use Rattle.openings.specs.declared.edges.Way.{Way}
use Rattle.openings.specs.declared.edges.Way.TheVariants.{Down, Up}
use Rattle.openings.specs.Ways.{wayOver, way_of}
use Rattle.openings.specs.Listing.{down_to, down_from, Next, Marked}

-- two tests that pass together
same : (a b : Bool) → (a ≡ true → b ≡ true) → (b ≡ true → a ≡ true) → a ≡ b
same true b f g = sym (f refl)
same false true f g = g refl
same false false f g = refl

-- the sign of a demand
lacks : (y : Yard) (v : ℕ) → lt_z (pos 0) (demand y v) ≡ ltb 0 (lacking y v)
lacks y v = go (demand y v) (demand_parts y v).0
  where
    go : (d : ℤ) → above0 d ≡ lacking y v → lt_z (pos 0) d ≡ ltb 0 (lacking y v)
    go (pos n) e = rw (← e)
    go (negsuc n) e = rw (← e)

spares : (y : Yard) (v : ℕ) → lt_z (demand y v) (pos 0) ≡ ltb 0 (surplus y v)
spares y v = go (demand y v) (demand_parts y v).1
  where
    go : (d : ℤ) → below0 d ≡ surplus y v → lt_z d (pos 0) ≡ ltb 0 (surplus y v)
    go (pos n) e = le-ltb n 0 (omega arith) ∙ sym (le-ltb 0 (surplus y v) (omega (arith, e)))
    go (negsuc n) e = sym (lt-ltb 0 (surplus y v) (omega (arith, e)))

module _ (y : Yard) (t : Tree y) where
  -- a legal push over the edge of v is over that of no other node
  down_over : (v : ℕ) (s : Step y (push (parent y v) v)) → (s.away ≡ true) × (v ≡ s.node)
  down_over v s =
      let e = rw (eq-eqb (parent y v) (parent y v) refl, eq-eqb v v refl) at (crosses y (push (parent y v) v) s v).0 in
      let b = (and-eq-true_iff s.away (eqb v s.node)).0 (sym e) in
      (b.0, eqb-true v s.node b.1)

  up_over : (v : ℕ) (s : Step y (push v (parent y v))) → (s.away ≡ false) × (v ≡ s.node)
  up_over v s =
      let e = rw (eq-eqb (parent y v) (parent y v) refl, eq-eqb v v refl) at (crosses y (push v (parent y v)) s v).1 in
      let b = (and-eq-true_iff (not s.away) (eqb v s.node)).0 (sym e) in
      (not-true s.away b.0, eqb-true v s.node b.1)

  -- the openings over the edge of v, by numbers
  pub opening_down : (v : ℕ) → opening y (push (parent y v) v) ≡ true → (0 < lacking y v) × (0 < pebble y (parent y v)) × (pebble y v < capacity y v)
  opening_down v e =
      let o = opening_step y (push (parent y v) v) e in
      let d = down_over v o.0 in
      (rw (d.0, ← d.1) at o.1, o.0.holds, o.0.room)

  pub opening_up : (v : ℕ) → opening y (push v (parent y v)) ≡ true → (0 < surplus y v) × (0 < pebble y v) × (pebble y (parent y v) < capacity y (parent y v))
  opening_up v e =
      let o = opening_step y (push v (parent y v)) e in
      let d = up_over v o.0 in
      (rw (d.0, ← d.1) at o.1, o.0.holds, o.0.room)

  module _ (m : Matched y) (v : ℕ) (l : v < size y) where
    -- none goes over the root's, whose demand is 0
    off_root : 0 < need y true v + need y false v → v ≢ root y
    off_root n q = omega (arith, ap (lacking y) q, ap (surplus y) q, root_even y t m)

    down_is : opening y (push (parent y v) v) ≡ ((ltb 0 (lacking y v)) && ((ltb 0 (pebble y (parent y v))) && (ltb (pebble y v) (capacity y v))))
    down_is = same _ _
        (λ e. let o = opening_down v e in rw (lt-ltb _ _ o.0, lt-ltb _ _ o.1, lt-ltb _ _ o.2))
        (λ e.
        let b = (and-eq-true_iff (ltb 0 (lacking y v)) _).0 e in
        let c = (and-eq-true_iff (ltb 0 (pebble y (parent y v))) (ltb (pebble y v) (capacity y v))).0 b.1 in
        let n = ltb-true _ _ b.0 in
        step_opening y (push (parent y v) v) (record { tree = t; away = true; node = v; node_lt = l; off_root = off_root (omega (arith, n)); is = refl; holds = ltb-true _ _ c.0; room = ltb-true _ _ c.1 }) n)

    up_is : opening y (push v (parent y v)) ≡ ((ltb 0 (surplus y v)) && ((ltb 0 (pebble y v)) && (ltb (pebble y (parent y v)) (capacity y (parent y v)))))
    up_is = same _ _
        (λ e. let o = opening_up v e in rw (lt-ltb _ _ o.0, lt-ltb _ _ o.1, lt-ltb _ _ o.2))
        (λ e.
        let b = (and-eq-true_iff (ltb 0 (surplus y v)) _).0 e in
        let c = (and-eq-true_iff (ltb 0 (pebble y v)) (ltb (pebble y (parent y v)) (capacity y (parent y v)))).0 b.1 in
        let n = ltb-true _ _ b.0 in
        step_opening y (push v (parent y v)) (record { tree = t; away = false; node = v; node_lt = l; off_root = off_root (omega (arith, n)); is = refl; holds = ltb-true _ _ c.0; room = ltb-true _ _ c.1 }) n)

    way_is : wayOver (demand y v) (pebble y v) (capacity y v) (pebble y (parent y v)) (capacity y (parent y v)) ≡ way_of y v
    way_is = rw (lacks y v, spares y v, down_is, up_is) refl

    -- by a demand that comes back from its 16 bits
    pub way_marked : (d : ℤ) (p : ℕ) → d ≡ demand y v → p ≡ parent y v → wayOver (to_z w16 (of_z w16 d)) (pebble y v) (capacity y v) (pebble y p) (capacity y p) ≡ way_of y v
    way_marked d p e q = rw (e, q, small_back (demand y v) (demand_range y t v)) way_is

  -- an entry of the marks, read back
  abbrev way : Bool → Bool → Option Way
  way down up = cond down (Some Down) (cond up (Some Up) None)

  module _ (m : Matched y) (v : ℕ) (l : v < size y) {e : Option Way} (q : e ≡ way_of y v) where
    pub marked_down : e ≡ Some Down → opening y (push (parent y v) v) ≡ true
    marked_down h = go (opening y (push (parent y v) v)) (opening y (push v (parent y v))) (sym q ∙ h)
      where
        go : (a b : Bool) → way a b ≡ Some Down → a ≡ true
        go true b k = refl
        go false true k = (cc)
        go false false k = (cc)

    pub unmarked_down : e ≢ Some Down → opening y (push (parent y v) v) ≡ false
    unmarked_down h = not_so _ (λ k. h (q ∙ ap (λ (a : Bool). cond a (Some Down) (cond (opening y (push v (parent y v))) (Some Up) None)) k))

    pub marked_up : e ≡ Some Up → opening y (push v (parent y v)) ≡ true
    marked_up h = go (opening y (push (parent y v) v)) (opening y (push v (parent y v))) (sym q ∙ h)
      where
        go : (a b : Bool) → way a b ≡ Some Up → b ≡ true
        go true b k = (cc)
        go false true k = refl
        go false false k = (cc)

    pub unmarked_up : e ≢ Some Up → opening y (push v (parent y v)) ≡ false
    unmarked_up h = not_so _ (λ k. h (q ∙ rw (not_down k, k)))
      where
        not_down : opening y (push v (parent y v)) ≡ true → opening y (push (parent y v) v) ≡ false
        not_down k = not_so _ (λ d. omega (arith, (opening_up v k).0, (opening_down v d).0))

-- what `==` and `!=` tell of a mark
module _ {o : Option Way} {w : Way} where
  pub is_way : option_eq WayPartialEq.eq-value.it o (Some w) ≡ true → o ≡ Some w
  is_way = go o w
    where
      go : (o : Option Way) (w : Way) → option_eq WayPartialEq.eq-value.it o (Some w) ≡ true → o ≡ Some w
      go None w h = absurd (false≢true h)
      go (Some Down) Down h = refl
      go (Some Down) Up h = absurd (false≢true h)
      go (Some Up) Down h = absurd (false≢true h)
      go (Some Up) Up h = refl

  pub no_way : option_eq WayPartialEq.eq-value.it o (Some w) ≡ false → o ≢ Some w
  no_way h e = false≢true (sym h ∙ rw e (itself w))
    where
      itself : (w : Way) → option_eq WayPartialEq.eq-value.it (Some w) (Some w) ≡ true
      itself Down = refl
      itself Up = refl

  pub ne_false : {r : Bool} → r ≡ not (option_eq WayPartialEq.eq-value.it o (Some w)) → r ≡ false → o ≡ Some w
  ne_false q h = is_way (not-false _ (sym q ∙ h))

  pub ne_true : {r : Bool} → r ≡ not (option_eq WayPartialEq.eq-value.it o (Some w)) → r ≡ true → o ≢ Some w
  ne_true q h = no_way (not-true _ (sym q ∙ h))

-- from v on and from the next number on it is the same, where no opening goes from u to v
pub next_same : {y : Yard} {c : ℕ} (v u : ℕ) → down_to y u v ≡ false → (Next y u (v + 1) c → Next y u v c) × (Next y u v c → Next y u (v + 1) c)
next_same {y} v u e =
    let s = ap (head_or u) (from_next (size y) v (down_to y u) e) in
    ((λ h. record { is = h.is ∙ s }), λ h. record { is = h.is ∙ sym s })

-- none is marked yet
pub marked_none : {y : Yard} {t : Marks} → length t.ways ≡ 256 → Alone (size y) t.down → Marked (size y) y t
marked_none {y} n h = record {
  ways_long = n;
  lowest_long = h.lowest_long;
  next_long = h.next_long;
  way = λ v l k. absurd (omega arith);
  first = λ u l. record { is = h.first u l ∙ missed (size y) u (down_from y u (size y)) (λ v m. rw (lt-leb (size y) v m)) };
  next = λ c l k o. absurd (omega arith);
}

-- the edge of v is marked, from the highest node down
module _ {y : Yard} (tree : Tree y) (m : Matched y) (v : ℕ) {t : Marks} (f : Marked (v + 1) y t) (l : v < size y) {k : Option Way} (q : k ≡ way_of y v) where
  small : v < 256
  small = omega (arith, l, (facts y tree).few)

  way_on : (w : ℕ) → w < size y → v ≤ w → get_or (set t.ways v k) w None ≡ way_of y w
  way_on w h g = go (ℕ_discrete w v)
    where
      go : Dec (w ≡ v) → get_or (set t.ways v k) w None ≡ way_of y w
      go (yes x) = rw (x, get_or-set_same t.ways v k None (omega (arith, f.ways_long, small))) q
      go (no d) = get_or-set_other t.ways v w k None d ∙ f.way w h (omega arith)

  -- no opening comes down to v
  pub marked_other : k ≢ Some Down → Marked v y (record t { ways = set t.ways v k })
  marked_other d = record {
    ways_long = length-set t.ways v k ∙ f.ways_long;
    lowest_long = f.lowest_long;
    next_long = f.next_long;
    way = way_on;
    first = λ u h. (next_same {y = y} v u (none u)).0 (f.first u h);
    next = λ c h g o. f.next c h (higher c g o (ℕ_discrete c v)) o;
  }
    where
      shut : opening y (push (parent y v) v) ≡ false
      shut = unmarked_down y tree m v l q d

      none : (u : ℕ) → down_to y u v ≡ false
      none u = not_so _ (λ e.
          let b = (and-eq-true_iff (is_child y.parents u v) (opening y (push u v))).0 e in
          false≢true (sym shut ∙ rw (is_child_law y.parents u v l b.0).up b.1))

      higher : (c : ℕ) → v ≤ c → opening y (push (parent y c) c) ≡ true → Dec (c ≡ v) → v + 1 ≤ c
      higher c g o (yes x) = absurd (false≢true (sym shut ∙ rw x at o))
      higher c g o (no x) = omega arith

  -- one does: v is put before those of its parent that are linked already
  marked_down_to : k ≡ Some Down → Marked v y (record { ways = set t.ways v k; down = linked_to t.down v (parent y v) })
  marked_down_to e = record {
    ways_long = length-set t.ways v k ∙ f.ways_long;
    lowest_long = simp length-set f.lowest_long;
    next_long = simp length-set f.next_long;
    way = way_on;
    first = λ u h. first u h (ℕ_discrete (parent y v) u);
    next = λ c h g o. next c h g o (ℕ_discrete c v);
  }
    where
      opens : opening y (push (parent y v) v) ≡ true
      opens = marked_down y tree m v l q e

      child : Child y.parents (parent y v) v
      child = record { lt = l; up = refl; other = λ x. (ends y (push (parent y v) v) (opening_step y (push (parent y v) v) opens).0).2 (sym x) }

      above : parent y v < size y
      above = (wood y tree).parent_lt v l

      first : (u : ℕ) → u < size y → Dec (parent y v ≡ u) → Next y u v (get_or (set t.down.lowest (parent y v) v) u 0)
      first u h (yes x) = rw (← x) (record {
        is = get_or-set_same t.down.lowest (parent y v) v 0 (omega (arith, f.lowest_long, above, (facts y tree).few))
            ∙ found (size y) (parent y v) v (down_from y (parent y v) v) l (λ w b. rw (lt-leb v w b)) (rw (le-leb v v (omega arith), child_is y.parents (parent y v) v child, opens));
      })
      first u h (no x) = rw (get_or-set_other t.down.lowest (parent y v) u v 0 (λ e. x (sym e))) ((next_same {y = y} v u (rw (ne_eqb (parent y v) u x))).0 (f.first u h))

      next : (c : ℕ) → c < size y → v ≤ c → opening y (push (parent y c) c) ≡ true → Dec (c ≡ v) → Next y (parent y c) (c + 1) (get_or (linked_to t.down v (parent y v)).next c 0)
      next c h g o (yes x) = rw (x, get_or-set_same t.down.next v (get_or t.down.lowest (parent y v) 0) 0 (omega (arith, f.next_long, small))) (f.first (parent y v) above)
      next c h g o (no x) = rw (get_or-set_other t.down.next v c (get_or t.down.lowest (parent y v) 0) 0 x) (f.next c h (omega arith) o)

  pub marked_linked : k ≡ Some Down → {p : ℕ} {new : Children} → p ≡ parent y v → new ≡ linked_to t.down v p → Marked v y (record { ways = set t.ways v k; down = new })
  marked_linked e i n = rw (n, i) (marked_down_to e)

-- Looking for the child that is served, by scans of u's children in rising number: from each that needs more than those before it on to the next, or on from
-- the child that was served last.
use mathlib.Core.Path.{◌≡◌, refl, sym, ap, subst, ◌∙◌}
use mathlib.Core.Logic.{◌≢◌}
use mathlib.Core.Bool.{Bool, true, false, not, cond, false≢true}
use mathlib.Core.List.{List}
use Prim.Native.Nat.{ℕ, zero, suc, ◌+◌, ◌-◌, ◌≤◌, ◌<◌}
use native.Mathlib.Omega.{arith}
use native.Mathlib.Decide.{ℕ_discrete, dec_lt}
use lib.ListN.{length, get_or}
use lib.Dec.{ltb, eqb, leb-suc-suc}
use lib.IntN.{ℤ, pos, negsuc, nat_abs}
use mir.Syntax.{w16}
use mir.Val.{to_z, of_z}
use borrow.Author.Tests.{lt-ltb, le-ltb, ltb-true, ltb-false, le-leb, eq-eqb, ne_eqb}
use Rattle.model.specs.Yard.{Yard, size, one, parent, pebbles_in, demand}
use Rattle.model.specs.Judge.{Tree}
use Rattle.model.specs.Push.{Move, moved}
use Rattle.model.specs.Plan.{neediest_child, choice}
use Rattle.laws.proofs.Basics.{below_none}
use Rattle.laws.specs.Choice.{Child, Neediest}
use Rattle.laws.proofs.Trees.{child_is}
use Rattle.laws.proofs.Judged.{facts}
use Rattle.laws.proofs.Signed.{nextℤ, above0, below0, demand_parts, demand_range}
use Rattle.laws.specs.Algorithms.{need}
use Rattle.laws.proofs.Step.{Step, pebbles_in_other, pebbles_in_node}
use Rattle.laws.proofs.Choice.{neediest_is, neediest_none, neediest_other}
use Rattle.serve.specs.declared.state.State.{State}
use Rattle.serve.specs.declared.tree.Children.{Children}
use Rattle.serve.specs.Serving.{is_child_from, Lowest, LastServed, lasts, Describes, Sees, beyond, NextBeyond}
use Rattle.serve.proofs.Numbers.{small_back}
use Rattle.serve.proofs.Siblings.{none_from, none_between, child_from, next_is}

-- how far a number is from 0 on the side of a sign; for a demand, what is needed
abbrev pub sized : Bool → ℤ → ℕ
sized b d = cond b (above0 d) (below0 d)

need_sized : (y : Yard) (b : Bool) (v : ℕ) → sized b (demand y v) ≡ need y b v
need_sized y true v = (demand_parts y v).0
need_sized y false v = (demand_parts y v).1

sized_zero : (b : Bool) → sized b (pos 0) ≡ 0
sized_zero true = refl
sized_zero false = refl

pub one_side : (y : Yard) (b : Bool) (v : ℕ) → 0 < need y b v → need y (not b) v ≡ 0
one_side y true v n = omega arith
one_side y false v n = omega arith

-- beyond a number that is not on the other side lies what is farther from 0
beyond_sized : (b : Bool) (d e : ℤ) → sized (not b) e ≡ 0 → beyond b d e ≡ ltb (sized b e) (sized b d)
beyond_sized true (pos d) (pos e) h = refl
beyond_sized true (negsuc d) (pos e) h = sym (le-ltb e 0 (omega arith))
beyond_sized true d (negsuc e) h = absurd (omega arith)
beyond_sized false (pos d) (pos e) h = le-ltb d e (omega arith)
beyond_sized false (pos d) (negsuc e) h = sym (le-ltb (suc e) 0 (omega arith))
beyond_sized false (negsuc d) (pos e) h = sym (lt-ltb 0 (suc d) (omega arith))
beyond_sized false (negsuc d) (negsuc e) h = sym (leb-suc-suc (suc e) d)

-- what holds of the children passed, and of the one at hand, holds of those passed then; behind the last, of all
module _ {ps : List ℕ} {u low c : ℕ} (h : Lowest ps u low c) {P : ℕ → Type 0} (p : (v : ℕ) → Child ps u v → v < low → P v) where
  from_low : {v : ℕ} → Child ps u v → low ≤ v → is_child_from ps u low v ≡ true
  from_low {v} k m = rw (le-leb low v m) (child_is ps u v k)

  passed_all : c ≡ u → (v : ℕ) → Child ps u v → P v
  passed_all q v k = go (dec_lt v low)
    where
      go : Dec (v < low) → P v
      go (yes m) = p v k m
      go (no m) = absurd (false≢true (sym (below_none (length ps) (is_child_from ps u low) (none_from h q) v k.lt) ∙ from_low k (omega arith)))

  module _ (d : c ≢ u) where
    passed_before : (v : ℕ) → Child ps u v → v < c → P v
    passed_before v k l = go (dec_lt v low)
      where
        go : Dec (v < low) → P v
        go (yes m) = p v k m
        go (no m) = absurd (false≢true (sym (none_between h d v l) ∙ from_low k (omega arith)))

    passed_more : P c → (v : ℕ) → Child ps u v → v < c + 1 → P v
    passed_more x v k l = go (ℕ_discrete v c)
      where
        go : Dec (v ≡ c) → P v
        go (yes e) = rw e x
        go (no e) = passed_before v k (omega arith)

-- the scan from number low on: no child passed lies beyond
pub record Scan (b : Bool) (y : Yard) (u low : ℕ) (most : ℤ) (c : ℕ) : Type 0 where
  pub at : ℕ
  pub at_le : low ≤ at
  pub lowest : Lowest y.parents u at c
  pub passed : (v : ℕ) → Child y.parents u v → v < at → low ≤ v → beyond b (demand y v) most ≡ false

module _ {b : Bool} {y : Yard} {u low : ℕ} {most : ℤ} where
  pub scan_first : {c : ℕ} → Lowest y.parents u low c → Scan b y u low most c
  scan_first h = record { at = low; at_le = omega arith; lowest = h; passed = λ v k l m. absurd (omega arith) }

  pub scan_end : Scan b y u low most u → NextBeyond b y u low most u
  scan_end h = record { passed = λ v k l _. passed_all h.lowest h.passed refl v k l; found = λ d. absurd (d refl) }

  module _ {c : ℕ} (h : Scan b y u low most c) (e : c ≢ u) where
    pub scan_child : Child y.parents u c
    scan_child = (child_from h.lowest e).0

    module _ {t : Children} {s : State} (w : Sees y t s u) where
      reads : demand y c ≡ get_or s.demands c (pos 0)
      reads = sym (w.demands c scan_child)

      pub scan_found : beyond b (get_or s.demands c (pos 0)) most ≡ true → NextBeyond b y u low most c
      scan_found f = record {
        passed = λ v k l m. passed_before h.lowest h.passed e v k (m e) l;
        found = λ _. (scan_child, omega (arith, h.at_le, (child_from h.lowest e).1), rw reads f);
      }

      pub scan_next : beyond b (get_or s.demands c (pos 0)) most ≡ false → Scan b y u low most (get_or t.next c 0)
      scan_next f = record {
        at = c + 1;
        at_le = omega (arith, h.at_le, (child_from h.lowest e).1);
        lowest = next_is w.tables scan_child;
        passed = passed_more h.lowest h.passed e (λ _. rw reads f);
      }

-- r needs something, and more than every child with a lower number
pub record Lead (b : Bool) (y : Yard) (u r : ℕ) : Type 0 where
  pub child : Child y.parents u r
  pub needs : 0 < need y b r
  pub first : (v : ℕ) → Child y.parents u v → v < r → need y b v < need y b r

-- from each such child on to the next: r is the last so far, or u itself before the first, and of the children passed, those below number `at`, none needs more
pub record Led (b : Bool) (y : Yard) (u r from : ℕ) (most : ℤ) : Type 0 where
  pub at : ℕ
  pub lowest : Lowest y.parents u at from
  pub side : sized (not b) most ≡ 0
  pub passed : (v : ℕ) → Child y.parents u v → v < at → need y b v ≤ sized b most
  pub none : r ≡ u → sized b most ≡ 0
  pub lead : r ≢ u → Lead b y u r × (r < at) × (need y b r ≡ sized b most)

-- what falls with each of them
abbrev pub left : ℕ → ℕ → ℕ
left u r = cond (eqb r u) 257 (256 - r)

module _ {b : Bool} {y : Yard} {u : ℕ} where
  pub led_first : {from : ℕ} → Lowest y.parents u 0 from → Led b y u u from (pos 0)
  led_first h = record { at = 0; lowest = h; side = sized_zero (not b); passed = λ v k l. absurd (omega arith); none = λ _. sized_zero b; lead = λ d. absurd (d refl) }

  module _ {r from c : ℕ} {most : ℤ} (h : Led b y u r from most) (n : NextBeyond b y u h.at most c) where
    lies : (v : ℕ) → beyond b (demand y v) most ≡ ltb (sized b most) (need y b v)
    lies v = beyond_sized b (demand y v) most h.side ∙ rw (need_sized y b v)

    no_record : (v : ℕ) → Child y.parents u v → (c ≢ u → v < c) → need y b v ≤ sized b most
    no_record v k m = go (dec_lt v h.at)
      where
        go : Dec (v < h.at) → need y b v ≤ sized b most
        go (yes l) = h.passed v k l
        go (no l) = ltb-false (sized b most) (need y b v) (sym (lies v) ∙ n.passed v k (omega arith) m)

    pub led_last : c ≡ u → r ≡ choice (need y b) y u
    unfolding choice
    led_last q = go (ℕ_discrete r u)
      where
        all : (v : ℕ) → Child y.parents u v → need y b v ≤ sized b most
        all v k = no_record v k (λ d. absurd (d q))

        go : Dec (r ≡ u) → r ≡ neediest_child (need y b) y u
        go (yes e) = e ∙ neediest_none (need y b) y u (λ v k. omega (arith, all v k, h.none e))
        go (no d) = let f = h.lead d in neediest_is (need y b) y u record { needy = (f.0.child, f.0.needs); most = λ v k. omega (arith, all v k, f.2); first = f.0.first }

    module _ (d : c ≢ u) where
      record_more : sized b most < need y b c
      record_more = ltb-true (sized b most) (need y b c) (sym (lies c) ∙ (n.found d).2)

      pub led_next : {from' : ℕ} → Lowest y.parents u (c + 1) from' → Led b y u c from' (demand y c)
      led_next l = record {
        at = c + 1;
        lowest = l;
        side = need_sized y (not b) c ∙ one_side y b c (omega (arith, record_more));
        passed = λ v k g. at v k g (ℕ_discrete v c);
        none = λ e. absurd (d e);
        lead = λ _. (
          record { child = (n.found d).0; needs = omega (arith, record_more); first = λ v k g. omega (arith, no_record v k (λ _. g), record_more) },
          omega arith,
          sym (need_sized y b c),
        );
      }
        where
          at : (v : ℕ) → Child y.parents u v → v < c + 1 → Dec (v ≡ c) → need y b v ≤ sized b (demand y c)
          at v k g (yes e) = rw (e, need_sized y b c) (omega arith)
          at v k g (no e) = omega (arith, no_record v k (λ _. omega arith), record_more, need_sized y b c)

      pub led_falls : c < 256 → left u c < left u r
      led_falls l = rw (ne_eqb c u d) (go (ℕ_discrete r u))
        where
          go : Dec (r ≡ u) → 256 - c < left u r
          go (yes e) = rw (eq-eqb r u e) (omega arith)
          go (no e) = rw (ne_eqb r u e) (omega (arith, (h.lead e).1, (n.found d).1))

-- one nearer to 0
next_sized : (b : Bool) (d : ℤ) → sized (not b) d ≡ 0 → d ≢ pos 0 → (sized b d ≡ sized b (nextℤ b d) + 1) × (sized (not b) (nextℤ b d) ≡ 0)
next_sized true (pos zero) h d = absurd (d refl)
next_sized true (pos (suc n)) h d = omega arith
next_sized true (negsuc n) h d = absurd (omega arith)
next_sized false (pos zero) h d = absurd (d refl)
next_sized false (pos (suc n)) h d = absurd (omega arith)
next_sized false (negsuc zero) h d = omega arith
next_sized false (negsuc (suc n)) h d = omega arith

-- after the child l was served: the first behind it that needs more; else none needs more than l does, and the choice is the first that needs as much
module _ {b : Bool} {y : Yard} {u l c : ℕ} (f : LastServed b y u l) (n : NextBeyond b y u (l + 1) (demand y l) c) where
  more_than : (v : ℕ) → beyond b (demand y v) (demand y l) ≡ ltb (need y b l) (need y b v)
  more_than v = rw (← need_sized y b l, ← need_sized y b v) (beyond_sized b (demand y v) (demand y l) (need_sized y (not b) l ∙ f.side))

  no_more : (v : ℕ) → Child y.parents u v → (c ≢ u → v < c) → need y b v ≤ need y b l
  no_more v k m = go (dec_lt v l) (ℕ_discrete v l)
    where
      go : Dec (v < l) → Dec (v ≡ l) → need y b v ≤ need y b l
      go (yes g) _ = f.first v k g
      go (no _) (yes e) = rw e (omega arith)
      go (no g) (no e) = ltb-false (need y b l) (need y b v) (sym (more_than v) ∙ n.passed v k (omega arith) m)

  pub last_next : c ≢ u → c ≡ choice (need y b) y u
  unfolding choice
  last_next d =
      let m = ltb-true (need y b l) (need y b c) (sym (more_than c) ∙ (n.found d).2) in
      neediest_is (need y b) y u record {
        needy = ((n.found d).0, omega (arith, m));
        most = λ v k. omega (arith, f.most v k, m);
        first = λ v k g. omega (arith, no_more v k (λ _. g), m);
      }

  module _ (e : c ≡ u) where
    none_more : (v : ℕ) → Child y.parents u v → need y b v ≤ need y b l
    none_more v k = no_more v k (λ d. absurd (d e))

    pub last_none : demand y l ≡ pos 0 → u ≡ choice (need y b) y u
    unfolding choice
    last_none q = neediest_none (need y b) y u (λ v k. omega (arith, none_more v k, sym (need_sized y b l) ∙ ap (sized b) q ∙ sized_zero b))

    module _ (q : demand y l ≢ pos 0) where
      step : (sized b (demand y l) ≡ sized b (nextℤ b (demand y l)) + 1) × (sized (not b) (nextℤ b (demand y l)) ≡ 0)
      step = next_sized b (demand y l) (need_sized y (not b) l ∙ f.side) q

      as_much : (v : ℕ) → beyond b (demand y v) (nextℤ b (demand y l)) ≡ ltb (sized b (nextℤ b (demand y l))) (need y b v)
      as_much v = rw (← need_sized y b v) (beyond_sized b (demand y v) (nextℤ b (demand y l)) step.1)

      level : need y b l ≡ sized b (nextℤ b (demand y l)) + 1
      level = sym (need_sized y b l) ∙ step.0

      pub last_round : {r : ℕ} → NextBeyond b y u 0 (nextℤ b (demand y l)) r → r ≡ choice (need y b) y u
      unfolding choice
      last_round {r} m = go (ℕ_discrete r u)
        where
          less : (v : ℕ) → Child y.parents u v → (r ≢ u → v < r) → need y b v < need y b l
          less v k h = omega (arith, ltb-false (sized b (nextℤ b (demand y l))) (need y b v) (sym (as_much v) ∙ m.passed v k (omega arith) h), level)

          go : Dec (r ≡ u) → r ≡ neediest_child (need y b) y u
          go (yes h) = absurd (omega (arith, less l f.child (λ d. absurd (d h))))
          go (no d) =
              let k = ltb-true (sized b (nextℤ b (demand y l))) (need y b r) (sym (as_much r) ∙ (m.found d).2) in
              neediest_is (need y b) y u record {
                needy = ((m.found d).0, omega (arith, k));
                most = λ v j. omega (arith, none_more v j, k, level);
                first = λ v j g. omega (arith, less v j (λ _. g), k, level);
              }

-- what is chosen, if it is not u itself, is a child of u
pub chosen_child : (y : Yard) (b : Bool) (u c : ℕ) → c ≡ choice (need y b) y u → c ≢ u → Child y.parents u c
unfolding choice
chosen_child y b u c q d = rw q (neediest_other (need y b) y u (λ e. d (q ∙ e))).needy.0

-- a move over the edge of the child that is chosen: that is the one served last then; for other nodes, and for the other sign, the one served last stays
module _ {y : Yard} {m : Move} (g : Step y m) (n : Neediest (need y g.away) y (parent y g.node) g.node) where
  need_other : (b : Bool) (v : ℕ) → v ≢ g.node → need (moved y m) b v ≡ need y b v
  need_other true v d = rw (pebbles_in_other y m g v d)
  need_other false v d = rw (pebbles_in_other y m g v d)

  need_node : (need y g.away g.node ≡ need (moved y m) g.away g.node + 1) × (need (moved y m) (not g.away) g.node ≡ 0)
  need_node = go g.away (pebbles_in_node y m g) n.needy.1
    where
      go : (b : Bool) → pebbles_in (moved y m) g.node + one (not b) ≡ pebbles_in y g.node + one b → 0 < need y b g.node
          → (need y b g.node ≡ need (moved y m) b g.node + 1) × (need (moved y m) (not b) g.node ≡ 0)
      go true e h = omega arith
      go false e h = omega arith

  pub last_here : LastServed g.away (moved y m) (parent y g.node) g.node
  last_here = record {
    child = n.needy.0;
    side = need_node.1;
    most = λ v k. at v k (ℕ_discrete v g.node);
    first = λ v k l. omega (arith, need_other g.away v (λ e. absurd (omega arith)), n.first v k l, need_node.0);
  }
    where
      at : (v : ℕ) → Child y.parents (parent y g.node) v → Dec (v ≡ g.node) → need (moved y m) g.away v ≤ need (moved y m) g.away g.node + 1
      at v k (yes e) = rw e (omega arith)
      at v k (no d) = omega (arith, need_other g.away v d, n.most v k, need_node.0)

  module _ {b : Bool} {u c : ℕ} (apart : u ≡ parent y g.node → b ≡ not g.away) (f : LastServed b y u c) where
    side_of : (a : Bool) → b ≡ not a → need y (not b) c ≡ need y a c
    side_of true e = rw e
    side_of false e = rw e

    not_here : c ≢ g.node
    not_here e = absurd (omega (arith, n.needy.1, rw e at (sym (side_of g.away (apart (sym f.child.up ∙ ap (parent y) e))) ∙ f.side)))

    no_more_then : (v : ℕ) → Child y.parents u v → need (moved y m) b v ≤ need y b v
    no_more_then v k = at (ℕ_discrete v g.node)
      where
        at : Dec (v ≡ g.node) → need (moved y m) b v ≤ need y b v
        at (yes e) = rw (apart (sym k.up ∙ ap (parent y) e), e) (omega (arith, need_node.1))
        at (no d) = omega (arith, need_other b v d)

    pub last_there : LastServed b (moved y m) u c
    last_there = record {
      child = f.child;
      side = need_other (not b) c not_here ∙ f.side;
      most = λ v k. omega (arith, no_more_then v k, need_other b c not_here, f.most v k);
      first = λ v k l. omega (arith, no_more_then v k, need_other b c not_here, f.first v k l);
    }

-- a node is below 256
pub tree_small : (y : Yard) (v : ℕ) → Tree y → v < size y → v < 256
tree_small y v t l = omega (arith, (facts y t).few)

pub node_small : {y : Yard} {t : Children} {s : State} {v : ℕ} → Describes y t s → v < size y → v < 256
node_small {y} {v = v} r l = tree_small y v r.tree l

pub seen_small : {y : Yard} {t : Children} {s : State} {u v : ℕ} → Sees y t s u → v < size y → v < 256
seen_small {y} {v = v} r l = tree_small y v r.tree l

-- a demand is within −2,048 to 2,048, and so unchanged by a passage through 16 bits
module _ {y : Yard} {t : Children} {s : State} {u v : ℕ} (r : Sees y t s u) (k : Child y.parents u v) where
  pub in_range : nat_abs (get_or s.demands v (pos 0)) ≤ 2_048
  in_range = rw (r.demands v k) (demand_range y r.tree v)

  pub demand_back : to_z w16 (of_z w16 (get_or s.demands v (pos 0))) ≡ get_or s.demands v (pos 0)
  demand_back = small_back (get_or s.demands v (pos 0)) in_range

  pub zero_demand : (of_z w16 (get_or s.demands v (pos 0)) ≡ 0 → demand y v ≡ pos 0) × (demand y v ≡ pos 0 → of_z w16 (get_or s.demands v (pos 0)) ≡ 0)
  zero_demand = ((λ e. sym (r.demands v k) ∙ sym demand_back ∙ ap (to_z w16) e), (λ e. ap (of_z w16) (r.demands v k ∙ e)))

-- the entry for the child that was served last
module _ {y : Yard} {t : Children} {s : State} {u : ℕ} (b : Bool) (r : Sees y t s u) where
  pub last_entry : (c : ℕ) × (c < 256) × (get_or (lasts b s) u (pos 0) ≡ pos c)
  last_entry = let k = r.lasts b in (k.node, small (ℕ_discrete k.node u), k.is)
    where
      small : Dec ((r.lasts b).node ≡ u) → (r.lasts b).node < 256
      small (yes e) = omega (arith, seen_small r r.node)
      small (no d) = seen_small r ((r.lasts b).served d).child.lt

  pub last_read : {c : ℕ} → get_or (lasts b s) u (pos 0) ≡ pos c → c ≢ u → LastServed b y u c
  last_read {c} e d =
      let k = r.lasts b in
      let q : k.node ≡ c = ap nat_abs (sym k.is ∙ e) in
      subst (LastServed b y u) q (k.served (λ h. d (sym q ∙ h)))

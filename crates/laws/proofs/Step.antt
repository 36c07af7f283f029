-- One legal push: it takes one pebble over one edge, so it changes the demand of that edge's node by one and no other, and leaves a tree.
use mathlib.Core.Path.{◌≡◌, refl, sym, ap, ◌∙◌}
use mathlib.Core.Logic.{◌≢◌}
use mathlib.Core.Bool.{Bool, true, false, not, ◌&&◌, ◌||◌, or-true, and-true, and-false, and-eq-true_iff}
use mathlib.Core.List.{List, [], ◌∷◌}
use mathlib.Core.Option.{Option, none, some}
use Prim.Native.Nat.{ℕ, ◌+◌, ◌-◌, ◌*◌, ◌≤◌, ◌<◌}
use native.Mathlib.Omega.{arith}
use native.Mathlib.Decide.{ℕ_discrete}
use lib.ListN.{length, get_or, set, length-set}
use lib.Seq.{get_or-set_same, get_or-set_other}
use lib.Dec.{ltb, eqb}
use borrow.Author.Tests.{ltb-true, leb-false, eqb-true, eqb-false, lt-ltb, lt-leb, eq-eqb, ne_eqb, not-true}
use Rattle.model.specs.Yard.{Yard, size, parent, pebble, capacity, one, sum, root, inside, subtotal, pebbles_in}
use Rattle.model.specs.Judge.{Fault, judge, Tree}
use Rattle.model.specs.Push.{Move, push, adjacent, move_tests, move_fault, push_fault, is_none, legal, shifted, moved, is_up, is_down}
use Rattle.laws.specs.Algorithms.{crossing}
use Rattle.laws.proofs.Basics.{not_so, eqb_sym, none_all, all_none, unless_none}
use Rattle.laws.proofs.Sums.{sum_cong, sum_pick, sum_shift}
use Rattle.laws.proofs.Trees.{Wood, one_step, no_pair}
use Rattle.laws.proofs.Judged.{facts, wood, counted_tree}

-- what a legal push is
pub record Step (y : Yard) (m : Move) : Type 0 where
  pub tree : Tree y
  pub away : Bool
  pub node : ℕ
  pub node_lt : node < size y
  pub off_root : node ≢ root y
  pub is : m ≡ crossing y.parents away node
  pub holds : 0 < pebble y m.from
  pub room : pebble y m.to < capacity y m.to

-- what is known of a move that meets none of its own tests
pub record Free (y : Yard) (m : Move) : Type 0 where
  pub from_lt : m.from < size y
  pub to_lt : m.to < size y
  pub near : adjacent y m.from m.to ≡ true
  pub holds : 0 < pebble y m.from
  pub room : pebble y m.to < capacity y m.to

pub free : (y : Yard) (m : Move) (place : ℕ) → move_fault y m place ≡ none → Free y m
unfolding move_fault
free y m place e =
    let p = none_all (move_tests y m place) e in
    let known = (and-eq-true_iff (ltb m.from (size y)) (ltb m.to (size y))).0 (unless_none _ 10 place p.0) in
    record {
      from_lt = ltb-true _ _ known.0;
      to_lt = ltb-true _ _ known.1;
      near = unless_none _ 11 place p.1.0;
      holds = ltb-true 0 (pebble y m.from) (unless_none _ 12 place p.1.1.0);
      room = leb-false (capacity y m.to) (pebble y m.to) (not-true _ (unless_none _ 13 place p.1.1.1.0));
    }

pub none_is : (r : Option Fault) → is_none r ≡ true → r ≡ none
none_is none e = refl
none_is (some r) e = cc

-- the counts of a list where one goes from a node to another
shifted_at : (ps : List ℕ) (m : Move) → m.from < length ps → m.to < length ps → m.from ≢ m.to → 0 < get_or ps m.from 0
    → (v : ℕ) → get_or (shifted ps m) v 0 + one (eqb v m.from) ≡ get_or ps v 0 + one (eqb v m.to)
unfolding shifted
shifted_at ps m fl tl d h v = go (ℕ_discrete v m.from) (ℕ_discrete v m.to)
  where
    a : ℕ
    a = get_or ps m.from 0 - 1

    b : ℕ
    b = get_or ps m.to 0 + 1

    off_to : v ≢ m.to → get_or (set (set ps m.from a) m.to b) v 0 ≡ get_or (set ps m.from a) v 0
    off_to q = get_or-set_other (set ps m.from a) m.to v b 0 q

    go : Dec (v ≡ m.from) → Dec (v ≡ m.to) → get_or (set (set ps m.from a) m.to b) v 0 + one (eqb v m.from) ≡ get_or ps v 0 + one (eqb v m.to)
    go (yes p) (yes q) = absurd (d (sym p ∙ q))
    go (yes p) (no q) = rw (off_to q, p, get_or-set_same ps m.from a 0 fl, eq-eqb m.from m.from refl, ne_eqb m.from m.to d) (omega arith)
    go (no p) (yes q) = rw (ne_eqb v m.from p, q, get_or-set_same (set ps m.from a) m.to b 0 (omega (arith, length-set ps m.from a)), eq-eqb m.to m.to refl) (omega arith)
    go (no p) (no q) = rw (off_to q, get_or-set_other ps m.from v a 0 p, ne_eqb v m.from p, ne_eqb v m.to q)

module _ (y : Yard) (m : Move) where
  -- two nodes of which one is the other's parent: the push is over the edge of the other
  way : Wood y.parents (root y) → m.from < size y → m.to < size y → m.from ≢ m.to → ((eqb (parent y m.from) m.to) || (eqb (parent y m.to) m.from)) ≡ true
      → (b : Bool) × (c : ℕ) × (c < size y) × (c ≢ root y) × (m ≡ crossing y.parents b c)
  way w fl tl d near = go (eqb (parent y m.from) m.to) refl near
    where
      stuck : (c : ℕ) → c ≡ root y → parent y c ≡ c
      stuck c e = ap (parent y) e ∙ w.root_parent ∙ sym e

      go : (x : Bool) → eqb (parent y m.from) m.to ≡ x → (x || (eqb (parent y m.to) m.from)) ≡ true → (b : Bool) × (c : ℕ) × (c < size y) × (c ≢ root y) × (m ≡ crossing y.parents b c)
      go true q _ =
          let e : parent y m.from ≡ m.to = eqb-true (parent y m.from) m.to q in
          (false, m.from, fl, (λ x. d (sym (stuck m.from x) ∙ e)), ap (push m.from) (sym e))
      go false _ q =
          let e : parent y m.to ≡ m.from = eqb-true (parent y m.to) m.from q in
          (true, m.to, tl, (λ x. d (sym e ∙ stuck m.to x)), ap (λ (a : ℕ). push a m.to) (sym e))

  pub step : legal y m ≡ true → Step y m
  unfolding legal push_fault
  step e =
      let whole = none_all (judge y ∷ move_fault y m 0 ∷ []) (none_is _ e) in
      let f = free y m 0 whole.1.0 in
      let near = (and-eq-true_iff (not (eqb m.from m.to)) ((eqb (parent y m.from) m.to) || (eqb (parent y m.to) m.from))).0 f.near in
      let over = way (wood y whole.0) f.from_lt f.to_lt (eqb-false _ _ (not-true _ near.0)) near.1 in
      record {
        tree = whole.0;
        away = over.0;
        node = over.1;
        node_lt = over.2;
        off_root = over.3;
        is = over.4;
        holds = f.holds;
        room = f.room;
      }

  module _ (s : Step y m) where
    w : Wood y.parents (root y)
    w = wood y s.tree

    not_own : parent y s.node ≢ s.node
    not_own e = s.off_root (w.root_only s.node s.node_lt e)

    pub ends : (m.from < size y) × (m.to < size y) × (m.from ≢ m.to) × (adjacent y m.from m.to ≡ true)
    ends = rw s.is (go s.away)
      where
        go : (b : Bool) → ((crossing y.parents b s.node).from < size y) × ((crossing y.parents b s.node).to < size y)
            × ((crossing y.parents b s.node).from ≢ (crossing y.parents b s.node).to) × (adjacent y (crossing y.parents b s.node).from (crossing y.parents b s.node).to ≡ true)
        go true = (
          w.parent_lt s.node s.node_lt,
          s.node_lt,
          not_own,
          rw (ne_eqb (parent y s.node) s.node not_own, eq-eqb (parent y s.node) (parent y s.node) refl) (or-true (eqb (parent y (parent y s.node)) s.node)),
        )
        go false = (
          s.node_lt,
          w.parent_lt s.node s.node_lt,
          (λ e. not_own (sym e)),
          rw (ne_eqb s.node (parent y s.node) (λ e. not_own (sym e)), eq-eqb (parent y s.node) (parent y s.node) refl),
        )

    pub legal_step : legal y m ≡ true
    unfolding legal push_fault move_fault
    legal_step = ap is_none (all_none (judge y ∷ move_fault y m 0 ∷ []) (
      s.tree,
      (
        all_none (move_tests y m 0) (
          rw (lt-ltb m.from (size y) ends.0, lt-ltb m.to (size y) ends.1),
          (rw ends.3, (rw (lt-ltb 0 (pebble y m.from) s.holds), (rw (lt-leb (capacity y m.to) (pebble y m.to) s.room), tt))),
        ),
        tt,
      ),
    ))

    -- the edges that it crosses: that of its node
    pub crosses : (v : ℕ) → (is_down y v m ≡ (s.away && (eqb v s.node))) × (is_up y v m ≡ ((not s.away) && (eqb v s.node)))
    crosses v = rw s.is (go s.away)
      where
        both : (a b : Bool) → (a ≡ true → b ≡ true) → ((b && a) ≡ a) × ((a && b) ≡ a)
        both true b h = (rw (h refl), h refl)
        both false b h = (and-false b, refl)

        here : ((eqb (parent y s.node) (parent y v) && eqb s.node v) ≡ eqb s.node v) × ((eqb s.node v && eqb (parent y s.node) (parent y v)) ≡ eqb s.node v)
        here = both (eqb s.node v) (eqb (parent y s.node) (parent y v)) (λ e. eq-eqb _ _ (ap (parent y) (eqb-true s.node v e)))

        never : (a b : Bool) → (a ≡ true → b ≡ true → ⊥) → (a && b) ≡ false
        never true b h = not_so b (h refl)
        never false b h = refl

        back : eqb (parent y s.node) v ≡ true → eqb s.node (parent y v) ≡ true → ⊥
        back e g = no_pair w s.node v s.node_lt s.off_root (eqb-true (parent y s.node) v e) (eqb-true s.node (parent y v) g)

        go : (b : Bool) → (is_down y v (crossing y.parents b s.node) ≡ (b && (eqb v s.node))) × (is_up y v (crossing y.parents b s.node) ≡ ((not b) && (eqb v s.node)))
        go true = (here.0 ∙ eqb_sym s.node v, never _ _ back)
        go false = (never _ _ (λ e g. back g e), here.1 ∙ eqb_sym s.node v)

    pub moved_pebble : (v : ℕ) → pebble (moved y m) v + one (eqb v m.from) ≡ pebble y v + one (eqb v m.to)
    moved_pebble = shifted_at y.pebbles m (omega (arith, size_is, ends)) (omega (arith, size_is, ends)) ends.2 s.holds
      where
        size_is : length y.pebbles ≡ size y
        size_is = (facts y s.tree).pebbles_size

    pub moved_tree : Tree (moved y m)
    unfolding shifted
    moved_tree = counted_tree y s.tree (shifted y.pebbles m) y.targets long (facts y s.tree).targets_size small (facts y s.tree).target_le
      where
        long : length (shifted y.pebbles m) ≡ size y
        long = simp length-set (facts y s.tree).pebbles_size

        small : (v : ℕ) → v < size y → pebble (moved y m) v ≤ capacity y v
        small v l = go (ℕ_discrete v m.to)
          where
            go : Dec (v ≡ m.to) → pebble (moved y m) v ≤ capacity y v
            go (yes q) = omega (arith, moved_pebble v, ap one (eq-eqb v m.to q), rw (← q) at s.room)
            go (no q) = omega (arith, moved_pebble v, ap one (ne_eqb v m.to q), (facts y s.tree).pebble_le v l)

    -- to cross a edge is to leave or to enter the subtree beyond it
    pub inside_ends : (v : ℕ) → one (inside y.parents v m.from) + one (is_down y v m) ≡ one (inside y.parents v m.to) + one (is_up y v m)
    inside_ends v = rw ((crosses v).0, (crosses v).1, s.is) (go s.away)
      where
        go : (b : Bool) → one (inside y.parents v (crossing y.parents b s.node).from) + one (b && (eqb v s.node))
            ≡ one (inside y.parents v (crossing y.parents b s.node).to) + one ((not b) && (eqb v s.node))
        go true = omega (arith, one_step w v s.node s.node_lt s.off_root, ap one (eqb_sym v s.node))
        go false = omega (arith, one_step w v s.node s.node_lt s.off_root, ap one (eqb_sym v s.node))

    pub pebbles_in_moved : (v : ℕ) → pebbles_in (moved y m) v + one (is_up y v m) ≡ pebbles_in y v + one (is_down y v m)
    unfolding subtotal
    pebbles_in_moved v = omega (arith, inside_ends v, sum_shift (size y) (λ u. one (inside y.parents v u)) (pebble y) (pebble (moved y m)) m.from m.to ends.0 ends.1 moved_pebble)

    pub pebbles_in_other : (v : ℕ) → v ≢ s.node → pebbles_in (moved y m) v ≡ pebbles_in y v
    pebbles_in_other v d = omega (arith, rw ((crosses v).0, (crosses v).1, ne_eqb v s.node d, and-false s.away, and-false (not s.away)) at (pebbles_in_moved v))

    pub pebbles_in_node : pebbles_in (moved y m) s.node + one (not s.away) ≡ pebbles_in y s.node + one s.away
    pebbles_in_node = rw ((crosses s.node).0, (crosses s.node).1, eq-eqb s.node s.node refl, and-true s.away, and-true (not s.away)) at (pebbles_in_moved s.node)

    -- it crosses one edge in all, and not the root's, which is none
    pub one_edge : sum (size y) (λ v. one (is_up y v m) + one (is_down y v m)) ≡ 1
    one_edge = sum_cong (size y) _ (λ v. one (eqb v s.node) * 1) (λ v _. rw ((crosses v).0, (crosses v).1) (go v s.away)) ∙ sum_pick (size y) s.node (λ v. 1) s.node_lt
      where
        go : (v : ℕ) (b : Bool) → one ((not b) && (eqb v s.node)) + one (b && (eqb v s.node)) ≡ one (eqb v s.node) * 1
        go v true = omega arith
        go v false = omega arith

    pub root_uncrossed : (is_down y (root y) m ≡ false) × (is_up y (root y) m ≡ false)
    root_uncrossed = rw ((crosses (root y)).0, (crosses (root y)).1, ne_eqb (root y) s.node (λ e. s.off_root (sym e))) (and-false s.away, and-false (not s.away))

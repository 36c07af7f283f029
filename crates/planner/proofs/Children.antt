-- Balancing u: the loop leaves its children with a demand of 0, and they keep it while one after another is balanced; each has fewer nodes inside
-- than u. One that has no child needs no move, and one that fails a test is passed over.
use mathlib.Core.Path.{◌≡◌, refl, sym, ◌∙◌}
use mathlib.Core.Logic.{◌≢◌}
use mathlib.Core.Bool.{Bool, true, false, not, ◌&&◌}
use mathlib.Core.List.{List, [], ◌∷◌, append-nil}
use Prim.Native.Nat.{ℕ, ◌+◌, ◌<◌}
use native.Mathlib.Omega.{arith}
use lib.ListN.{get_or}
use lib.Dec.{ltb, eqb}
use borrow.Author.Tests.{eqb-true, not-false}
use Rattle.model.specs.Yard.{Yard, size, is_child, children, imbalance}
use Rattle.model.specs.Push.{Move, after, run}
use Rattle.model.specs.Plan.{needy, choice, fills}
use Rattle.laws.proofs.Basics.{none_below, below_none}
use Rattle.laws.specs.Choice.{Child}
use Rattle.laws.proofs.Judged.{wood}
use Rattle.laws.proofs.Demands.{weight, weight_child}
use Rattle.laws.proofs.Runs.{after_append}
use Rattle.laws.proofs.Shortest.{keeps}
use Rattle.laws.proofs.Choice.{choice_sound}
use Rattle.laws.specs.Algorithms.{Settles, settled}
use Rattle.laws.proofs.Balance.{Even, fills_steers, settles_good}
use Rattle.laws.proofs.Own.{sifted, BalancesIn, none, next, balances_in_cons, balances_in_good}
use Rattle.planner.specs.Balancing.{AskedEven, Settled, Balanced}
use Rattle.serve.specs.declared.state.State.{State}
use Rattle.serve.specs.declared.tree.Children.{Children}
use Rattle.serve.specs.Serving.{children_from, Lowest}
use Rattle.serve.proofs.Siblings.{from_0, none_from, child_from, some_from, next_is}
use Rattle.serve.proofs.Stretches.{rest, back, Begun, go_on, ended, describes_after, room_left}

-- the loop at u has ended, and of the children in a list those that pass are left
pub record ChildrenLeft (p : ℕ → Bool) (y : Yard) (u : ℕ) (s : State) (before plan : List ℕ) (k : ℕ) (cs : List ℕ) : Type 0 where
  pub begun : Begun y s before plan k (BalancesIn p y (u ∷ [])) (λ z. BalancesIn p z (sifted p cs))
  pub even : (c : ℕ) → Child y.parents u c → Even (run y begun.moves) c

sifted_in : (p : ℕ → Bool) (c : ℕ) (cs : List ℕ) → p c ≡ true → sifted p (c ∷ cs) ≡ c ∷ sifted p cs
unfolding sifted
sifted_in p c cs e = rw e

sifted_out : (p : ℕ → Bool) (c : ℕ) (cs : List ℕ) → p c ≡ false → sifted p (c ∷ cs) ≡ sifted p cs
unfolding sifted
sifted_out p c cs e = rw e

left_none : {p : ℕ → Bool} {y : Yard} {u : ℕ} {s : State} {before plan : List ℕ} {k : ℕ} → ChildrenLeft p y u s before plan k [] → Balanced p y u s before plan k
unfolding sifted
left_none l = record { moves = l.begun.moves; balances = ended l.begun none; made = l.begun.made }

-- the loop at u has ended, in a yard that was asked to be balanced there
pub record LoopEnded (y : Yard) (before : List ℕ) (t : Children) (s : State) (plan : List ℕ) (k u : ℕ) : Type 0 where
  pub entry : State
  pub asked : AskedEven y t entry before u
  pub loop : Settled y u s before plan k

module _ {y : Yard} {t : Children} {s₀ : State} {before : List ℕ} {u : ℕ} (a : AskedEven y t s₀ before u) where
  left_all : {p : ℕ → Bool} {s : State} {plan : List ℕ} {k : ℕ} → Settled y u s before plan k → ChildrenLeft p y u s before plan k (children y u)
  left_all v =
      let e = settles_good fills choice choice_sound v.settles a.described.tree (fills_steers y) a.node a.even in
      record { begun = record { moves = v.moves; good = e.good; made = v.made; onward = λ ns b. rw append-nil at (next v.settles b none) }; even = e.kids }

  module _ {c : ℕ} (f : Child y.parents u c) where
    pub child_lower : weight y.parents c < weight y.parents u
    child_lower = weight_child (wood y a.described.tree) u c a.node f

    module _ {p : ℕ → Bool} {s : State} {plan : List ℕ} {k : ℕ} {cs : List ℕ} (l : ChildrenLeft p y u s before plan k (c ∷ cs)) where
      -- what the next child asks, and what is left after it, if it passes
      pub child_asked : AskedEven (run y l.begun.moves) t s (rest plan k) c
      child_asked = record {
        described = describes_after a.described l.begun.good l.begun.made;
        node = f.lt;
        even = l.even c f;
        room = room_left l.begun.good a.room l.begun.made;
      }

      pub left_next : p c ≡ true → {s' : State} {part : List ℕ} {m : ℕ} → Balanced p (run y l.begun.moves) c s' (rest plan k) part m → ChildrenLeft p y u s' before (back plan k part) (k + m) cs
      unfolding go_on
      left_next q v =
          let z = child_asked in
          let g = balances_in_good p v.balances z.described.tree ((z.node, z.even), tt) in
          record {
            begun = go_on l.begun v.moves g v.made (λ ps r. rw (sifted_in p c cs q) (balances_in_cons v.balances r));
            even = λ d e. rw (after_append l.begun.moves v.moves y) (omega (arith, l.even d e, keeps (run y l.begun.moves) z.described.tree v.moves g d e.lt));
          }

-- a child that has no child itself is balanced by no move
leaf_balances : {p : ℕ → Bool} {y : Yard} {c : ℕ} {cs : List ℕ} {ns : List Move} → children y c ≡ [] → BalancesIn p y cs ns → BalancesIn p y (c ∷ cs) ns
unfolding needy after sifted
leaf_balances {p} {y} {c} e b =
    let s : Settles fills choice y c [] = settled (none_below (size y) (λ v. (is_child y.parents c v) && (ltb 0 (imbalance y v))) (λ v k. rw (below_none (size y) (is_child y.parents c) e v k))) in
    let r : BalancesIn p y (sifted p (children y c)) [] = rw e none in
    next {ms = []} {ns = []} s r b

-- a child that is not entered: it has no child itself, or fails the test
left_over : {p : ℕ → Bool} {y : Yard} {u c : ℕ} {s : State} {before plan : List ℕ} {k : ℕ} {cs : List ℕ} → ChildrenLeft p y u s before plan k (c ∷ cs) → (p c ≡ true → children y c ≡ []) → ChildrenLeft p y u s before plan k cs
left_over {p} {y} {c = c} {cs = cs} l e = record {
  begun = record { moves = l.begun.moves; good = l.begun.good; made = l.begun.made; onward = λ ns b. l.begun.onward ns (go (run y l.begun.moves) ns (p c) refl e b) };
  even = l.even;
}
  where
    go : (z : Yard) (ns : List Move) (t : Bool) → p c ≡ t → (p c ≡ true → children z c ≡ []) → BalancesIn p z (sifted p cs) ns → BalancesIn p z (sifted p (c ∷ cs)) ns
    go z ns true q f b = rw (sifted_in p c cs q) (leaf_balances (f q) b)
    go z ns false q f b = rw (sifted_out p c cs q) b

-- the children from some number on are left, and c is the lowest of them, or u itself behind the last
pub record LeftFrom (p : ℕ → Bool) (y : Yard) (u : ℕ) (s : State) (before plan : List ℕ) (k c : ℕ) : Type 0 where
  pub low : ℕ
  pub lowest : Lowest y.parents u low c
  pub left : ChildrenLeft p y u s before plan k (children_from y.parents u low)

module _ {p : ℕ → Bool} {y : Yard} {t : Children} {s₀ : State} {before : List ℕ} {u : ℕ} (a : AskedEven y t s₀ before u) {s : State} {plan : List ℕ} {k : ℕ} where
  pub left_first : Settled y u s before plan k → LeftFrom p y u s before plan k (get_or t.lowest u 0)
  left_first v = record { low = 0; lowest = a.described.tables.first u a.node; left = rw (from_0 y.parents u) (left_all a v) }

  module _ {c : ℕ} (l : LeftFrom p y u s before plan k c) where
    pub left_last : c ≡ u → Balanced p y u s before plan k
    left_last q = left_none (rw (none_from l.lowest q) at l.left)

    -- at a child: it, those behind it, and where these begin
    module _ (d : c ≢ u) where
      pub left_child : Child y.parents u c
      left_child = (child_from l.lowest d).0

      pub left_here : ChildrenLeft p y u s before plan k (c ∷ children_from y.parents u (c + 1))
      left_here = rw (some_from l.lowest d) at l.left

      pub left_behind : {s' : State} {plan' : List ℕ} {k' : ℕ} → ChildrenLeft p y u s' before plan' k' (children_from y.parents u (c + 1)) → LeftFrom p y u s' before plan' k' (get_or t.next c 0)
      left_behind f = record { low = c + 1; lowest = next_is a.described.tables left_child; left = f }

      pub left_passed : ((p c) && (not (eqb (get_or t.lowest c 0) c))) ≡ false → LeftFrom p y u s before plan k (get_or t.next c 0)
      left_passed f = left_behind (left_over left_here (λ q. sym (from_0 y.parents c) ∙ none_from (a.described.tables.first c left_child.lt) (eqb-true _ c (not-false _ (rw q at f)))))

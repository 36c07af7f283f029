-- The loop at u: on the side of the turn the child that is chosen is u itself exactly if all children have a demand of 0, because u has; else a pebble is due
-- over the edge of the chosen one.
use mathlib.Core.Path.{◌≡◌, refl, sym, ap, subst, ◌∙◌}
use mathlib.Core.Logic.{◌≢◌}
use mathlib.Core.Bool.{Bool, true, false, and-false}
use mathlib.Core.List.{List, [], ◌∷◌, ◌++◌, append-nil}
use Prim.Native.Nat.{ℕ, ◌+◌, ◌<◌}
use native.Mathlib.Nat.{add-zero}
use native.Mathlib.Omega.{arith}
use lib.ListN.{get_or}
use lib.Dec.{ltb}
use lib.IntN.{pos}
use borrow.Author.Tests.{lt-ltb, le-ltb, eq-eqb, ne_eqb}
use mir.Syntax.{w16}
use mir.Val.{of_z}
use Rattle.model.specs.Yard.{Yard, pebble, held, lacking, imbalance}
use Rattle.model.specs.Push.{Move, run}
use Rattle.model.specs.Plan.{needy, choice, fills}
use Rattle.laws.specs.Algorithms.{need, Serves, Settles, settled, turned}
use Rattle.laws.specs.Choice.{Child, Neediest}
use Rattle.laws.proofs.Shortest.{Good, keeps}
use Rattle.laws.proofs.Choice.{none_needy, neediest_other, choice_sound, fills_choice}
use Rattle.laws.proofs.Serve.{Due, Shift, serves_shift}
use Rattle.laws.proofs.Balance.{fills_steers, turn_due, first_needy}
use Rattle.serve.specs.declared.state.State.{State}
use Rattle.serve.specs.declared.tree.Children.{Children}
use Rattle.serve.specs.Serving.{Picks, AskedServe, Made, Served}
use Rattle.planner.specs.Balancing.{AskedEven, AskedTurn, TurnTaken}
use Rattle.serve.proofs.Moving.{made_nil}
use Rattle.serve.proofs.Stretches.{rest, back, made_append, describes_after, room_left, Begun, begin, go_on, ended}

-- what the loop asks, after some moves
pub even_after : {y : Yard} {ms : List Move} {t : Children} {s₀ s : State} {before plan : List ℕ} {k u : ℕ}
    → AskedEven y t s₀ before u → Good y ms → Made y ms s before plan k → AskedEven (run y ms) t s (rest plan k) u
even_after {y} {ms} {u = u} a g d = record {
  described = describes_after a.described g d;
  node = a.node;
  even = omega (arith, a.even, keeps y a.described.tree ms g u a.node);
  room = room_left g a.room d;
}

some_need : (y : Yard) (b : Bool) (v : ℕ) → 0 < need y b v → 0 < imbalance y v
some_need y true v n = omega arith
some_need y false v n = omega arith

-- the side of a turn, by what is chosen of the children that lack a pebble
pub side_held : (y : Yard) (u : ℕ) → held y u ≡ true → choice (lacking y) y u ≢ u → fills y u ≡ true
side_held y u h d = fills_choice y u ∙ rw (h, ne_eqb _ u d)

pub side_none : (y : Yard) (u : ℕ) → u ≡ choice (lacking y) y u → fills y u ≡ false
side_none y u e = fills_choice y u ∙ rw (eq-eqb _ u (sym e)) (and-false (held y u))

-- a turn at u on its side, and the child that is chosen
module _ {b : Bool} {y : Yard} {t : Children} {s : State} {plan : List ℕ} {u c : ℕ} (a : AskedEven y t s plan u) (e : fills y u ≡ b) (q : c ≡ choice (need y b) y u) where
  due_chosen : (v : ℕ) → Child y.parents u v → 0 < imbalance y v → Due y b c
  due_chosen v k n = rw q (subst (λ (x : Bool). Due y x (choice (need y x) y u)) e (turn_due fills choice choice_sound y a.described.tree (fills_steers y) u a.node a.even v k n))

  -- the loop ends
  none_chosen : c ≡ u → Settles fills choice y u []
  none_chosen f = go (needy (imbalance y) y u) refl
    where
      go : (l : List ℕ) → needy (imbalance y) y u ≡ l → Settles fills choice y u []
      go [] p = settled p
      go (v ∷ l) p =
          let n = first_needy y u v l p in
          absurd (omega (arith, a.even, some_need y b u (rw f at (due_chosen v n.0 n.1).needs)))

  module _ (d : c ≢ u) where
    -- no child needs more
    chosen_neediest : Neediest (need y b) y u c
    unfolding choice
    chosen_neediest = rw q (neediest_other (need y b) y u (λ e. d (q ∙ e)))

    chosen_needs : Child y.parents u c × (0 < need y b c)
    chosen_needs = chosen_neediest.needy

    due : Due y b c
    due = due_chosen c chosen_needs.0 (some_need y b c chosen_needs.1)

    module _ {ms : List Move} (v : Serves choice y b c ms) where
      shift : Shift y b c ms
      shift = serves_shift choice choice_sound y a.described.tree v due

      turn_settles : (ns : List Move) → Settles fills choice (run y ms) u ns → Settles fills choice y u (ms ++ ns)
      turn_settles ns f = go (needy (imbalance y) y u) refl
        where
          go : (l : List ℕ) → needy (imbalance y) y u ≡ l → Settles fills choice y u (ms ++ ns)
          go [] p = absurd (omega (arith, some_need y b c chosen_needs.1, none_needy (imbalance y) y u p c chosen_needs.0))
          go (w ∷ l) p = turned p (subst (λ (x : Bool). Serves choice y x (choice (need y x) y u) ms) (sym e) (rw q at v)) f

-- the same of a turn that is asked to fill, or to draw: no child is picked, or one is
module _ {b : Bool} {y : Yard} {t : Children} {s s₁ : State} {plan : List ℕ} {u c : ℕ} (r : AskedTurn b y t s plan u) (q : c ≡ choice (need y b) y u) (p : Picks b u c s s₁) where
  pub taken_none : c ≡ u → TurnTaken b y u s s₁ plan plan 0
  taken_none f = record { none = λ _. (sym f ∙ q, p.0 f, refl); some = λ d. absurd (d refl) }

  module _ (d : c ≢ u) where
    side : fills y u ≡ b
    side = r.side (λ e. d (q ∙ e))

    pub turn_asked : AskedServe b y t s s₁ plan u c
    turn_asked = record { described = r.asked.described; due = due r.asked side q d; chosen = chosen_neediest r.asked side q d; picked = p.1 d; room = r.asked.room }

    pub taken_some : {s' : State} {part : List ℕ} {m : ℕ} → Served b y c s' plan part m → TurnTaken b y u s s' plan part m
    taken_some {s'} {part} {m} v = record {
      none = λ e. absurd (omega (arith, e, (shift r.asked side q d v.serves).some, v.made.counted));
      some = λ _. ((λ e. d (q ∙ e)), subst (λ (w : ℕ). Served b y w s' plan part m) q v);
    }

-- what each of them asks, by what the code reads of u; and what both give
module _ {y : Yard} {t : Children} {s : State} {plan : List ℕ} {u : ℕ} (a : AskedEven y t s plan u) where
  pub draws : fills y u ≡ false → AskedTurn false y t s plan u
  draws e = record { asked = a; side = λ _. e }

  pub side_empty : of_z w16 (get_or s.pebbles u (pos 0)) ≡ 0 → fills y u ≡ false
  unfolding fills
  side_empty z = rw (le-ltb 0 (pebble y u) (omega (arith, z, ap (of_z w16) (a.described.kept.pebbles u a.node))))

  module _ (d : of_z w16 (get_or s.pebbles u (pos 0)) ≢ 0) where
    holds : held y u ≡ true
    holds = go (pebble y u) (λ z. d (ap (of_z w16) (a.described.kept.pebbles u a.node) ∙ z))
      where
        go : (p : ℕ) → (p ≡ 0 → ⊥) → ltb 0 p ≡ true
        go p n = lt-ltb 0 p (omega arith)

    pub fills_held : AskedTurn true y t s plan u
    fills_held = record { asked = a; side = side_held y u holds }

    pub filled : {s' : State} {part : List ℕ} {m : ℕ} → TurnTaken true y u s s' plan part m → m ≢ 0 → TurnTaken (fills y u) y u s s' plan part m
    filled v n = rw (side_held y u holds (v.some n).0) v

  module _ {s' : State} {part : List ℕ} {m : ℕ} (v : TurnTaken true y u s s' plan part m) where
    pub none_filled : m ≡ 0 → AskedTurn false y t s' part u
    none_filled e = let f = v.none e in rw (f.1, f.2) (draws (side_none y u f.0))

    pub drawn : m ≡ 0 → {s'' : State} {then : List ℕ} {n : ℕ} → TurnTaken false y u s' s'' part then n → TurnTaken (fills y u) y u s s'' plan then n
    drawn e w = let f = v.none e in rw (side_none y u f.0) (rw (f.1, f.2) at w)

-- some turns were made: the loop ends, or goes on
abbrev pub Turned : Yard → ℕ → State → List ℕ → List ℕ → ℕ → Type 0
Turned y u s before plan k = Begun y s before plan k (Settles fills choice y u) (λ z. Settles fills choice z u)

pub turn_first : {y : Yard} {t : Children} {s : State} {plan : List ℕ} {u : ℕ} → AskedEven y t s plan u → Turned y u s plan plan 0
turn_first {u = u} a = begin {Ahead = λ z. Settles fills choice z u} a.described.kept

module _ {y : Yard} {t : Children} {u : ℕ} {s s' : State} {before plan part : List ℕ} {k m : ℕ} (w : Turned y u s before plan k)
    (a : AskedEven (run y w.moves) t s (rest plan k) u) (v : TurnTaken (fills (run y w.moves) u) (run y w.moves) u s s' (rest plan k) part m) where
  pub turn_last : m ≡ 0 → Settles fills choice y u w.moves × Made y w.moves s' before (back plan k part) k
  turn_last e =
      let f = v.none e in
      let d : Made (run y w.moves) [] s' (rest plan k) part 0 = rw (f.1, f.2) (made_nil (run y w.moves) s (rest plan k) w.made.kept) in
      (ended w (none_chosen a refl refl (sym f.0)), rw (append-nil, add-zero) at (made_append w.made d))

  pub turn_next : m ≢ 0 → Turned y u s' before (back plan k part) (k + m)
  turn_next e = let f = v.some e in go_on w f.1.moves (shift a refl refl f.0 f.1.serves).good f.1.made (turn_settles a refl refl f.0 f.1.serves)

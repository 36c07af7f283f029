-- `free` asks the tests of a move in an order of its own: the nodes' numbers, their counts, and which is the other's parent.
use mathlib.Core.Path.{◌≡◌, refl, sym, ap, ◌∙◌}
use mathlib.Core.Logic.{◌≢◌}
use mathlib.Core.Bool.{true, not, ◌&&◌, ◌||◌, and-true}
use mathlib.Core.List.{[]}
use Prim.Native.Nat.{ℕ, ◌<◌}
use native.Mathlib.Decide.{ℕ_discrete}
use lib.ListN.{get_or}
use lib.Dec.{ltb, eqb}
use borrow.Author.Tests.{lt-ltb, le-ltb, lt-leb, le-leb, eq-eqb, ne_eqb}
use Rattle.model.specs.Yard.{Yard, yard_of, size, parent, pebble, capacity}
use Rattle.model.specs.Push.{Move, push, move_fault, is_none}
use Rattle.yard.proofs.Laws.{move_free, holds}
use Rattle.yard.proofs.step.free.Goals as goal

-- both numbers are nodes
known : (n a b : ℕ) → a < n → b < n → ((ltb a n) && (ltb b n)) ≡ true
known n a b h k = rw (lt-ltb _ _ h, lt-ltb _ _ k)

-- the first holds a pebble, and the second has a place: whether they are adjacent is left
counted : (y : Yard) (m : Move) (place : ℕ) → m.from < size y → m.to < size y → pebble y m.from ≢ 0 → pebble y m.to < capacity y m.to
    → is_none (move_fault y m place) ≡ ((not (eqb m.from m.to)) && ((eqb (parent y m.from) m.to) || (eqb (parent y m.to) m.from)))
counted y m place h k p r = rw (move_free y m place, known _ _ _ h k, holds _ p, lt-leb _ _ r)

-- where the first has another parent than the second, the two are not the same if the second's is the first
below_it : (a b p q : ℕ) → p ≢ b → (a ≡ b → p ≡ q) → ((not (eqb a b)) && (eqb q a)) ≡ eqb q a
below_it a b p q d s = go (ℕ_discrete a b)
  where
    go : Dec (a ≡ b) → ((not (eqb a b)) && (eqb q a)) ≡ eqb q a
    go (yes e) = rw (eq-eqb a b e) (sym (ne_eqb q a (λ f. d (s e ∙ f ∙ e))))
    go (no n) = rw (ne_eqb a b n) refl

pub returns-then-n-from : goal.returns-then-n-from
returns-then-n-from c place = rw (move_free _ _ place, le-ltb _ _ c.if-n-from.true)

pub returns-then-n-to : goal.returns-then-n-to
returns-then-n-to c place = rw (move_free _ _ place, lt-ltb _ _ c.if-n-from.false, le-ltb _ _ c.if-n-to.true)

pub returns-then-pebbles-from-eq0 : goal.returns-then-pebbles-from-eq0
returns-then-pebbles-from-eq0 c place = rw (move_free _ _ place, known _ _ _ c.if-n-from.false c.if-n-to.false, c.if-pebbles-from-eq0.true)

pub returns-then-pebbles-to : goal.returns-then-pebbles-to
returns-then-pebbles-to c place =
    let both = known _ _ _ c.if-n-from.false c.if-n-to.false in
    rw (move_free _ _ place, both, holds _ c.if-pebbles-from-eq0.false, le-leb _ _ c.if-pebbles-to.true)

pub returns-then-parents-from : goal.returns-then-parents-from
returns-then-parents-from c place =
    let y = yard_of c.args.parents.now c.args.pebbles.now [] c.args.depths.now in
    let m = push c.args.from c.args.to in
    let e = counted y m place c.if-n-from.false c.if-n-to.false c.if-pebbles-from-eq0.false c.if-pebbles-to.false in
    sym (e ∙ rw (eq-eqb _ _ c.if-parents-from.true) (and-true _))

pub returns : goal.returns
returns c place =
    let y = yard_of c.args.parents.now c.args.pebbles.now [] c.args.depths.now in
    let m = push c.args.from c.args.to in
    let e = counted y m place c.if-n-from.false c.if-n-to.false c.if-pebbles-from-eq0.false c.if-pebbles-to.false in
    let same = λ (q : c.args.from ≡ c.args.to). ap (λ (w : ℕ). get_or c.args.parents.now w 0) q in
    sym (e ∙ rw (ne_eqb _ _ c.if-parents-from.false) (below_it _ _ _ _ c.if-parents-from.false same))

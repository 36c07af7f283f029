-- `fault` gives the first refusal that meets the move: each return is the list of its tests up to the one that fails. The last is not asked: one is met.
use mathlib.Core.Path.{◌≡◌, sym, ◌∙◌}
use mathlib.Core.Bool.{true, not}
use mathlib.Core.List.{List, []}
use Prim.Native.Nat.{ℕ, ◌<◌}
use lib.ListN.{length, drop, get_or}
use lib.Dec.{leb}
use borrow.Author.Tests.{lt-ltb, le-ltb}
use Rattle.model.specs.Yard.{yard_of}
use Rattle.model.specs.Judge.{first_of}
use Rattle.model.specs.Push.{push, adjacent, move_tests, move_fault}
use Rattle.yard.proofs.Laws.{last_met, holds}
use Rattle.yard.proofs.step.fault.Goals as goal

-- between two adjacent nodes the tests of their counts, 12 and 13, are left
near : (ps qs ds : List ℕ) (a b place : ℕ) → a < length ps → b < length ps → adjacent (yard_of ps [] [] []) a b ≡ true
    → let y = yard_of ps qs [] ds in move_fault y (push a b) place ≡ first_of (drop 2 (move_tests y (push a b) place))
unfolding move_fault
near ps qs ds a b place h k e = rw (lt-ltb _ _ h, lt-ltb _ _ k, e)

pub returns-then-n-from : goal.returns-then-n-from
unfolding move_fault
returns-then-n-from c = rw (le-ltb _ _ c.if-n-from.true)

pub returns-then-n-to : goal.returns-then-n-to
unfolding move_fault
returns-then-n-to c = rw (lt-ltb _ _ c.if-n-from.false, le-ltb _ _ c.if-n-to.true)

pub returns-then-not-adjacent : goal.returns-then-not-adjacent
unfolding move_fault
returns-then-not-adjacent c =
    rw (lt-ltb _ _ c.if-n-from.false, lt-ltb _ _ c.if-n-to.false, sym c.adjacent.ensures ∙ c.if-not-adjacent.true)

pub returns-then-pebbles-from-eq0 : goal.returns-then-pebbles-from-eq0
returns-then-pebbles-from-eq0 c =
    let next = sym c.adjacent.ensures ∙ c.if-not-adjacent.false in
    let two = near _ c.args.pebbles.now c.args.depths.now _ _ c.args.place c.if-n-from.false c.if-n-to.false next in
    two ∙ rw c.if-pebbles-from-eq0.true

pub returns : goal.returns
returns c =
    let next = sym c.adjacent.ensures ∙ c.if-not-adjacent.false in
    let two = near _ c.args.pebbles.now c.args.depths.now _ _ c.args.place c.if-n-from.false c.if-n-to.false next in
    let held = holds _ c.if-pebbles-from-eq0.false in
    let room = not (leb (get_or c.args.depths.now c.args.to 0) (get_or c.args.pebbles.now c.args.to 0)) in
    two ∙ rw held (last_met room 13 c.args.place (rw (two, held) at c.requires.place_value))

-- `serve::pebble::extract_pebble` meets its contract: from a held v a pebble goes at once, into an empty one a pebble is drawn first from the child that is chosen (the
-- laws are in Serving), with one place less.
use mathlib.Core.Path.{◌≡◌, sym, ap, ◌∙◌}
use mathlib.Core.Bool.{true, false}
use Prim.Native.Nat.{ℕ}
use native.Mathlib.Omega.{arith}
use lib.ListN.{get_or}
use lib.IntN.{pos}
use mir.Syntax.{w16}
use mir.Val.{of_z}
use Rattle.model.specs.Yard.{Yard}
use Rattle.laws.specs.Algorithms.{blocked}
use Rattle.serve.specs.declared.state.State.{State}
use Rattle.serve.specs.declared.tree.Children.{Children}
use Rattle.serve.specs.Serving.{AskedFill}
use Rattle.serve.proofs.Serving.{half_small, half_sees, count_small, held_free, empty_blocked, one_place, one_less, up_small, chosen_up, chosen_asked, cleared_behind, cleared_here, filled_last}
use Rattle.serve.proofs.pebble.+extract_pebble.Goals as goal

-- v holds a pebble, or is empty
module _ {y : Yard} {t : Children} {s : State} {end v : ℕ} (a : AskedFill false y t s end v) where
  held : (of_z w16 (get_or s.pebbles v (pos 0)) ≡ 0 → ⊥) → blocked y false v ≡ false
  held d = held_free y v (λ e. d (ap (of_z w16) (a.halfway.pebbles v a.due.lt) ∙ e))

  empty : of_z w16 (get_or s.pebbles v (pos 0)) ≡ 0 → blocked y false v ≡ true
  empty e = empty_blocked y v (sym (ap (of_z w16) (a.halfway.pebbles v a.due.lt)) ∙ e)

pub overflow_sub-end : goal.overflow_sub-end
overflow_sub-end t c = omega (arith, one_place c.requires.1)

pub record_move-requires : goal.record_move-requires
record_move-requires t c =
    let p = c.requires in
    (up_small p.1 p.2, half_small p.1.halfway p.1.due.lt, omega (arith, one_place p.1, p.1.few))

pub offset_bounds-s-v : goal.offset_bounds-s-v
offset_bounds-s-v t c = let p = c.requires in omega (arith, half_small p.1.halfway p.1.due.lt)

pub bounds-s-v : goal.bounds-s-v
bounds-s-v t c = let p = c.requires in omega (arith, half_small p.1.halfway p.1.due.lt)

pub count_pebble-requires : goal.count_pebble-requires
count_pebble-requires t c = let p = c.requires in (half_small p.1.halfway p.1.due.lt, count_small p.1.halfway p.1.due.lt)

pub overflow_sub-result : goal.overflow_sub-result
overflow_sub-result t c = omega (arith, one_place c.requires.1)

pub returns-then-s-v-ne0 : goal.returns-then-s-v-ne0
returns-then-s-v-ne0 t c y a q =
    filled_last a (one_less a) c.told-moves q
    (rw (c.count_pebble.ensures, c.record_move.ensures) (cleared_here a (held a c.if-s-v-ne0.true)))

pub pick-c-requires : goal.pick-c-requires
pick-c-requires t c = let p = c.requires in (p.0, half_sees p.1.halfway p.1.due.lt)

pub overflow_sub-end-2 : goal.overflow_sub-end-2
overflow_sub-end-2 t c = omega (arith, one_place c.requires.1)

pub extract_pebble-requires : goal.extract_pebble-requires
extract_pebble-requires t c =
    let p = c.requires in
    let a = p.1 in
    let e = empty a (omega arith) in
    let r = c.pick-c.ensures.value p.0 (half_sees a.halfway a.due.lt) in
    let k = c.pick-c.ensures.picks in
    (omega (arith, c.decreases, one_place a), (p.0, chosen_asked a e r k (one_less a), chosen_up a e r k))

pub returns : goal.returns
returns t c y a q =
    let e = empty a (omega arith) in
    let r = c.pick-c.ensures.value y (half_sees a.halfway a.due.lt) in
    let p = c.pick-c.ensures.picks in
    let f = c.extract_pebble.ensures y (chosen_asked a e r p (one_less a)) (chosen_up a e r p) in
    filled_last a (one_less a) c.told-moves q (cleared_behind a e r p (rw c.record_move.ensures at f))

-- `serve::pebble::clear_node` and `inject_pebble` meet their contracts: a filling is the clearing of v and behind it the move for which it was cleared; a
-- free v is cleared, a full one by the filling of the child that is chosen (the laws are in Serving).
use mathlib.Core.Path.{◌≡◌, refl, ap, ◌∙◌}
use mathlib.Core.Bool.{Bool, true, not}
use Prim.Native.Nat.{ℕ}
use native.Mathlib.Omega.{arith}
use lib.Dec.{ltb}
use Rattle.model.specs.Yard.{Yard, pebble, capacity, full}
use Rattle.serve.specs.declared.state.State.{State}
use Rattle.serve.specs.declared.tree.Children.{Children}
use Rattle.serve.specs.Serving.{Room, AskedFill}
use Rattle.serve.proofs.Serving.{half_small, half_sees, room, count_small, one_place, one_less, less_one, up_small, free_full, chosen_up, chosen_asked, cleared_behind, cleared_here, filled_last}
use Rattle.serve.proofs.pebble.+clear_node_inject_pebble.Goals as goal

-- what is told of the place
told : {y : Yard} {t : Children} {s : State} {end v : ℕ} {b : Bool} → AskedFill true y t s end v
    → ((p d : ℕ) → Room s v p d → b ≡ ltb p d) → full y v ≡ not b
told {y} {b = b} a h = free_full y _ b (h (pebble y _) (capacity y _) (room a.halfway a.due.lt))

-- clearing
pub clear_node-has_place-requires : goal.clear_node-has_place-requires
clear_node-has_place-requires t c =
    let p = c.requires in
    (half_small p.1.halfway p.1.due.lt, (pebble p.0 _, capacity p.0 _, room p.1.halfway p.1.due.lt))

pub clear_node-count_pebble-requires : goal.clear_node-count_pebble-requires
clear_node-count_pebble-requires t c = let p = c.requires in (half_small p.1.halfway p.1.due.lt, count_small p.1.halfway p.1.due.lt)

pub clear_node-returns-then-has_place : goal.clear_node-returns-then-has_place
clear_node-returns-then-has_place t c y a =
    rw c.count_pebble.ensures (cleared_here a (told a c.has_place.ensures ∙ ap not c.if-has_place.true))

pub clear_node-pick-c-requires : goal.clear_node-pick-c-requires
clear_node-pick-c-requires t c = let p = c.requires in (p.0, half_sees p.1.halfway p.1.due.lt)

pub clear_node-inject_pebble-requires : goal.clear_node-inject_pebble-requires
clear_node-inject_pebble-requires t c =
    let p = c.requires in
    let a = p.1 in
    let f = told a c.has_place.ensures ∙ ap not c.if-has_place.false in
    let r = c.pick-c.ensures.value p.0 (half_sees a.halfway a.due.lt) in
    (omega (arith, c.decreases), (p.0, chosen_asked a f r c.pick-c.ensures.picks refl, chosen_up a f r c.pick-c.ensures.picks))

pub clear_node-returns : goal.clear_node-returns
clear_node-returns t c y a =
    let f = told a c.has_place.ensures ∙ ap not c.if-has_place.false in
    let r = c.pick-c.ensures.value y (half_sees a.halfway a.due.lt) in
    let p = c.pick-c.ensures.picks in
    cleared_behind a f r p (c.inject_pebble.ensures y (chosen_asked a f r p refl) (chosen_up a f r p))

-- filling
pub inject_pebble-overflow_sub-end : goal.inject_pebble-overflow_sub-end
inject_pebble-overflow_sub-end t c = omega (arith, one_place c.requires.1)

pub inject_pebble-record_move-requires : goal.inject_pebble-record_move-requires
inject_pebble-record_move-requires t c =
    let p = c.requires in
    (up_small p.1 p.2, half_small p.1.halfway p.1.due.lt, omega (arith, one_place p.1, p.1.few))

pub inject_pebble-overflow_sub-end-2 : goal.inject_pebble-overflow_sub-end-2
inject_pebble-overflow_sub-end-2 t c = omega (arith, one_place c.requires.1)

pub inject_pebble-clear_node-requires : goal.inject_pebble-clear_node-requires
inject_pebble-clear_node-requires t c =
    let p = c.requires in
    (omega (arith, c.decreases, one_place p.1), (p.0, less_one p.1))

pub inject_pebble-returns : goal.inject_pebble-returns
inject_pebble-returns t c y a q =
    filled_last a (one_less a) c.told-moves q (rw c.record_move.ensures at (c.clear_node.ensures y (less_one a)))

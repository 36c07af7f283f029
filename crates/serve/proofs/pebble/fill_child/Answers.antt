-- `serve::pebble::fill_child` meets its contract: a c with a place is filled by a single move, a full one by those that are handed over (the laws are in Serving).
use mathlib.Core.Path.{◌≡◌, ap, ◌∙◌}
use mathlib.Core.Bool.{Bool, true, not}
use mathlib.Core.List.{List}
use Prim.Native.Nat.{ℕ}
use lib.Dec.{ltb}
use Rattle.model.specs.Yard.{Yard, pebble, capacity, full}
use Rattle.serve.specs.declared.state.State.{State}
use Rattle.serve.specs.declared.tree.Children.{Children}
use Rattle.serve.specs.Serving.{AskedServe, Room}
use Rattle.serve.proofs.Serving.{room, free_full, serve_up, serve_half, serve_asked, serve_small, serve_few, serve_list, serve_one_room, serve_one, serve_all}
use Rattle.serve.proofs.pebble.fill_child.Goals as goal

-- what is told of the place
told : {y : Yard} {t : Children} {s₀ s : State} {plan : List ℕ} {u c : ℕ} {b : Bool} → AskedServe true y t s₀ s plan u c
    → ((p d : ℕ) → Room s c p d → b ≡ ltb p d) → full y c ≡ not b
told {y} {b = b} a h = free_full y _ b (h (pebble y _) (capacity y _) (room (serve_half a) a.due.lt))

pub has_place-requires : goal.has_place-requires
has_place-requires c = let a = c.requires.2 in ((serve_small a).1, (_, _, room (serve_half a) a.due.lt))

pub move_pebble-requires : goal.move_pebble-requires
move_pebble-requires c =
    let p = c.requires in
    let r = serve_small p.2 in
    (r.0, r.1, r.2, r.3, r.4, serve_one_room p.2 (told p.2 c.has_place.ensures ∙ ap not c.if-has_place.true))

pub returns-then-has_place : goal.returns-then-has_place
returns-then-has_place c y s₀ a =
    rw (c.move_pebble.ensures.s_value, c.move_pebble.ensures.plan_value)
    (serve_one a (told a c.has_place.ensures ∙ ap not c.if-has_place.true))

pub inject_pebble-k-requires : goal.inject_pebble-k-requires
inject_pebble-k-requires c = let p = c.requires in (p.0, serve_asked p.2, serve_up p.2)

pub count_pebble-requires : goal.count_pebble-requires
count_pebble-requires c =
    let p = c.requires in
    ((serve_small p.2).0, serve_few p.2 (c.inject_pebble-k.ensures p.0 (serve_asked p.2) (serve_up p.2)))

pub hand_over-requires : goal.hand_over-requires
hand_over-requires c =
    let p = c.requires in
    serve_list p.2 (c.inject_pebble-k.ensures p.0 (serve_asked p.2) (serve_up p.2))

pub returns : goal.returns
returns c y s₀ a =
    let f = c.inject_pebble-k.ensures y (serve_asked a) (serve_up a) in
    serve_all a f c.count_pebble.ensures c.hand_over.ensures.plan_value c.hand_over.ensures.k_value

-- `serve::pebble::draw_child` meets its contract: from a c that holds a pebble it goes by a single move, else by those that are handed over (the laws are in Serving).
use Rattle.laws.specs.Algorithms.{blocked}
use mathlib.Core.Path.{◌≡◌, ap, ◌∙◌}
use mathlib.Core.Bool.{false}
use mathlib.Core.List.{List}
use Prim.Native.Nat.{ℕ}
use lib.ListN.{get_or}
use lib.IntN.{pos}
use mir.Syntax.{w16}
use mir.Val.{of_z}
use Rattle.model.specs.Yard.{Yard}
use Rattle.serve.specs.declared.state.State.{State}
use Rattle.serve.specs.declared.tree.Children.{Children}
use Rattle.serve.specs.Serving.{AskedServe}
use Rattle.serve.proofs.Serving.{held_free, serve_up, serve_half, serve_asked, serve_small, serve_few, serve_list, serve_one_room, serve_one, serve_all}
use Rattle.serve.proofs.pebble.draw_child.Goals as goal

-- a c that holds a pebble
held : {y : Yard} {t : Children} {s₀ s : State} {plan : List ℕ} {u c : ℕ} → AskedServe false y t s₀ s plan u c
    → (of_z w16 (get_or s.pebbles c (pos 0)) ≡ 0 → ⊥) → blocked y false c ≡ false
held {y} a d = held_free y _ (λ e. d (ap (of_z w16) ((serve_half a).pebbles _ a.due.lt) ∙ e))

pub move_pebble-requires : goal.move_pebble-requires
move_pebble-requires c =
    let p = c.requires in
    let r = serve_small p.2 in
    (r.0, r.1, r.2, r.3, r.4, serve_one_room p.2 (held p.2 c.if-s-c-ne0.true))

pub returns-then-s-c-ne0 : goal.returns-then-s-c-ne0
returns-then-s-c-ne0 c y s₀ a =
    rw (c.move_pebble.ensures.s_value, c.move_pebble.ensures.plan_value) (serve_one a (held a c.if-s-c-ne0.true))

pub extract_pebble-k-requires : goal.extract_pebble-k-requires
extract_pebble-k-requires c = let p = c.requires in (p.0, serve_asked p.2, serve_up p.2)

pub count_pebble-requires : goal.count_pebble-requires
count_pebble-requires c =
    let p = c.requires in
    ((serve_small p.2).0, serve_few p.2 (c.extract_pebble-k.ensures p.0 (serve_asked p.2) (serve_up p.2)))

pub hand_over-requires : goal.hand_over-requires
hand_over-requires c =
    let p = c.requires in
    serve_list p.2 (c.extract_pebble-k.ensures p.0 (serve_asked p.2) (serve_up p.2))

pub returns : goal.returns
returns c y s₀ a =
    let f = c.extract_pebble-k.ensures y (serve_asked a) (serve_up a) in
    serve_all a f c.count_pebble.ensures c.hand_over.ensures.plan_value c.hand_over.ensures.k_value

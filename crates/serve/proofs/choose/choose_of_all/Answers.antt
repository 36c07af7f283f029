-- `serve::choose::choose_of_all` meets its contract: each child that is come to needs more than all before it, and behind the last of them none needs more (the laws
-- are in Looking).
use native.Mathlib.Omega.{arith}
use mathlib.Core.Logic.{◌≢◌}
use mathlib.Core.Bool.{Bool}
use Prim.Native.Nat.{ℕ, ◌<◌}
use lib.IntN.{ℤ}
use Rattle.model.specs.Yard.{Yard}
use Rattle.serve.specs.declared.state.State.{State}
use Rattle.serve.specs.declared.tree.Children.{Children}
use Rattle.serve.specs.Serving.{Sees, NextBeyond}
use Rattle.serve.proofs.Siblings.{next_is}
use Rattle.serve.proofs.Looking.{seen_small, demand_back, led_first, led_last, led_next, led_falls}
use Rattle.serve.proofs.choose.choose_of_all.Goals as goal

-- the next record is a node
node : {b : Bool} {y : Yard} {t : Children} {s : State} {u low c : ℕ} {most : ℤ}
    → Sees y t s u → NextBeyond b y u low most c → c ≢ u → c < 256
node w n d = seen_small w (n.found d).0.lt

pub bounds-t-u : goal.bounds-t-u
bounds-t-u c = omega (arith, seen_small c.requires.1 c.requires.1.node)

pub loop-u-init : goal.loop-u-init
loop-u-init c y w = led_first (w.tables.first _ w.node)

pub returns-then-c-u : goal.returns-then-c-u
returns-then-c-u c y w = let h = c.loop-u.invariant y w in led_last h (c.next_beyond-c.ensures y w _ h.lowest) c.if-c-u.true

pub loop-u-smaller : goal.loop-u-smaller
loop-u-smaller c =
    let p = c.requires in
    let h = c.loop-u.invariant p.0 p.1 in
    let n = c.next_beyond-c.ensures p.0 p.1 _ h.lowest in
    led_falls h n c.if-c-u.false (node p.1 n c.if-c-u.false)

pub loop-u-preserved : goal.loop-u-preserved
loop-u-preserved c y w =
    let h = c.loop-u.invariant y w in
    let n = c.next_beyond-c.ensures y w _ h.lowest in
    let k = (n.found c.if-c-u.false).0 in
    rw (demand_back w k, w.demands _ k) (led_next h n c.if-c-u.false (next_is w.tables k))

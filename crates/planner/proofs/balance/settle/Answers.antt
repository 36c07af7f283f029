-- `planner::balance::settle` meets its contract: after some turns the moves so far, each of which lowers the shortest length, leave a yard from which
-- the loop goes on as from the first (the laws are in Stretches and Settle).
use native.Mathlib.Omega.{arith}
use Rattle.serve.proofs.Stretches.{made_length}
use Rattle.planner.proofs.Settle.{even_after, turn_first, turn_last, turn_next}
use Rattle.planner.proofs.balance.settle.Goals as goal

pub loop-u-init : goal.loop-u-init
loop-u-init c y a = turn_first a

pub turn-m-requires : goal.turn-m-requires
turn-m-requires c =
    let p = c.requires in
    let w = c.loop-u.invariant p.0 p.1 in
    (_, even_after p.1 w.good w.made)

pub returns-then-m-eq0 : goal.returns-then-m-eq0
returns-then-m-eq0 c y a =
    let w = c.loop-u.invariant y a in
    let h = even_after a w.good w.made in
    let e = turn_last w h (c.turn-m.ensures _ h) c.if-m-eq0.true in
    record { moves = _; settles = e.0; made = e.1 }

pub overflow_add-k : goal.overflow_add-k
overflow_add-k c =
    let p = c.requires in
    let w = c.loop-u.invariant p.0 p.1 in
    let h = even_after p.1 w.good w.made in
    let b = turn_next w h (c.turn-m.ensures _ h) c.if-m-eq0.false in
    omega (arith, made_length b.good p.1.room b.made, c.well_formed)

pub loop-u-smaller : goal.loop-u-smaller
loop-u-smaller c =
    let p = c.requires in
    let w = c.loop-u.invariant p.0 p.1 in
    let h = even_after p.1 w.good w.made in
    let b = turn_next w h (c.turn-m.ensures _ h) c.if-m-eq0.false in
    omega (arith, c.if-m-eq0.false, made_length b.good p.1.room b.made)

pub loop-u-preserved : goal.loop-u-preserved
loop-u-preserved c y a =
    let w = c.loop-u.invariant y a in
    let h = even_after a w.good w.made in
    turn_next w h (c.turn-m.ensures _ h) c.if-m-eq0.false

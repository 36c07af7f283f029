-- `planner::balance::turn` meets its contract: where u is empty, or no child lacks a pebble, it is a turn that draws; else one that fills (the laws are in Settle).
use native.Mathlib.Omega.{arith}
use Rattle.serve.proofs.Looking.{node_small}
use Rattle.planner.proofs.Settle.{draws, side_empty, fills_held, filled, none_filled, drawn}
use Rattle.planner.proofs.balance.turn.Goals as goal

pub offset_bounds-s-u : goal.offset_bounds-s-u
offset_bounds-s-u c = let a = c.requires.1 in omega (arith, node_small a.described a.node)

pub bounds-s-u : goal.bounds-s-u
bounds-s-u c = let a = c.requires.1 in omega (arith, node_small a.described a.node)

pub extract_turn-requires : goal.extract_turn-requires
extract_turn-requires c =
    let p = c.requires in
    (p.0, draws p.1 (side_empty p.1 c.if-s-u-eq0.true))

pub returns-then-s-u-eq0 : goal.returns-then-s-u-eq0
returns-then-s-u-eq0 c y a =
    let e = side_empty a c.if-s-u-eq0.true in
    rw e (c.extract_turn.ensures y (draws a e))

pub inject_turn-m-requires : goal.inject_turn-m-requires
inject_turn-m-requires c =
    let p = c.requires in
    (p.0, fills_held p.1 c.if-s-u-eq0.false)

pub returns-then-m-ne0 : goal.returns-then-m-ne0
returns-then-m-ne0 c y a =
    let d = c.if-s-u-eq0.false in
    filled a d (c.inject_turn-m.ensures y (fills_held a d)) c.if-m-ne0.true

pub extract_turn-requires-2 : goal.extract_turn-requires-2
extract_turn-requires-2 c =
    let p = c.requires in
    (p.0, none_filled p.1 (c.inject_turn-m.ensures p.0 (fills_held p.1 c.if-s-u-eq0.false)) c.if-m-ne0.false)

pub returns : goal.returns
returns c y a =
    let v = c.inject_turn-m.ensures y (fills_held a c.if-s-u-eq0.false) in
    drawn a v c.if-m-ne0.false (c.extract_turn-2.ensures y (none_filled a v c.if-m-ne0.false))

-- `parts::name::find_top` meets its contract: each step comes to a node of the same part with more nodes inside, so there are at most as
-- many as nodes (the laws are in Naming).
use native.Mathlib.Omega.{arith}
use Rattle.parts.proofs.Naming.{climb_few, climb_next, climb_last}
use Rattle.parts.proofs.name.find_top.Goals as goal

pub returns-then-w-u : goal.returns-then-w-u
returns-then-w-u c y a = climb_last a (c.loop-u.invariant y a) c.if-w-u.true

pub overflow_add-k : goal.overflow_add-k
overflow_add-k c =
    let p = c.requires in
    omega (arith, climb_few p.1 (climb_next p.1 (c.loop-u.invariant p.0 p.1) c.if-w-u.false))

pub loop-u-smaller : goal.loop-u-smaller
loop-u-smaller c =
    let p = c.requires in
    omega (arith, climb_few p.1 (climb_next p.1 (c.loop-u.invariant p.0 p.1) c.if-w-u.false))

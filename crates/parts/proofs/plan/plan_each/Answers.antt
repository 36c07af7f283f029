-- `parts::plan::plan_each` meets its contract: after some nodes the moves so far are the plans of the parts whose topmost nodes are among
-- them (the laws are in Planning).
use native.Mathlib.Omega.{arith}
use Prim.Native.Nat.{◌<◌}
use Rattle.model.specs.Yard.{size}
use Rattle.serve.proofs.Stretches.{made_length}
use Rattle.laws.proofs.Demands.{weight_le}
use Rattle.parts.proofs.Planning.{parts_long, before_none, before_all, before_pass, part_asked, before_next}
use Rattle.parts.proofs.plan.plan_each.Goals as goal
use Rattle.parts.proofs.plan.plan_each.Goals.{then-parts-v, else-parts-v}

pub loop-v-init : goal.loop-v-init
loop-v-init c y a = before_none a

pub balance_subtrees-m-requires : goal.balance_subtrees-m-requires
balance_subtrees-m-requires c =
    let p = c.requires in
    let l : c.loop-v.v < size p.0 = omega (arith, c.loop-v-test.true, parts_long p.1) in
    let a = part_asked p.1 (c.loop-v.invariant p.0 p.1) l c.if-parts-v.true in
    (_, a, omega (arith, parts_long p.1, weight_le p.0.parents c.loop-v.v), omega (arith, parts_long p.1))

pub overflow_add-k : goal.overflow_add-k
overflow_add-k c =
    let p = c.requires in
    let l : c.loop-v.v < size p.0 = omega (arith, c.loop-v-test.true, parts_long p.1) in
    let b = c.loop-v.invariant p.0 p.1 in
    let n = before_next p.1 b l c.if-parts-v.true (c.balance_subtrees-m.ensures _ (part_asked p.1 b l c.if-parts-v.true)) in
    omega (arith, made_length n.good p.1.room n.made)

pub loop-v-preserved : goal.loop-v-preserved
loop-v-preserved c y a =
    let l : c.loop-v.v < size y = omega (arith, c.loop-v-test.true, parts_long a) in
    let b = c.loop-v.invariant y a in
    elim c.if-parts-v.branch [
      | then-parts-v w ↦ rw (w.s-is, w.plan-is, w.k-is) (before_next a b l w.if-parts-v.true (w.balance_subtrees-m.ensures _ (part_asked a b l w.if-parts-v.true)))
      | else-parts-v w ↦ rw (w.s-is, w.plan-is, w.k-is) (before_pass a b l w.if-parts-v.false)
    ]

pub returns : goal.returns
returns c y a = before_all a (omega (arith, c.loop-v-test.false, parts_long a)) (c.loop-v.invariant y a)

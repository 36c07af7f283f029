-- `serve::tree::tables` meets its contract: linking goes from the highest node down, and each turn is a law of linking (Links).
use Prim.Native.Nat.{◌+◌, ◌-◌, ◌<◌}
use native.Mathlib.Omega.{arith}
use mathlib.Core.Path.{◌≡◌}
use lib.ListN.{length}
use Rattle.serve.specs.Serving.{Linked}
use Rattle.serve.proofs.Links.{alone, child_link}
use Rattle.serve.proofs.tree.tables.Goals as goal

pub loop-v-init : goal.loop-v-init
loop-v-init c = alone c.unlinked-t.ensures

pub loop-v-preserved-then-p-v : goal.loop-v-preserved-then-p-v
loop-v-preserved-then-p-v c =
    let p = c.requires in
    let v = c.loop-v.v - 1 in
    let l : v < length c.args.parents.now = omega (arith, c.loop-v.auto.v, c.loop-v-test.true) in
    let e : v + 1 ≡ c.loop-v.v = omega (arith, c.loop-v-test.true) in
    let above : Linked (v + 1) c.args.parents.now c.loop-v.t = rw e c.loop-v.invariant in
    rw c.link.ensures (child_link v above l p.few (p.node v l) (λ e. omega arith))

-- `serve::choose::next_beyond` meets its contract: the scan goes through u's children in rising order, and leaves none behind that lies beyond (the laws are in
-- Looking).
use native.Mathlib.Omega.{arith}
use Prim.Native.Nat.{ℕ, ◌<◌}
use mathlib.Core.Path.{◌≡◌, sym, ◌∙◌}
use mathlib.Core.Logic.{◌≢◌}
use mathlib.Core.Bool.{Bool}
use lib.ListN.{get_or}
use lib.IntN.{ℤ, pos}
use mir.Syntax.{w16}
use mir.Val.{SFits, to_z, of_z}
use mir.ValLaws.{to_z-of_z}
use Rattle.model.specs.Yard.{Yard}
use Rattle.laws.specs.Choice.{Child}
use Rattle.serve.specs.declared.state.State.{State}
use Rattle.serve.specs.declared.tree.Children.{Children}
use Rattle.serve.specs.Serving.{beyond, Sees}
use Rattle.serve.proofs.Siblings.{next_is, ahead_falls}
use Rattle.serve.proofs.Looking.{seen_small, demand_back, Scan, scan_child, scan_found, scan_next, scan_end}
use Rattle.serve.proofs.choose.next_beyond.Goals as goal

-- the child at hand is a node
node : {b : Bool} {y : Yard} {t : Children} {s : State} {u low c : ℕ} {most : ℤ} → Sees y t s u → Scan b y u low most c → c ≢ u → c < 256
node w h d = seen_small w (scan_child h d).lt

module _ {most : ℤ} (f : SFits w16 most) where
  -- the scan so far, with the number as it was handed in
  here : {b : Bool} {y : Yard} {u low c : ℕ} → Scan b y u low (to_z w16 (of_z w16 most)) c → Scan b y u low most c
  here h = rw (to_z-of_z w16 most f) at h

  -- what is asked of the demands in 16 bits is answered for those that the state has
  answer : (b : Bool) {r : Bool} {y : Yard} {t : Children} {s : State} {u c : ℕ} → Sees y t s u → Child y.parents u c
      → r ≡ beyond b (to_z w16 (of_z w16 (get_or s.demands c (pos 0)))) (to_z w16 (of_z w16 most)) → beyond b (get_or s.demands c (pos 0)) most ≡ r
  answer b w k e = sym (rw (demand_back w k, to_z-of_z w16 most f) at e)

pub offset_bounds-s-c : goal.offset_bounds-s-c
offset_bounds-s-c c = let p = c.requires in omega (arith, node p.1 (c.loop-c.invariant p.0 p.1 p.2.0 p.2.1) c.loop-c-test.true)

pub bounds-s-c : goal.bounds-s-c
bounds-s-c c = let p = c.requires in omega (arith, node p.1 (c.loop-c.invariant p.0 p.1 p.2.0 p.2.1) c.loop-c-test.true)

pub returns-then-passes : goal.returns-then-passes
returns-then-passes c y w low a =
    let h = here c.ranges.most (c.loop-c.invariant y w low a) in
    let d = c.loop-c-test.true in
    scan_found h d w (answer c.ranges.most _ w (scan_child h d) c.passes.ensures ∙ c.if-passes.true)

pub bounds-t-c : goal.bounds-t-c
bounds-t-c c = let p = c.requires in omega (arith, node p.1 (c.loop-c.invariant p.0 p.1 p.2.0 p.2.1) c.loop-c-test.true)

pub loop-c-smaller : goal.loop-c-smaller
loop-c-smaller c =
    let p = c.requires in
    let h = c.loop-c.invariant p.0 p.1 p.2.0 p.2.1 in
    let d = c.loop-c-test.true in
    (ahead_falls d (node p.1 h d) (next_is p.1.tables (scan_child h d)))

pub loop-c-preserved : goal.loop-c-preserved
loop-c-preserved c y w low a =
    let h = here c.ranges.most (c.loop-c.invariant y w low a) in
    let d = c.loop-c-test.true in
    rw (to_z-of_z w16 c.args.most c.ranges.most)
    (scan_next h d w (answer c.ranges.most _ w (scan_child h d) c.passes.ensures ∙ c.if-passes.false))

pub returns : goal.returns
returns c y w low a = scan_end (rw c.loop-c-test.false at (here c.ranges.most (c.loop-c.invariant y w low a)))

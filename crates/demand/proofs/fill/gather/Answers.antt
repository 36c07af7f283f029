-- `gather` writes the demands of a tree. The state is `Partial` all the way: no node before v is ready, and in a climb none up to v but u, so none is left
-- where the climb ends, and in the end none at all. Each step of a climb leaves one node less that waits, so it ends.
use native.Mathlib.Omega.{arith}
use Prim.Native.Nat.{ℕ, ◌<◌}
use mathlib.Core.List.{List}
use mathlib.Core.Path.{◌≡◌, sym, ap, ◌∙◌}
use lib.IntN.{ℤ, pos, nat_abs, ◌+ℤ◌}
use lib.ListN.{length, get_or}
use mir.Syntax.{w16}
use mir.Val.{to_z, of_z}
use mir.ValLaws.{to_z-of_z}
use Rattle.model.specs.Given.{listed}
use Rattle.model.specs.Yard.{Yard, size, parent}
use Rattle.laws.proofs.Judged.{flat, shape_wood}
use Rattle.demand.proofs.Numbers.{small_fits}
use Rattle.demand.proofs.Partial.{waiting, Ready, small, starts, all_wait, parent_lt, parent_waits, waits, above_waits, fewer}
use Rattle.demand.proofs.Partial.{joined_small, adds, only, left_wood, left_meets, root_left}
use Rattle.demand.proofs.fill.gather.Goals.{After-plus}
use Rattle.demand.proofs.fill.gather.Goals as goal

-- both entries of a climb's turn are the numbers that their bits give back
held : {y : Yard} {pending : List ℕ} {list : List ℤ} {u : ℕ} → Ready y pending list u
    → to_z w16 (of_z w16 (get_or list (parent y u) (pos 0))) +ℤ to_z w16 (of_z w16 (get_or list u (pos 0)))
    ≡ get_or list (parent y u) (pos 0) +ℤ get_or list u (pos 0)
held {y} {pending} {list} {u} r = rw (back (parent y u) (parent_lt r) (above_waits r), back u r.lt (waits r))
  where
    back : (v : ℕ) → v < size y → waiting pending v ≡ 1 → to_z w16 (of_z w16 (get_or list v (pos 0))) ≡ get_or list v (pos 0)
    back v l w = to_z-of_z w16 (get_or list v (pos 0)) (small_fits (get_or list v (pos 0)) (small r.state v l w))

abbrev yard : After-plus → Yard
yard c = listed c.args.yard.now

ready : (c : After-plus) → Ready (yard c) c.loop-pending.pending c.loop-pending.list c.loop-pending.u
ready c = record { state = c.loop-pending.invariant.1; lt = c.loop-pending.invariant.0; alone = c.loop-pending-test.true }

pub loop-v-init : goal.loop-v-init
loop-v-init c =
    let a = c.args in
    let y = listed a.yard.now in
    let f = flat y c.requires.0 in
    let counted = c.count_children-pending.ensures in
    let long : length c.own.new.list ≡ size y = c.own.auto.list ∙ c.requires.1 in (
      starts y _ _ f (omega (arith, f.few.1, counted.0)) long (λ v l. counted.1 v (omega (arith, f.few.1)))
          (λ v l. c.own.ensures v (omega (arith, c.requires.1))),
      (λ w l. absurd (omega arith)),
      all_wait y c.count_children-pending.result (λ v l. omega (arith, counted.1 v (omega (arith, f.few.1)))),
    )

pub plus-requires : goal.plus-requires
plus-requires c =
    let a = c.args in
    let y = listed a.yard.now in
    let l = c.loop-pending in
    let r : Ready y l.pending l.list l.u = record { state = l.invariant.1; lt = l.invariant.0; alone = c.loop-pending-test.true } in
    omega (arith, ap nat_abs (held r), joined_small r)

pub overflow_sub-pending : goal.overflow_sub-pending
overflow_sub-pending c = omega (arith, parent_waits (ready c))

pub overflow_sub-left : goal.overflow_sub-left
overflow_sub-left c = omega (arith, c.loop-pending.invariant.3, fewer (ready c))

pub loop-pending-smaller : goal.loop-pending-smaller
loop-pending-smaller c = omega (arith, c.loop-pending.invariant.3, fewer (ready c))

pub loop-pending-preserved : goal.loop-pending-preserved
loop-pending-preserved c =
    let i = c.loop-pending.invariant in
    let r = ready c in
    let sum = to_z-of_z w16 c.plus.result (record { sfits = c.plus.type_inv }) ∙ c.plus.ensures ∙ held r in
    (parent_lt r, adds r sum, (λ w l. only r w (i.2 w l)), omega (arith, i.3, fewer r))

pub returns : goal.returns
returns c =
    let a = c.args in
    let y = listed a.yard.now in
    let i = c.loop-v.invariant in
    let none : (w : ℕ) → w < size y → get_or c.loop-v.pending w 0 ≡ 1 → ⊥ = λ w k. i.1 w (omega arith) in
    record {
      long = i.0.long;
      shape = λ e. shape_wood (left_wood i.0 none (sym i.2 ∙ e)).1 y.pebbles y.targets y.depths;
      tree = λ t. i.2 ∙ root_left i.0 none t;
      meets = λ e. left_meets i.0 none (sym i.2 ∙ e);
    }

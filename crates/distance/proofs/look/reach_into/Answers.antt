-- `distance::look::reach_into` meets its contract: node by node the mark is written and counted (the laws are in Pebbles).
use mathlib.Core.Path.{◌≡◌, refl, ap, ◌∙◌}
use mathlib.Core.Bool.{Bool, true, false, ◌&&◌}
use mir.Val.{bool_byte}
use Rattle.model.specs.Yard.{one}
use native.Mathlib.Omega.{arith}
use lib.ListN.{get_or}
use lib.Dec.{leb, ltb}
use Rattle.laws.proofs.Basics.{one_le}
use Rattle.distance.proofs.Pebbles.{as_many, reach_none, reach_next, reach_all}
use Rattle.distance.proofs.look.reach_into.Goals as goal

pub loop-v-init : goal.loop-v-init
loop-v-init c = (omega arith, λ y a q e. reach_none q e)

pub bounds-far-v : goal.bounds-far-v
bounds-far-v c = omega (arith, as_many c.requires.1.1)

pub bounds-list-v : goal.bounds-list-v
bounds-list-v c =
    let p = c.requires in
    let q = p.1.1 in
    omega (arith, as_many q, (c.loop-v.invariant.1 p.0 p.1.0 q p.1.2).long)

pub loop-v-preserved : goal.loop-v-preserved
loop-v-preserved c =
    let s = c.args in
    let held = (ltb 0 (get_or s.pebbles.now c.loop-v.v 0)) && (leb (get_or s.far.now c.loop-v.v 0) s.reach) in
    let mark : c.from-mark.result ≡ one held = c.from-mark.ensures ∙ as_one c.holds_within.result ∙ ap one c.holds_within.ensures in (
      omega (arith, mark, one_le held, c.loop-v.invariant.0),
      λ y a q e. reach_next q (c.loop-v.invariant.1 y a q e) (omega (arith, c.loop-v-test.true, as_many q)) mark,
    )
  where
    as_one : (b : Bool) → bool_byte b ≡ one b
    as_one true = refl
    as_one false = refl

pub returns : goal.returns
returns c =
    let i = c.loop-v.invariant in record {
      value = λ y a q e. (reach_all q (i.1 y a q e) (omega (arith, c.loop-v-test.false, as_many q))).0;
      list_value = λ y a q e. (reach_all q (i.1 y a q e) (omega (arith, c.loop-v-test.false, as_many q))).1;
    }

-- `distance::far::far_away` meets its contract: it climbs from v to a node that is known (the laws are in Climbing), in a tree one edge
-- nearer with each step (Marking).
use mathlib.Core.Path.{◌≡◌, refl, ◌∙◌}
use mathlib.Core.Bool.{Bool, true, false}
use native.Mathlib.Numerals.{add-one}
use native.Mathlib.Omega.{arith}
use Prim.Native.Nat.{ℕ, ◌<◌}
use lib.Dec.{ltb}
use borrow.Author.Tests.{ltb-true, lt-ltb}
use Rattle.std.proofs.Common.{Some}
use Rattle.std.specs.Bool.{then_some}
use Rattle.std.specs.Option.{IfSome}
use Rattle.laws.proofs.Distance.{distance_lt}
use Rattle.distance.specs.Far.{here, unknown, Climbs}
use Rattle.distance.proofs.Climbing.{up_more}
use Rattle.distance.proofs.Marking.{few, as_long, up_is, rise_few, rise_next}
use Rattle.distance.proofs.far.far_away.Goals as goal

pub loop-climbed-init : goal.loop-climbed-init
loop-climbed-init c =
    let l = c.requires.2 in
    (l, here, λ y a f p. record { node = omega (arith, l, as_long f); far = omega arith })

pub loop-climbed-preserved : goal.loop-climbed-preserved
loop-climbed-preserved c =
    let i = c.loop-climbed.invariant in (
      c.requires.0.node c.loop-climbed.u i.0,
      rw add-one (up_more i.1),
      λ y a f p. rw (up_is f c.loop-climbed.u) (rise_next f p (i.2 y a f p) c.if-list-u-ne256.false),
    )

-- what is below 256 is answered, and nothing else
if_below : (P : ℕ → Type 0) (far : ℕ) → (far < 256 → P far) → IfSome (then_some (ltb far 256) far) P
if_below P far h = go (ltb far 256) refl
  where
    go : (b : Bool) → ltb far 256 ≡ b → IfSome (then_some b far) P
    go true e = h (ltb-true far 256 e)
    go false e = tt

is_below : (far d : ℕ) → far ≡ d → d < 256 → then_some (ltb far 256) far ≡ Some d
is_below far d e l = rw (e, lt-ltb d 256 l) refl

pub returns-then-list-u-ne256 : goal.returns-then-list-u-ne256
returns-then-list-u-ne256 c =
    let i = c.loop-climbed.invariant in
    let a = c.args in
    record {
      upper_bound = rw c.then_some.ensures (if_below (λ far. (far < unknown) × Climbs a.parents.now a.list.now a.v far) _
          (λ l. (l, record { to = _; steps = _; up = i.1; lt = i.0; known = c.if-list-u-ne256.true; few = omega arith })));
      value = λ y b f p.
          let r = i.2 y b f p in
          let most = distance_lt y f.tree b a.v f.node (omega (arith, c.requires.2, as_long f)) in
          c.then_some.ensures ∙ is_below _ _ (omega (arith, p.known _ r.node c.if-list-u-ne256.true, r.far)) (omega (arith, most, few f));
    }

pub returns : goal.returns
returns c = record {
  upper_bound = tt;
  value = λ y a f p.
      let r = c.loop-climbed.invariant.2 y a f p in
      absurd (omega (arith, rise_few f (omega (arith, c.requires.2, as_long f)) r, as_long f));
}

-- `judge::test::test_shape` meets its contract: the searches answer the lowest root, the lowest node that does not climb to it, and the next root, or none.
use native.Mathlib.Omega.{arith}
use mathlib.Core.Path.{refl}
use Rattle.laws.proofs.Tests.{no_root, second_root, on_circle, shape_pass}
use Rattle.lists.proofs.Found.{some_is, none_is}
use Rattle.judge.proofs.test.test_shape.Goals as goal

pub returns-in_default : goal.returns-in_default
returns-in_default c = no_root c.args.parents.now _ refl (none_is _ _ c.in_default.ensures)

pub returns-in_default-first_circle : goal.returns-in_default-first_circle
returns-in_default-first_circle c =
    let r = some_is _ _ _ c.in-Some.ensures in
    shape_pass c.args.parents.now _ r.0 (omega (arith, r)) _ refl (none_is _ _ c.in_default-first_circle.ensures)

pub returns-in-Some-first_own : goal.returns-in-Some-first_own
returns-in-Some-first_own c =
    let r = some_is _ _ _ c.in-Some.ensures in
    let s = some_is _ _ _ c.in-Some-first_own.ensures in
    second_root c.args.parents.now _ r.0 (omega (arith, r)) _ s.0 (omega (arith, s)) refl

pub returns : goal.returns
returns c =
    let r = some_is _ _ _ c.in-Some.ensures in
    let s = some_is _ _ _ c.in-Some-first_circle.ensures in
    on_circle c.args.parents.now _ r.0 (omega (arith, r)) _ s.0 _ refl (none_is _ _ c.in_default-first_own.ensures) (omega (arith, s))

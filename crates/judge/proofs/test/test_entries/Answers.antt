-- `judge::test::test_entries` meets its contract: each search answers the lowest node that the next test refuses, or none.
use mathlib.Core.Path.{refl}
use native.Mathlib.Omega.{arith}
use Rattle.laws.proofs.Tests.{pebbles_over, targets_over, parent_outside, entries_pass}
use Rattle.lists.proofs.Found.{some_is, none_is}
use Rattle.judge.proofs.test.test_entries.Goals as goal

pub returns-in-Some-first_below : goal.returns-in-Some-first_below
returns-in-Some-first_below c =
    let z = c.args.yard.now in
    let d = none_is _ _ (rw c.requires.2 at c.in_default.ensures) in
    let s = some_is _ _ _ (rw c.requires.2 at c.in-Some-first_below.ensures) in
    pebbles_over z.parents.now z.pebbles.now z.targets.now z.depths.now _ refl d _ s.0 (omega (arith, s))

pub returns-in-Some-first_below-2 : goal.returns-in-Some-first_below-2
returns-in-Some-first_below-2 c =
    let z = c.args.yard.now in
    let d = none_is _ _ (rw c.requires.2 at c.in_default.ensures) in
    let p = none_is _ _ (rw c.requires.2 at c.in_default-first_below.ensures) in
    let s = some_is _ _ _ (rw c.requires.2 at c.in-Some-first_below-2.ensures) in
    targets_over z.parents.now z.pebbles.now z.targets.now z.depths.now _ refl d _ refl p _ s.0 (omega (arith, s))

pub returns-in-Some-first_at_least : goal.returns-in-Some-first_at_least
returns-in-Some-first_at_least c =
    let z = c.args.yard.now in
    let d = none_is _ _ (rw c.requires.2 at c.in_default.ensures) in
    let p = none_is _ _ (rw c.requires.2 at c.in_default-first_below.ensures) in
    let t = none_is _ _ (rw c.requires.2 at c.in_default-first_below-2.ensures) in
    let s = some_is _ _ _ c.in-Some-first_at_least.ensures in
    parent_outside z.parents.now z.pebbles.now z.targets.now z.depths.now _ refl d _ refl p _ refl t _ s.0 (omega (arith, s))

pub returns : goal.returns
returns c =
    let z = c.args.yard.now in
    let d = none_is _ _ (rw c.requires.2 at c.in_default.ensures) in
    let p = none_is _ _ (rw c.requires.2 at c.in_default-first_below.ensures) in
    let t = none_is _ _ (rw c.requires.2 at c.in_default-first_below-2.ensures) in
    entries_pass z.parents.now z.pebbles.now z.targets.now z.depths.now _ refl d _ refl p _ refl t _ refl (none_is _ _ c.in_default-first_at_least.ensures)

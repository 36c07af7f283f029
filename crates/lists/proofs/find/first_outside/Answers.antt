-- `first_outside`: if no entry is any way outside, none is; else the first one met is the lowest, and past the end there is none.
use Prim.Native.Nat.{ℕ, ◌-◌, max, ◌<◌, ◌≤◌}
use mathlib.Core.Path.{◌≡◌, refl}
use mathlib.Core.Bool.{true}
use native.Mathlib.Omega.{arith}
use lib.ListN.{get_or}
use borrow.Author.Tests.{le-leb, lt-leb}
use Rattle.laws.proofs.Sums.{most_le}
use Rattle.lists.proofs.Found.{some_found, none_found}
use Rattle.lists.proofs.find.first_outside.Invariants.{outside}
use Rattle.lists.proofs.find.first_outside.Goals as goal
use Rattle.lists.proofs.find.first_outside.Goals.{then-x-low-via-then-x-low, then-x-low-via-else-x-low+then-x-high}

too_low : (low high x : ℕ) → x < low → outside low high x ≡ true
too_low low high x l = rw (lt-leb low x l)

too_high : (low high x : ℕ) → low ≤ x → high < x → outside low high x ≡ true
too_high low high x h l = rw (le-leb low x h, lt-leb x high l)

pub returns-then-farthest_outside-eq0 : goal.returns-then-farthest_outside-eq0
returns-then-farthest_outside-eq0 c =
    let a = c.args in
    none_found _ _ (λ v l.
    let near = most_le (λ w. max (a.low - get_or a.list.now w 0) (get_or a.list.now w 0 - a.high)) _ v l in
    rw (le-leb a.low (get_or a.list.now v 0) (omega (arith, c.farthest_outside.ensures, c.if-farthest_outside-eq0.true, near)), le-leb (get_or a.list.now v 0) a.high (omega (arith, c.farthest_outside.ensures, c.if-farthest_outside-eq0.true, near))) refl)

pub returns : goal.returns
returns c = none_found _ _ (λ v l. c.loop-i.invariant v (omega arith))

pub returns-then-x-low : goal.returns-then-x-low
returns-then-x-low c =
    some_found _ _ _ (omega arith) c.loop-i.invariant
    (elim c.then-x-low.branch [ then-x-low-via-then-x-low w ↦ too_low _ _ _ w.if-x-low.true | then-x-low-via-else-x-low+then-x-high w ↦ too_high _ _ _ w.if-x-low.false w.if-x-high.true ])

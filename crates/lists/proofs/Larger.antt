-- The library's `max` of two numbers, in the definitions' word.
use mathlib.Core.Path.{◌≡◌, refl}
use mathlib.Core.Bool.{Bool, true, false, cond}
use Prim.Native.Nat.{ℕ, max}
use native.Mathlib.Omega.{arith}
use lib.Dec.{ltb, eqb}
use borrow.Author.Tests.{ltb-true, ltb-false}
use Rattle.std.proofs.Common.{Less, Equal, Greater}
use Rattle.std.specs.Ordering.{ord_max, nat_cmp, is_lt}

pub max_is : (a b : ℕ) → ord_max nat_cmp a b ≡ max a b
max_is a b = go (ltb b a) refl (eqb b a)
  where
    go : (p : Bool) → ltb b a ≡ p → (q : Bool) → cond (is_lt (cond p Less (cond q Equal Greater))) a b ≡ max a b
    go true l q = omega (arith, ltb-true b a l)
    go false l true = omega (arith, ltb-false b a l)
    go false l false = omega (arith, ltb-false b a l)

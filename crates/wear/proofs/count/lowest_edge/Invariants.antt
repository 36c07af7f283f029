-- `lowest_edge`: no entry before has so many, so the first one met is the lowest, and past the end there is none.
use mathlib.Core.Path.{◌≡◌}
use mathlib.Core.Bool.{false}
use Prim.Native.Nat.{ℕ, ◌<◌}
use lib.ListN.{get_or}
use lib.Dec.{eqb}
use Rattle.wear.proofs.count.lowest_edge.Given as goal

abbrev pub invariant-loop-v : goal.invariant-loop-v
invariant-loop-v l = (u : ℕ) → u < l.v → eqb (get_or l.counts u 0) l.crossings ≡ false

-- `own` writes the differences: the entries below v are those of their marks, since a turn writes entry v, as `difference` gives it, and no other.
use Prim.Native.Nat.{ℕ, ◌<◌}
use mathlib.Core.Path.{◌≡◌}
use lib.IntN.{pos, sub_ℕ}
use lib.ListN.{get_or}
use Rattle.demand.proofs.fill.own.Given as goal

abbrev pub invariant-loop-v : goal.invariant-loop-v
invariant-loop-v l = (u : ℕ) → u < l.v → get_or l.list u (pos 0) ≡ sub_ℕ (get_or l.targets u 0) (get_or l.pebbles u 0)

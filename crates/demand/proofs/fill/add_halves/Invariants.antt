-- `add_halves` adds: the numbers below u are 1 and their two counts, since a turn writes entry u and no other. That is 257 at most and fits.
use Prim.Native.Nat.{ℕ, ◌+◌, ◌<◌}
use mathlib.Core.Path.{◌≡◌}
use lib.ListN.{length, get_or}
use Rattle.demand.proofs.fill.add_halves.Given as goal

abbrev pub invariant-loop-u : goal.invariant-loop-u
invariant-loop-u l =
    (length l.pending ≡ 256) × ((i : ℕ) → i < l.u → get_or l.pending i 0 ≡ 1 + get_or l.counts i 0 + get_or l.counts (256 + i) 0)

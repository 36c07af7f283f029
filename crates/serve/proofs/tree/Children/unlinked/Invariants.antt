-- What is known in the loop of `serve::tree::Children::unlinked`: the nodes below v are entered.
use mathlib.Core.Path.{◌≡◌}
use Prim.Native.Nat.{ℕ, ◌<◌}
use lib.ListN.{length, get_or}
use Rattle.serve.proofs.tree.Children.unlinked.Given as goal

abbrev pub invariant-loop-v : goal.invariant-loop-v
invariant-loop-v l = (length l.lowest ≡ 256) × ((u : ℕ) → u < l.v → get_or l.lowest u 0 ≡ u)

-- What is known in the loop of `serve::choose::next_beyond`: no child passed lies beyond, and the one at hand comes next.
use Prim.Native.Nat.{ℕ}
use Rattle.model.specs.Yard.{Yard}
use Rattle.serve.specs.Serving.{Sees, Lowest}
use Rattle.serve.proofs.Siblings.{ahead}
use Rattle.serve.proofs.Looking.{Scan}
use Rattle.serve.proofs.choose.next_beyond.Given as goal

abbrev pub invariant-loop-c : goal.invariant-loop-c
invariant-loop-c l = (y : Yard) → Sees y l.t l.s l.u → (low : ℕ) → Lowest y.parents l.u low l.from → Scan l.away y l.u low l.most l.c

abbrev pub decreases-loop-c : goal.decreases-loop-c
decreases-loop-c l = ahead l.u l.c

-- `parts::name::find_top` meets its contract: each step comes to a node of the same part with more nodes inside, so there are at most as
-- many as nodes (the laws are in Naming).
use Prim.Native.Nat.{◌-◌}
use lib.ListN.{length}
use Rattle.model.specs.Yard.{Yard}
use Rattle.parts.specs.Naming.{AskedName}
use Rattle.parts.proofs.Naming.{Climbing}
use Rattle.parts.proofs.name.find_top.Given as goal

abbrev pub invariant-loop-u : goal.invariant-loop-u
invariant-loop-u l = (y : Yard) → AskedName y l.parts l.v → Climbing y l.v l.u l.k

abbrev pub decreases-loop-u : goal.decreases-loop-u
decreases-loop-u l = length l.parts - l.k

-- `parts::name::cut_edges` meets its contract: with each turn the entry of one node more is written (the laws are in Naming).
use Rattle.parts.specs.Naming.{Cut}
use Rattle.parts.proofs.name.cut_edges.Given as goal

abbrev pub invariant-loop-v : goal.invariant-loop-v
invariant-loop-v l = Cut l.parents l.demands l.parts l.v

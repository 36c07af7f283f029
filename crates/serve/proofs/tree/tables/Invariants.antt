-- What is known in the loop of `serve::tree::tables`: the nodes from v on are linked.
use Rattle.serve.specs.Serving.{Linked}
use Rattle.serve.proofs.tree.tables.Given as goal

abbrev pub invariant-loop-v : goal.invariant-loop-v
invariant-loop-v l = Linked l.v l.parents l.t

-- `fill` gathers a list that meets equation 2 at every node of a tree: the list of the demands.
use Rattle.model.specs.Given.{listed}
use Rattle.laws.proofs.Judged.{tree_lists}
use Rattle.laws.proofs.Equation2.{only_demands}
use Rattle.demand.proofs.fill.fill.Goals as goal

pub gather-requires : goal.gather-requires
gather-requires c =
    let a = c.args in
    let y = listed a.yard.now.lists in
    (tree_lists y a.yard.now.tree, c.requires)

pub returns : goal.returns
returns c =
    let a = c.args in
    let y = listed a.yard.now.lists in
    let e = c.gather.ensures in
    (only_demands y a.yard.now.tree _ e.long).0 (e.meets (e.tree a.yard.now.tree))

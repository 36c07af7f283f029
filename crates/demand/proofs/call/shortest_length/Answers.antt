-- `shortest_length` sums the sizes of what `fill` has written: the demands of all nodes, in the first n entries of an array of 256.
use native.Mathlib.Omega.{arith}
use mathlib.Core.Path.{sym, ◌∙◌}
use lib.ListN.{length-append}
use lib.Seq.{length-take-le}
use Rattle.model.specs.Given.{listed}
use Rattle.demand.proofs.Answers.{demands_room, demands_long, demands_front, demands_small, demands_sum}
use Rattle.demand.proofs.call.shortest_length.Goals as goal

pub slice_bounds-list-end : goal.slice_bounds-list-end
slice_bounds-list-end c =
    let a = c.args in
    let y = listed a.yard.now.lists in
    demands_room y a.yard.now.tree

pub slice_bounds-fill-end : goal.slice_bounds-fill-end
slice_bounds-fill-end c =
    let a = c.args in
    let y = listed a.yard.now.lists in
    sym (length-take-le _ _ (demands_room y a.yard.now.tree))

pub fill-requires : goal.fill-requires
fill-requires c =
    let a = c.args in
    let y = listed a.yard.now.lists in
    length-take-le _ _ (demands_room y a.yard.now.tree)

pub slice_bounds-list-end-2 : goal.slice_bounds-list-end-2
slice_bounds-list-end-2 c =
    let a = c.args in
    let y = listed a.yard.now.lists in
    simp length-append (omega (arith, demands_long y c.fill.ensures))

pub slice_bounds-sizes-end : goal.slice_bounds-sizes-end
slice_bounds-sizes-end c =
    let a = c.args in
    let y = listed a.yard.now.lists in
    sym (length-take-le _ _ (simp length-append (omega (arith, demands_long y c.fill.ensures))))

pub sizes-requires : goal.sizes-requires
sizes-requires c =
    let a = c.args in
    let y = listed a.yard.now.lists in
    demands_small y a.yard.now.tree (demands_front y _ c.fill.ensures)

pub returns : goal.returns
returns c =
    let a = c.args in
    let y = listed a.yard.now.lists in
    c.sizes.ensures ∙ demands_sum y (demands_front y _ c.fill.ensures)

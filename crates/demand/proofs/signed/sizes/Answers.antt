-- `sizes` is the sum of the sizes, place by place.
use Rattle.std.proofs.Common.{rules, ◌≡◌, ◌∙◌, nat_abs}
use Rattle.std.specs.List.{sum_by}
use Rattle.std.proofs.iter.runs.Made.{chains}
use Rattle.demand.proofs.Lists.{sum_by_place}
use Rattle.demand.proofs.signed.sizes.Goals as goal

pub returns : goal.returns
returns c =
    let e : c.sum.result ≡ sum_by nat_abs c.args.list.now = search (rules, chains) in
    e ∙ sum_by_place nat_abs c.args.list.now

-- `distance::far::measure` meets its contract: what is filled tells the parents of a tree, and of a tree the distances; else the shape's
-- test finds the refusal.
use native.Mathlib.Omega.{arith}
use mathlib.Core.Path.{sym, ◌∙◌}
use mathlib.Core.List.{[]}
use lib.ListN.{length, drop, get_or-append}
use lib.Seq.{length-take-le, drop_at}
use Rattle.laws.proofs.Judged.{shape_wood}
use Rattle.distance.proofs.Marking.{as_long}
use Rattle.distance.proofs.far.measure.Goals as goal

pub returns-then-fill : goal.returns-then-fill
returns-then-fill c =
    let w = c.fill.ensures.by_index c.if-fill.true in
    let n = length c.args.parents.now in
    let long = c.fill.auto.list ∙ length-take-le n c.args.list.now (omega (arith, c.requires.2, c.requires.0.few)) in record {
      result_value = sym (shape_wood w.1 [] [] []);
      distances = λ y f v l.
          let front = get_or-append c.fill.new.list (drop n c.args.list.now) 0 v (omega (arith, long, as_long f)) in
          front ∙ (c.fill.ensures.value y f).1 v l;
      list_value = drop_at c.fill.new.list _ n long;
    }

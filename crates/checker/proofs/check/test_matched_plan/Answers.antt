-- `checker::check::test_matched_plan` meets its contract: it refuses a plan by its length, then by its moves and the yard at the end.
use mathlib.Core.Path.{sym, ◌∙◌}
use Rattle.checker.proofs.Laws.{whole, not_whole, check_bytes, check_moves}
use Rattle.checker.proofs.check.test_matched_plan.Goals as goal

pub returns-then-not-whole_plan : goal.returns-then-not-whole_plan
returns-then-not-whole_plan c =
    let w = c.whole_plan in
    let t = c.args.yard.now.tree in
    sym (check_bytes _ t c.requires _ _ (not_whole w.result w.ensures (rw c.if-not-whole_plan.true)))

pub returns : goal.returns
returns c =
    let w = c.whole_plan in
    let e = whole w.result w.ensures (rw c.if-not-whole_plan.false) in
    c.obey_to_end.ensures ∙ sym (check_moves _ c.args.yard.now.tree c.requires _ e)

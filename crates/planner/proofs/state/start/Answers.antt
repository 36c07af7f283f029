-- `planner::state::start` meets its contract: the yard is tested while its demands are gathered,
-- and beside the demands of one that passes the rest of the state is placed (`placed_kept`).
use mathlib.Core.Path.{sym, ◌∙◌}
use native.Mathlib.Omega.{arith}
use Rattle.laws.proofs.Judged.{facts}
use Rattle.laws.proofs.Calls.{matched_tree}
use Rattle.demand.proofs.Answers.{then_front}
use Rattle.planner.proofs.Planning.{placed_kept}
use Rattle.planner.proofs.state.start.Goals as goal

pub place-requires : goal.place-requires
place-requires c =
    let f = facts _ (matched_tree _ (sym c.in_ok-tree.ensures.result_value)).0 in
    (omega (arith, f.few, f.pebbles_size), f.depths_size ∙ sym f.pebbles_size)

pub returns-clause-kept : goal.returns-clause-kept
returns-clause-kept c e =
    let t = (matched_tree _ e).0 in
    placed_kept _ t _ _ (then_front _ _ c.matched_demands.ensures.list_value t) c.place.ensures

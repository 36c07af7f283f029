-- `demands` is refused as the lists are, and then if its own list has another length than theirs; or else `fill`, whose requirements these
-- tests are, writes the demands.
use native.Mathlib.Omega.{arith}
use mathlib.Core.Path.{sym}
use Rattle.model.specs.Given.{listed}
use Rattle.model.specs.Calls.Demands.{demands_of}
use Rattle.laws.proofs.Refused.{passed_on}
use Rattle.demand.proofs.Answers.{refuses, accepts, demands_refused, demands_length, demands_none}
use Rattle.demand.proofs.call.demands.Goals as goal

pub returns-in_err-tree : goal.returns-in_err-tree
returns-in_err-tree c =
    let a = c.args in
    let y = listed a.yard.now in
    let e = demands_refused y a.list.now (sym c.in_err-tree.ensures.result_value) in record {
      result_value = passed_on _ _ c.from_residual.ensures.1 (refuses a.list.now (demands_of y) e).0;
      list_value = (refuses a.list.now (demands_of y) e).1;
    }

pub returns-then-list-yard : goal.returns-then-list-yard
returns-then-list-yard c =
    let a = c.args in
    let y = listed a.yard.now in
    let e = demands_length y a.list.now (sym c.in_ok-tree.ensures.result_value) (λ e. omega arith) in record {
      result_value = (refuses a.list.now (demands_of y) e).0;
      list_value = (refuses a.list.now (demands_of y) e).1;
    }

pub returns : goal.returns
returns c =
    let a = c.args in
    let y = listed a.yard.now in
    let e = demands_none y a.list.now (sym c.in_ok-tree.ensures.result_value) (omega arith) in record {
      result_value = (accepts a.list.now e (rw c.in_ok-tree.ensures.tree_value at c.fill.ensures)).0;
      list_value = (accepts a.list.now e (rw c.in_ok-tree.ensures.tree_value at c.fill.ensures)).1;
    }

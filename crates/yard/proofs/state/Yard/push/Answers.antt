-- `push` of a state of more than 256 nodes is refused, as its yard is. Of a smaller one the first entries of the arrays are its yard, and what
-- a push leaves there is what `state_after` holds.
use mathlib.Core.Path.{sym, ap, ◌∙◌}
use borrow.Author.Rules.{rules}
use Rattle.model.specs.Push.{push, legal}
use Rattle.yard.specs.State.{yard_in}
use Rattle.yard.proofs.Laws.{push_refused}
use Rattle.yard.proofs.States.{yard_in_large, Roomy, yard_in_front, yard_in_after, front_pushed}
use Rattle.yard.proofs.state.Yard.push.Goals as goal

pub returns-then-size-gt-MAX : goal.returns-then-size-gt-MAX
unfolding legal
returns-then-size-gt-MAX c =
    let e = push_refused _ (push c.args.from c.args.to) (yard_in_large c.args.self c.if-size-gt-MAX.true) in
    record { answer_value = sym e; yard_value = rw e; yard_value_2 = rw e }

pub returns : goal.returns
returns c =
    let s = c.args.self in
    -- the arrays have 256 entries, so the first `size` of them are there
    let within : Roomy s = search rules in
    let after = front_pushed s within _ _ c.push_lists-answer.ensures.pebbles_value in
    record {
      answer_value = rw (yard_in_front s within) c.push_lists-answer.ensures.result_value;
      yard_value = ap yard_in after ∙ yard_in_after s _;
      yard_value_2 = after;
    }

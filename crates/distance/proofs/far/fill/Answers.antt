-- `distance::far::fill` meets its contract: node by node what is not known yet is climbed for and written; where all are known the parents
-- are a tree's (the laws are in Climbing and Marking).
use mathlib.Core.Path.{refl, sym, ◌∙◌}
use mathlib.Core.Bool.{false≢true}
use native.Mathlib.Omega.{arith}
use Rattle.distance.proofs.Climbing.{filled_next, all_wood}
use Rattle.distance.proofs.Marking.{as_long}
use Rattle.distance.proofs.far.fill.Goals as goal

pub returns-then-not-know : goal.returns-then-not-know
returns-then-not-know c = record {
  by_index = λ q. absurd (false≢true q);
  value = λ y f.
      let here = c.loop-v.invariant.1 y f (c.mark_way.ensures.value y f).1 in
      absurd (false≢true (sym c.if-not-know.true ∙ (c.know.ensures.value y _ f here).0));
}

pub loop-v-preserved : goal.loop-v-preserved
loop-v-preserved c = (
  filled_next c.loop-v.invariant.0 (c.know.ensures.list_len.1 c.if-not-know.false),
  λ y f p. (c.know.ensures.value y _ f (c.loop-v.invariant.1 y f p)).1,
)

pub returns : goal.returns
returns c =
    let h = c.loop-v.invariant.0 in record {
      by_index = λ _. (h.root, all_wood c.requires.0 h.rooted (λ w k. h.below w (omega (arith, c.loop-v-test.false))));
      value = λ y f.
          let here = c.loop-v.invariant.1 y f (c.mark_way.ensures.value y f).1 in
          (refl, λ w k. here.known w k (h.below w (omega (arith, c.loop-v-test.false, as_long f))));
    }

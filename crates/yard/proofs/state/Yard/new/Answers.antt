-- `new` makes the state of the fresh yard: three arrays of zeros, one with a 1 in front, and the size 1. Cut at 1 they are the fresh yard's lists, and those continued by
-- zeros are the arrays: both sides of each equation compute to the same.
use mathlib.Core.Path.{refl}
use Rattle.yard.specs.State.{padded}
use Rattle.yard.proofs.state.Yard.new.Goals as goal

pub returns : goal.returns
unfolding padded
returns c = record { result_value = refl; value = refl; parents_len = refl }

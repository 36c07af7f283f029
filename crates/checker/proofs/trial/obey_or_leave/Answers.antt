-- `obey_or_leave` obeys a copy in the first entries of an array, one for each node, and copies them back if no move is refused.
use mathlib.Core.Path.{sym, ◌∙◌}
use Rattle.laws.proofs.Judged.{facts}
use Rattle.checker.proofs.Laws.{front_zeros, came_back}
use Rattle.checker.proofs.trial.obey_or_leave.Goals as goal

pub slice_bounds-counts-end : goal.slice_bounds-counts-end
slice_bounds-counts-end c = (facts _ c.requires.0).few.1

pub slice_bounds-obey_copy-end : goal.slice_bounds-obey_copy-end
slice_bounds-obey_copy-end c = sym (front_zeros _ (facts _ c.requires.0).few.1)

pub obey_copy-requires : goal.obey_copy-requires
obey_copy-requires c =
    let f = facts _ c.requires.0 in
    record { plan_len = c.requires.1; counts_len = front_zeros _ f.few.1 ∙ sym f.pebbles_size }

pub slice_bounds-counts-end-2 : goal.slice_bounds-counts-end-2
slice_bounds-counts-end-2 c = (came_back _ _ (facts _ c.requires.0).few.1 c.obey_copy.auto.counts).fits

pub slice_bounds-copy_from_slice-end : goal.slice_bounds-copy_from_slice-end
slice_bounds-copy_from_slice-end c = (came_back _ _ (facts _ c.requires.0).few.1 c.obey_copy.auto.counts).long

pub copy_from_slice-requires : goal.copy_from_slice-requires
copy_from_slice-requires c =
    let f = facts _ c.requires.0 in
    f.pebbles_size ∙ (came_back _ _ f.few.1 c.obey_copy.auto.counts).long

-- `obey_copy` obeys a copy: the counts are the pebbles where `obey` begins.
use Rattle.checker.proofs.obey.obey_copy.Goals as goal

pub obey-requires : goal.obey-requires
obey-requires c = rw c.copy_from_slice.ensures.after (c.args.yard.now.tree, c.requires.plan_len)

pub returns : goal.returns
returns c = record {
  result_value = rw c.copy_from_slice.ensures.after at c.obey.ensures.result_value;
  counts_value = rw c.copy_from_slice.ensures.after at c.obey.ensures.pebbles_value;
}

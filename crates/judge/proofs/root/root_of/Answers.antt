-- `root_of`: the search of a tree finds its root.
use borrow.Author.Rules.{rules}
use Rattle.judge.proofs.Rooted.{root_is_found}
use Rattle.judge.proofs.root.root_of.Goals as goal

pub unwrap-requires : goal.unwrap-requires
unwrap-requires c = let e = root_is_found _ c.args.yard.now.tree c.first_own.ensures in search rules

pub returns : goal.returns
returns c = let e = root_is_found _ c.args.yard.now.tree c.first_own.ensures in search rules

-- `parts::name::name_node` meets its contract: what is written at once is the topmost node (`short_once`), and so is what a climb finds.
use Rattle.parts.proofs.name.name_node.Goals as goal

pub shorten-requires : goal.shorten-requires
shorten-requires c = let p = c.requires in (p.0, c.find_top-top.ensures p.0 p.1)

pub returns : goal.returns
returns c y a = c.shorten.ensures y (c.find_top-top.ensures y a)

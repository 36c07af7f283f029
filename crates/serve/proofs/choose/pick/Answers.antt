-- `serve::choose::pick` meets its contract: where a child is chosen, its demand is in range.
use Rattle.serve.proofs.Looking.{seen_small, chosen_child, in_range}
use Rattle.serve.proofs.choose.pick.Goals as goal

pub note_served-requires : goal.note_served-requires
note_served-requires c =
    let p = c.requires in
    let k = chosen_child p.0 c.args.away c.args.u c.choose-c.result (c.choose-c.ensures p.0 p.1) c.if-c-u.false in
    (seen_small p.1 p.1.node, seen_small p.1 k.lt, in_range p.1 k)

-- `serve::choose::choose` meets its contract: the entry for the child served last says which of the two ways is right.
use mathlib.Core.Path.{◌≡◌}
use mathlib.Core.Logic.{◌≢◌}
use mathlib.Core.Bool.{Bool}
use Prim.Native.Nat.{ℕ}
use lib.ListN.{get_or}
use lib.IntN.{pos}
use Rattle.model.specs.Yard.{Yard}
use Rattle.serve.specs.declared.state.State.{State}
use Rattle.serve.specs.declared.tree.Children.{Children}
use Rattle.serve.specs.Serving.{lasts, Sees, AskedAfter}
use Rattle.serve.proofs.Looking.{seen_small, last_entry, last_read}
use Rattle.serve.proofs.choose.choose.Goals as goal

-- the child served last
asked : {b : Bool} {y : Yard} {t : Children} {s : State} {u c : ℕ}
    → Sees y t s u → get_or (lasts b s) u (pos 0) ≡ pos c → c ≢ u → AskedAfter b y t s u c
asked {b} w e d = record { sees = w; last = last_read b w e d }

pub last_served-last-requires : goal.last_served-last-requires
last_served-last-requires c = let p = c.requires in (seen_small p.1 p.1.node, last_entry c.args.away p.1)

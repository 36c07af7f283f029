-- `wear::count::obey_and_count` meets its contract. Invariant of the first loop: the moves made are obeyed and counted. Of the second: from
-- stretch to stretch the crossings are shifted, and the worst so far stays unless the edge that came in has more (the laws are in Wearing).
use mathlib.Core.List.{List}
use Prim.Native.Nat.{ℕ, ◌≤◌}
use Rattle.model.specs.Yard.{yard_of}
use Rattle.model.specs.Judge.{Tree}
use Rattle.wear.proofs.Wearing.{Obeying, Entries, Sliding, edge_since}
use Rattle.wear.proofs.count.obey_and_count.Given as goal

abbrev pub invariant-loop-i : goal.invariant-loop-i
invariant-loop-i l =
    let y = yard_of l.parents l.initial.pebbles l.targets l.depths in
    (l.i ≤ l.width) × Obeying y l.plan l.i l.pebbles × Entries y l.plan l.i 0 l.counts

-- for whichever pebbles the moves began with, as the second loop does not see them
abbrev pub invariant-loop-gone : goal.invariant-loop-gone
invariant-loop-gone l =
    let o = l.initial in
    let edge = edge_since l.parents l.plan l.width l.worst in
    (qs : List ℕ) → let y = yard_of l.parents qs l.targets l.depths in
    Tree y → Sliding y l.plan l.width o.pebbles o.counts o.most o.first (edge o.first) o.gone
    → Sliding y l.plan l.width l.pebbles l.counts l.most l.first (edge l.first) l.gone

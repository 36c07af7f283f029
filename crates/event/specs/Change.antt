-- What an event finds and changes, by counts and entries.
use Rattle.std.specs.Prelude.{◌≡◌, Bool, cond, List, map, ℕ, ◌≤◌, length, ltb, ℤ, pos, negsuc, nat_abs, ◌+ℤ◌}
use Rattle.model.specs.declared.Event.{Event}
use Rattle.model.specs.declared.Event.TheVariants.{PebbleArrives, PebbleLeaves, TargetSet, TargetCleared}
use Rattle.model.specs.Yard.{Yard, max_demand, inside, entry}
use Rattle.model.specs.Judge.{Tree}
use Rattle.model.specs.Calls.Answers.{range}
use Rattle.model.specs.Calls.Events.{differ}

-- two lists have different entries at a place
abbrev pub differ_at : List ℤ → List ℤ → ℕ → Bool
differ_at list other v = differ (entry list v) (entry other v)

-- the parents are those of a tree
abbrev pub Rails : List ℕ → Type 0
Rails parents = (y : Yard) × Tree y × (y.parents ≡ parents)

-- no entry is outside the range of demands
abbrev pub Small : List ℤ → Type 0
Small list = (v : ℕ) → nat_abs (entry list v) ≤ max_demand

-- an event can happen at a node with these counts and this depth
abbrev pub can : Event → ℕ → ℕ → ℕ → Bool
can PebbleArrives pebble target depth = ltb pebble depth
can PebbleLeaves pebble target depth = ltb 0 pebble
can TargetSet pebble target depth = ltb target depth
can TargetCleared pebble target depth = ltb 0 target

-- what it adds to an entry
abbrev pub step_of : Event → ℤ
step_of PebbleArrives = negsuc 0
step_of PebbleLeaves = pos 1
step_of TargetSet = pos 1
step_of TargetCleared = negsuc 0

-- the list once the entries on the way from v to the root have stepped
unfoldable pub stepped_after : List ℕ → ℤ → ℕ → List ℤ → List ℤ
stepped_after parents by v list = map (λ u. cond (inside parents u v) (entry list u +ℤ by) (entry list u)) (range 0 (length parents))

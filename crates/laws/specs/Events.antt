-- Requests 2.5, 2.8 and 2.10: which events can happen at a node of a tree, and one that meets no refusal before 23.
use Rattle.std.specs.Prelude.{◌≡◌, true, ◌↔◌, List, length, ℤ, ℕ, ◌<◌}
use Rattle.model.specs.declared.Event.{Event}
use Rattle.model.specs.declared.Event.TheVariants.{PebbleArrives, PebbleLeaves, TargetSet, TargetCleared}
use Rattle.model.specs.Yard.{Yard, size, pebble, target}
use Rattle.model.specs.Judge.{Tree}
use Rattle.model.specs.Calls.Events.{altered, possible}

-- one more can come exactly if the yard with it passes refusals 1 to 6 again, and one can go exactly if there is one
abbrev pub CanHappen : Yard → Event → ℕ → Type 0
CanHappen y PebbleArrives v = Tree (altered y PebbleArrives v)
CanHappen y PebbleLeaves v = 0 < pebble y v
CanHappen y TargetSet v = Tree (altered y TargetSet v)
CanHappen y TargetCleared v = 0 < target y v

-- what is not refused with 20 is just that
abbrev pub JustPossible : Yard → Type 0
JustPossible y = Tree y → (v : ℕ) → v < size y → (e : Event) → (possible y e v ≡ true) ↔ CanHappen y e v

-- the yard is a tree (1 to 6), the list has an entry for each node (2), the node is one of the yard (19), and the event finds what it takes, or a place (20)
pub record Ready (y : Yard) (list : List ℤ) (e : Event) (v : ℕ) : Type 0 where
  pub tree : Tree y
  pub long : length list ≡ size y
  pub node_lt : v < size y
  pub can : possible y e v ≡ true

-- What planning the parts asks and gives.
use Rattle.std.specs.Prelude.{◌≡◌, List, map, ℕ, ◌*◌, ◌≤◌, length}
use Rattle.model.specs.Yard.{Yard, size, shortest, Matched}
use Rattle.model.specs.Parts.{topmost, parts_plan}
use Rattle.model.specs.Calls.Answers.{overwrite, range}
use Rattle.model.specs.Calls.Plans.{bytes}
use Rattle.serve.specs.declared.state.State.{State}
use Rattle.serve.specs.declared.tree.Children.{Children}
use Rattle.serve.specs.Serving.{Describes}

-- tables and state of a tree with as many pebbles as targets, room for all moves, and for each node its topmost node
pub record AskedParts (y : Yard) (t : Children) (s : State) (plan parts : List ℕ) : Type 0 where
  pub described : Describes y t s
  pub matched : Matched y
  pub room : 2 * shortest y ≤ length plan
  pub named : parts ≡ map (topmost y) (range 0 (size y))

-- the parts' plans at the front of the list
pub record PlannedParts (y : Yard) (before after : List ℕ) (count : ℕ) : Type 0 where
  pub written : after ≡ overwrite (bytes (parts_plan y)) before
  pub counted : count ≡ length (parts_plan y)

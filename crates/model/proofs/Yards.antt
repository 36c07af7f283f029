-- The yards A and B of document 01 ('Yards worked by hand'), and small yards by the nodes that hold a pebble or are targets.
use mathlib.Core.List.{List, [], ◌∷◌}
use Prim.Native.Nat.{ℕ}
use lib.ListN.{length, set, replicate}
use lib.IntN.{ℤ, pos, negsuc}
use Rattle.model.specs.Yard.{Yard, yard_of}

-- a list of n marks with a 1 at some nodes
unfoldable pub marks : ℕ → List ℕ → List ℕ
marks n [] = replicate n 0
marks n (v ∷ vs) = set (marks n vs) v 1

-- a yard by its parents, the nodes that hold a pebble and the target nodes, all of depth 1
unfoldable pub yard : List ℕ → List ℕ → List ℕ → Yard
yard parents pebbles targets = yard_of parents (marks (length parents) pebbles) (marks (length parents) targets) (replicate (length parents) 1)

-- A
unfoldable pub yard_a : Yard
yard_a = yard (0 ∷ 0 ∷ 0 ∷ 1 ∷ 1 ∷ []) (1 ∷ 3 ∷ []) (2 ∷ 4 ∷ [])

-- its demands
unfoldable pub demands_a : List ℤ
demands_a = pos 0 ∷ negsuc 0 ∷ pos 1 ∷ negsuc 0 ∷ pos 1 ∷ []

-- B, and its plan
unfoldable pub yard_b : Yard
yard_b = yard (0 ∷ 0 ∷ 1 ∷ []) (0 ∷ 1 ∷ []) (1 ∷ 2 ∷ [])

unfoldable pub plan_b : List ℕ
plan_b = 1 ∷ 2 ∷ 0 ∷ 1 ∷ []

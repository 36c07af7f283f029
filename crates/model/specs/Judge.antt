-- Refusals 1 to 6 of document 01 ('Refusals with an example each'): the first that meets a yard, with its place, or none; and 7.
use Rattle.std.specs.Prelude.{◌≡◌, Bool, true, false, not, ◌&&◌, List, [], ◌∷◌, ◌++◌, ℕ, ◌≤◌, ◌<◌, length, leb, ltb, eqb}
use Rattle.std.proofs.Math.Option.{Option, none, some}
use Rattle.model.specs.Yard.{Yard, size, max_size, max_depth, up, parent, pebble, target, capacity, below, climbs, roots, root, pebbleCount, targetCount}

-- a refusal: its number in the table, and its place
pub record Fault : Type 0 where
  pub number : ℕ
  pub place : ℕ

-- the last number of the table; 3 and 21, which requests 2.10 and 2.8 took out, have no row
abbrev pub row_count : ℕ
row_count = 28

abbrev pub row : ℕ → ℕ → Fault
row n p = record { number = n; place = p }

abbrev pub fault : ℕ → ℕ → Option Fault
fault n p = some (row n p)

-- the first refusal of a list
abbrev pub first_of : List (Option Fault) → Option Fault
first_of [] = none
first_of (none ∷ fs) = first_of fs
first_of (some f ∷ fs) = some f

-- a refusal that a passed test takes away
abbrev pub unless : Bool → Option Fault → Option Fault
unless true f = none
unless false f = f

-- refusal `number` at the lowest of these nodes
abbrev pub at_lowest : ℕ → List ℕ → Option Fault
at_lowest number [] = none
at_lowest number (v ∷ vs) = fault number v

-- 1: n is 0 or above 256
abbrev pub size_fault : Yard → Option Fault
size_fault y = unless ((ltb 0 (size y)) && (leb (size y) max_size)) (fault 1 0)

-- 2: a list's length is not n
abbrev pub length_fault : Yard → Option Fault
length_fault y = unless ((eqb (length y.pebbles) (size y)) && ((eqb (length y.targets) (size y)) && (eqb (length y.depths) (size y)))) (fault 2 0)

-- 5: no root, or several: place 0, or the second-lowest root
abbrev pub root_fault : List ℕ → Option Fault
root_fault [] = fault 5 0
root_fault (r ∷ []) = none
root_fault (r ∷ s ∷ rs) = fault 5 s

-- refusals 1 to 6, of which 26 and 27 are two wherever these are named (request 2.10), in three groups. The lengths: 1 and 2
abbrev pub length_tests : Yard → List (Option Fault)
length_tests y = size_fault y ∷ length_fault y ∷ []

-- the entries, each at the lowest such node: 26, a depth that no node has; 27, more pebbles than the depth, and after these more targets (request 2.10 has them where
-- 3 was); 4, a parent of n or more
abbrev pub entry_tests : Yard → List (Option Fault)
entry_tests y =
    at_lowest 26 (below (size y) (λ v. not ((ltb 0 (capacity y v)) && (leb (capacity y v) max_depth))))
    ∷ at_lowest 27 (below (size y) (λ v. ltb (capacity y v) (pebble y v)))
    ∷ at_lowest 27 (below (size y) (λ v. ltb (capacity y v) (target y v)))
    ∷ at_lowest 4 (below (size y) (λ v. leb (size y) (parent y v)))
    ∷ []

-- both: refusals 1 to 4, on what the lists say entry by entry
abbrev pub list_tests : Yard → List (Option Fault)
list_tests y = length_tests y ++ entry_tests y

-- the shape: 5, and 6, a circle, at the lowest node from which climbing does not reach the root (in n steps: so in none, `never_root`)
abbrev pub shape_tests : Yard → List (Option Fault)
shape_tests y = root_fault (roots y.parents) ∷ at_lowest 6 (below (size y) (λ v. not (climbs (size y) y.parents v (root y)))) ∷ []

-- all of them, in their order
abbrev pub tests : Yard → List (Option Fault)
tests y = list_tests y ++ shape_tests y

unfoldable pub judge : Yard → Option Fault
judge y = first_of (tests y)

-- what passes all of them is a tree ('The words of demand 3')
abbrev pub Tree : Yard → Type 0
Tree y = judge y ≡ none

-- 19: a number handed to a call for a node is n or more (requests 2.5 and 2.7)
abbrev pub node_fault : Yard → ℕ → Option Fault
node_fault y v = unless (ltb v (size y)) (fault 19 0)

-- 7: the totals of pebbles and targets differ, so the yard has no plan
abbrev pub totals_fault : Yard → Option Fault
totals_fault y = unless (eqb (pebbleCount y) (targetCount y)) (fault 7 0)

-- refusals 1 to 7: a yard that passes is a tree with as many pebbles as targets
abbrev pub matched_tests : Yard → List (Option Fault)
matched_tests y = judge y ∷ totals_fault y ∷ []

unfoldable pub matched_fault : Yard → Option Fault
matched_fault y = first_of (matched_tests y)

-- what refusals 1 and 4 leave of a list of parents: at most 256, each of them a node
pub record Parents (parents : List ℕ) : Type 0 where
  pub few : length parents ≤ max_size
  pub node : (v : ℕ) → v < length parents → up parents v < length parents

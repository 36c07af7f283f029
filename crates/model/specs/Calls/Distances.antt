-- The nearest call and the reach call (request 2.7): the pebble nearest to a node, and the pebbles within reach of it.
use Rattle.std.specs.Prelude.{Bool, ◌&&◌, List, [], ◌∷◌, map, ℕ, length, leb, ltb, eqb}
use Rattle.std.proofs.Math.Option.{Option}
use Rattle.model.specs.Yard.{Yard, size, held, one, sum, below, lowest, pebbleCount}
use Rattle.model.specs.Judge.{Fault, fault, first_of, unless, judge, node_fault}
use Rattle.model.specs.Calls.Answers.{Answer, answer, lent, range}
use Rattle.model.specs.Distance.{distance}

-- w holds a pebble and is nearer to a than v is; the nodes of which that holds
abbrev pub is_nearer : Yard → ℕ → ℕ → ℕ → Bool
is_nearer y a v w = (held y w) && (ltb (distance y a w) (distance y a v))

abbrev pub nearer_than : Yard → ℕ → ℕ → List ℕ
nearer_than y a v = below (size y) (is_nearer y a v)

-- the pebble nearest to a: the lowest node that holds one and than which no other that does is nearer
unfoldable pub nearest : Yard → ℕ → ℕ
nearest y a = lowest (size y) (λ v. (held y v) && (eqb (length (nearer_than y a v)) 0))

-- The nearest call answers its node and how far that is
pub record Nearest : Type 0 where
  pub node : ℕ
  pub distance : ℕ

abbrev pub nearestOf : Yard → ℕ → Nearest
nearestOf y a = record { node = nearest y a; distance = distance y a (nearest y a) }

-- 22, the yard holds no pebble
abbrev pub empty_fault : Yard → Option Fault
empty_fault y = unless (ltb 0 (pebbleCount y)) (fault 22 0)

-- refusals 1 to 6; 19, the node is n or more; 22
abbrev pub nearest_tests : Yard → ℕ → List (Option Fault)
nearest_tests y a = judge y ∷ node_fault y a ∷ empty_fault y ∷ []

unfoldable pub nearest_fault : Yard → ℕ → Option Fault
nearest_fault y a = first_of (nearest_tests y a)

abbrev pub nearest_answer : Yard → ℕ → Answer Nearest
nearest_answer y a = answer (nearest_fault y a) (nearestOf y a)

-- v holds a pebble and is at most so many edges away
unfoldable pub inReach : Yard → ℕ → ℕ → ℕ → Bool
inReach y a reach v = (held y v) && (leb (distance y a v) reach)

-- The reach call writes 1 for each such node and 0 elsewhere, and answers how many they are; refusals 1 to 6; 2, the list has another length than n; 19
abbrev pub reach_tests : Yard → List ℕ → ℕ → List (Option Fault)
reach_tests y list a = judge y ∷ unless (eqb (length list) (size y)) (fault 2 0) ∷ node_fault y a ∷ []

unfoldable pub reach_fault : Yard → List ℕ → ℕ → Option Fault
reach_fault y list a = first_of (reach_tests y list a)

abbrev pub reach_list : Yard → List ℕ → ℕ → ℕ → List ℕ
reach_list y list a reach = lent (reach_fault y list a) (map (λ v. one (inReach y a reach v)) (range 0 (size y))) list

abbrev pub reach_count : Yard → ℕ → ℕ → ℕ
reach_count y a reach = sum (size y) (λ v. one (inReach y a reach v))

abbrev pub reach_answer : Yard → List ℕ → ℕ → ℕ → Answer ℕ
reach_answer y list a reach = answer (reach_fault y list a) (reach_count y a reach)

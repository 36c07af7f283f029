-- What filling a list of demands begins with, and what it comes to.
use Rattle.std.specs.Prelude.{◌≡◌, List, [], ℕ, ◌+◌, ◌<◌, length, get_or, replicate, eqb, ℤ, pos}
use Rattle.std.proofs.Math.Option.{Option, none, some}
use Rattle.std.proofs.Math.IntN.{sub_ℕ}
use Rattle.model.specs.Yard.{Yard, size, up, one, sum, Equation2}
use Rattle.model.specs.Judge.{Fault, first_of, list_tests, shape_tests, Tree}
use Rattle.model.specs.Calls.Answers.{overwrite}
use Rattle.model.specs.Calls.Demands.{demands_of}

-- the first n entries are target minus pebble of their nodes
abbrev pub Differences : List ℕ → List ℕ → ℕ → List ℤ → Type 0
Differences targets pebbles n list = (v : ℕ) → v < n → get_or list v (pos 0) ≡ sub_ℕ (get_or targets v 0) (get_or pebbles v 0)

-- each node waits for itself and for each node whose parent it is
abbrev pub Pending : List ℕ → List ℕ → Type 0
Pending parents pending = (length pending ≡ 256) × ((v : ℕ) → v < 256 → get_or pending v 0 ≡ 1 + sum (length parents) (λ c. one (eqb (up parents c) v)))

-- one node is left over exactly of a tree's parents, and then the list meets equation 2 at every node
pub record Gathered (y : Yard) (left : ℕ) (list : List ℤ) : Type 0 where
  pub long : length list ≡ size y
  pub shape : left ≡ 1 → first_of (shape_tests y) ≡ none
  pub tree : Tree y → left ≡ 1
  pub meets : left ≡ 1 → (v : ℕ) → v < size y → Equation2 y list v

-- What is written at the front of a lent list, by the first refusal of the lists (1, 2, 26, 27, 4) and of the parents' shape (5, 6): nothing if the lists are
-- refused, zeros if the shape is, and else the demands.
abbrev pub frontOf : Option Fault → Option Fault → Yard → List ℤ
frontOf (some _) _ y = []
frontOf none (some _) y = replicate (size y) (pos 0)
frontOf none none y = demands_of y

-- what the list then holds
abbrev pub demands_then : Yard → List ℤ → List ℤ
demands_then y list = overwrite (frontOf (first_of (list_tests y)) (first_of (shape_tests y)) y) list

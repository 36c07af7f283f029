-- How far two nodes lie apart, in edges (tracks along the rails; request 2.7).
use Rattle.std.specs.Prelude.{◌≡◌, Bool, true, false, ◌||◌, List, [], ◌∷◌, ℕ, zero, suc, ◌<◌, eqb}
use Rattle.model.specs.Yard.{Yard, size, below, lowest}
use Rattle.model.specs.Push.{adjacent}

-- one of some nodes passes a test
unfoldable pub any_of : (ℕ → Bool) → List ℕ → Bool
any_of p [] = false
any_of p (c ∷ cs) = (p c) || (any_of p cs)

-- the nodes that an edge joins to a
abbrev pub neighbours : Yard → ℕ → List ℕ
neighbours y a = below (size y) (adjacent y a)

-- from a one comes to b over at most k edges: b is a itself, or from a neighbour of a one comes to it over one edge less
unfoldable pub reaches : ℕ → Yard → ℕ → ℕ → Bool
reaches zero y a b = eqb a b
reaches (suc k) y a b = (eqb a b) || (any_of (λ c. reaches k y c b) (neighbours y a))

-- the distance of a and b: the least number of edges over which one comes from a to b (in a tree there is one below n)
unfoldable pub distance : Yard → ℕ → ℕ → ℕ
distance y a b = lowest (size y) (λ k. reaches k y a b)

-- a walk from a to b: the nodes that it comes to one after another, each joined by an edge to the one before
pub data Walk (y : Yard) : ℕ → List ℕ → ℕ → Type 0 where
  here : {a : ℕ} → Walk y a [] a
  on : {a b c : ℕ} {cs : List ℕ} → c < size y → adjacent y a c ≡ true → Walk y c cs b → Walk y a (c ∷ cs) b

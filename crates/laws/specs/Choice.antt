-- Request 2.6: which child the planner chooses, said without searching for it.
use Rattle.std.specs.Prelude.{◌≡◌, ◌≢◌, List, ℕ, ◌≤◌, ◌<◌, length}
use Rattle.model.specs.Yard.{Yard, up}

-- c is a child of u
pub record Child (parents : List ℕ) (u c : ℕ) : Type 0 where
  pub lt : c < length parents
  pub up : up parents c ≡ u
  pub other : c ≢ u

-- that needs something
abbrev pub Needy : (ℕ → ℕ) → Yard → ℕ → ℕ → Type 0
Needy need y u c = Child y.parents u c × (0 < need c)

-- r is the child that `neediest_child` chooses: no child needs more, and those with a lower number need less
pub record Neediest (need : ℕ → ℕ) (y : Yard) (u r : ℕ) : Type 0 where
  pub needy : Needy need y u r
  pub most : (v : ℕ) → Child y.parents u v → need v ≤ need r
  pub first : (v : ℕ) → Child y.parents u v → v < r → need v < need r

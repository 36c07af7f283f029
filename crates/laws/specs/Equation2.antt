-- Request 2.3: what equation 2 says of the demands.
use Rattle.std.specs.Prelude.{◌≡◌, ◌↔◌, List, ℕ, ◌<◌, length, ℤ}
use Rattle.model.specs.Yard.{Yard, size, Equation2}
use Rattle.model.specs.Judge.{Tree}
use Rattle.model.specs.Calls.Demands.{demands_of}

-- on a tree they are the only list of n numbers that meets it at every node, whatever the totals
abbrev pub OnlyDemands : Yard → Type 0
OnlyDemands y = Tree y → (ks : List ℤ) → length ks ≡ size y → ((v : ℕ) → v < size y → Equation2 y ks v) ↔ (ks ≡ demands_of y)

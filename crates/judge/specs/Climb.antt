-- Climbing in a list of parents, and the nodes of a climb by their place in it.
use Rattle.std.specs.Prelude.{◌≡◌, Bool, true, false, not, List, ◌⊎◌, ℕ, zero, suc, ◌<◌, length, get_or}
use Rattle.model.specs.Yard.{up, climbs}

-- climbing from v does not reach the root
abbrev pub lost : List ℕ → ℕ → ℕ → Bool
lost parents root v = not (climbs (length parents) parents v root)

-- the node k parents above v
unfoldable pub above : ℕ → List ℕ → ℕ → ℕ
above zero parents v = v
above (suc k) parents v = above k parents (up parents v)

-- w is one of the first `steps` nodes of the climb from v
abbrev pub Met : List ℕ → ℕ → ℕ → ℕ → Type 0
Met parents v steps w = (k : ℕ) × (k < steps) × (above k parents v ≡ w)

-- `after` is `known`, but for marks at some of the first `steps` nodes of the climb from v
abbrev pub Marked : List ℕ → ℕ → ℕ → List Bool → List Bool → Type 0
Marked parents v steps known after = (w : ℕ) → (get_or after w false ≡ get_or known w false) ⊎ ((get_or after w false ≡ true) × Met parents v steps w)

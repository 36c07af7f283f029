-- The pebbles that leave a node where each edge is crossed as often as the demand of its lower node says.
use Rattle.std.specs.Prelude.{◌≡◌, List, ℕ, zero, suc, ◌+◌, ◌-◌, ◌*◌, ◌<◌, min, length, get_or, eqb, ℤ, pos, negsuc, nat_abs}
use Rattle.model.specs.Yard.{up, one, sum, entry}
use Rattle.laws.proofs.Signed.{above0}

-- the node from which pebbles cross the edge of v, whose parent is p, by the demand z: v if it is below 0, p if it is above; or else `other`
unfoldable pub source_or : ℕ → ℤ → ℕ → ℕ → ℕ
source_or other (negsuc z) v p = v
source_or other (pos zero) v p = other
source_or other (pos (suc z)) v p = p

-- how many leave u, over the edges of the nodes below n
abbrev pub leaving : List ℕ → List ℤ → ℕ → ℕ → ℕ
leaving parents demands n u = sum n (λ v. one (eqb (source_or 256 (entry demands v) v (up parents v)) u) * nat_abs (entry demands v))

-- a list of how many leave each node
abbrev pub Leaves : List ℕ → List ℤ → List ℕ → Type 0
Leaves parents demands out = (length out ≡ 257) × ((u : ℕ) → u < 256 → get_or out u 0 ≡ leaving parents demands (length parents) u)

-- how many pebbles of a node stay, that has room for so many, holds so many, has the demand z, and that so many leave: one that lacks some is not left full,
-- and what leaves is beyond what comes
abbrev pub staying_of : ℕ → ℕ → ℤ → ℕ → ℕ
staying_of depth pebble z out = min (depth - min 1 (above0 z)) (min pebble (pebble + above0 z - out))

-- and how many move
abbrev pub moving_at : List ℕ → List ℕ → List ℤ → List ℕ → ℕ → ℕ
moving_at pebbles depths demands out v = get_or pebbles v 0 - staying_of (get_or depths v 0) (get_or pebbles v 0) (entry demands v) (get_or out v 0)

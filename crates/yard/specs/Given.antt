-- The yard of three lent lists, parents, pebbles and depths, in one word for contracts: refusals 10 to 13 read no targets.
use Rattle.std.specs.Prelude.{◌≡◌, List, [], ℕ, length}
use Rattle.model.specs.Yard.{Yard, yard_of}

-- as the call found them, for an `ensures`
abbrev pub given_bare : List ℕ → List ℕ → List ℕ → Yard
given_bare parents pebbles depths = yard_of parents pebbles [] depths

-- as they are, for a `requires`
abbrev pub handed_bare : List ℕ → List ℕ → List ℕ → Yard
handed_bare parents pebbles depths = yard_of parents pebbles [] depths

-- all of one length
abbrev pub Alike : List ℕ → List ℕ → List ℕ → Type 0
Alike parents pebbles depths = (length pebbles ≡ length parents) × (length depths ≡ length parents)

-- A run of the cabinet's steps (request 2.9). What the cabinet relies on is stated in laws (`laws/specs/Cabinet`).
use Rattle.std.specs.Prelude.{Bool, false, List, ℕ, zero, suc}
use Rattle.model.specs.Yard.{Yard, holding}
use Rattle.model.specs.Calls.Registers.{Stepped, stepped}

-- A first step, told whether a push failed, and k more, with no failed push: each step gets the yard, the plan and the block of the one before.
unfoldable pub steps : ℕ → Yard → List ℕ → List ℕ → Bool → Stepped
steps zero y bs block failed = stepped y bs block failed
steps (suc k) y bs block failed = let s = steps k y bs block failed in stepped (holding y s.pebbles) bs s.block false

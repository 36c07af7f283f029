-- The nodes of a climb: each is the parent of the one before it, all that a climb meets are among them, and where one of them reaches
-- t, those before it do, since a node reaches all that its parent reaches.
use mathlib.Core.Path.{◌≡◌, refl, ap, ◌∙◌}
use mathlib.Core.Bool.{Bool, true, false, ◌||◌, or-true}
use mathlib.Core.List.{List}
use Prim.Native.Nat.{ℕ, zero, suc, ◌≤◌, ◌<◌}
use native.Mathlib.Omega.{arith}
use lib.ListN.{length}
use lib.Dec.{eqb}
use borrow.Author.Tests.{ne_eqb}
use Rattle.model.specs.Yard.{up, climbs, inside}
use Rattle.laws.proofs.Climb.{inside_step}
use Rattle.judge.specs.Climb.{above}

pub above_next : (k : ℕ) (ps : List ℕ) (v : ℕ) → above (suc k) ps v ≡ up ps (above k ps v)
unfolding above
above_next zero ps v = refl
above_next (suc k) ps v = above_next k ps (up ps v)

-- a climb that does not meet t
pub climbs_past : (k : ℕ) (ps : List ℕ) (v t : ℕ) → ((j : ℕ) → j ≤ k → above j ps v ≡ t → ⊥) → climbs k ps v t ≡ false
unfolding above climbs
climbs_past zero ps v t h = ne_eqb v t (h 0 (omega arith))
climbs_past (suc k) ps v t h = rw (ne_eqb v t (h 0 (omega arith))) (climbs_past k ps (up ps v) t (λ j l. h (suc j) (omega arith)))

module _ (ps : List ℕ) (within : (v : ℕ) → v < length ps → up ps v < length ps) (t : ℕ) where
  -- where node s of the climb from v reaches t, node j ≤ s does
  pub above_reaches : (s j v : ℕ) → v < length ps → j ≤ s → climbs (length ps) ps (above s ps v) t ≡ true → climbs (length ps) ps (above j ps v) t ≡ true
  unfolding above inside
  above_reaches zero zero v l b h = h
  above_reaches zero (suc j) v l b h = absurd (omega arith)
  above_reaches (suc s) zero v l b h = inside_step ps within t v l ∙ ap (λ (b : Bool). (eqb v t) || b) (above_reaches s zero (up ps v) (within v l) (omega arith) h) ∙ or-true (eqb v t)
  above_reaches (suc s) (suc j) v l b h = above_reaches s j (up ps v) (within v l) (omega arith) h

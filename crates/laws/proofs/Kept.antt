-- Laws of striking moves from a list.
use mathlib.Core.Path.{◌≡◌, refl, ap}
use mathlib.Core.Bool.{Bool, true, false, cond}
use mathlib.Core.List.{List, [], ◌∷◌, ◌++◌}
use Prim.Native.Nat.{◌≤◌}
use native.Mathlib.Omega.{arith}
use lib.ListN.{length}
use Rattle.model.specs.Push.{Move}
use Rattle.laws.specs.Parts.{kept}
use Rattle.laws.proofs.Basics.{All}

module _ (p : Move → Bool) where
  pub kept_append : (ms ns : List Move) → kept p (ms ++ ns) ≡ kept p ms ++ kept p ns
  unfolding kept
  kept_append [] ns = refl
  kept_append (m ∷ ms) ns = go (p m) (kept_append ms ns)
    where
      go : (b : Bool) → kept p (ms ++ ns) ≡ kept p ms ++ kept p ns → cond b (m ∷ kept p (ms ++ ns)) (kept p (ms ++ ns)) ≡ cond b (m ∷ kept p ms) (kept p ms) ++ kept p ns
      go true e = ap {B = List Move} (λ (l : List Move). m ∷ l) e
      go false e = e

  pub kept_all : (ms : List Move) → All (λ m. p m ≡ true) ms → kept p ms ≡ ms
  unfolding kept
  kept_all [] a = refl
  kept_all (m ∷ ms) a = rw (a.0, kept_all ms a.1)

  pub kept_none : (ms : List Move) → All (λ m. p m ≡ false) ms → kept p ms ≡ []
  unfolding kept
  kept_none [] a = refl
  kept_none (m ∷ ms) a = rw a.0 (kept_none ms a.1)

  pub all_kept : (ms : List Move) → All (λ m. p m ≡ true) (kept p ms)
  unfolding kept
  all_kept [] = tt
  all_kept (m ∷ ms) = go (p m) refl (all_kept ms)
    where
      go : (b : Bool) → p m ≡ b → All (λ m. p m ≡ true) (kept p ms) → All (λ m. p m ≡ true) (cond b (m ∷ kept p ms) (kept p ms))
      go true e a = (e, a)
      go false e a = a

  -- where nothing is struck, every move passes
  kept_le : (ms : List Move) → length (kept p ms) ≤ length ms
  unfolding kept
  kept_le [] = omega arith
  kept_le (m ∷ ms) = go (p m) (kept_le ms)
    where
      go : (b : Bool) → length (kept p ms) ≤ length ms → length (cond b (m ∷ kept p ms) (kept p ms)) ≤ length (m ∷ ms)
      go true l = omega arith
      go false l = omega arith

  pub kept_passes : (ms : List Move) → kept p ms ≡ ms → All (λ m. p m ≡ true) ms
  unfolding kept
  kept_passes [] e = tt
  kept_passes (m ∷ ms) e = go (p m) refl e (kept_passes ms)
    where
      go : (b : Bool) → p m ≡ b → cond b (m ∷ kept p ms) (kept p ms) ≡ m ∷ ms → (kept p ms ≡ ms → All (λ m. p m ≡ true) ms) → All (λ m. p m ≡ true) (m ∷ ms)
      go true q f ih = (q, ih cc)
      go false q f ih = absurd (omega (arith, kept_le ms, ap length f))

-- Entries of lists, read with a default past the end: one store leaves an entry as it was or makes it the value stored, and a list of
-- defaults has no other entry. Both by going through the list.
use mathlib.Core.Path.{◌≡◌, refl, ap}
use mathlib.Core.List.{List, [], ◌∷◌}
use mathlib.Core.Logic.{◌⊎◌, inl, inr, ⊎_elim}
use Prim.Native.Nat.{ℕ, zero, suc}
use lib.ListN.{get_or, set, replicate}

pub set_either : {A : Type 0} (d : A) (l : List A) (i w : ℕ) (a : A) → (get_or (set l i a) w d ≡ get_or l w d) ⊎ ((get_or (set l i a) w d ≡ a) × (i ≡ w))
set_either d [] i w a = inl refl
set_either d (x ∷ xs) zero zero a = inr (refl, refl)
set_either d (x ∷ xs) zero (suc w) a = inl refl
set_either d (x ∷ xs) (suc i) zero a = inl refl
set_either d (x ∷ xs) (suc i) (suc w) a = ⊎_elim inl (λ e. inr (e.0, ap suc e.1)) (set_either d xs i w a)

pub defaults : {A : Type 0} (d : A) (m w : ℕ) → get_or (replicate m d) w d ≡ d
defaults d zero w = refl
defaults d (suc m) zero = refl
defaults d (suc m) (suc w) = defaults d m w

pub zeros : (m w : ℕ) → get_or {A = ℕ} (replicate m 0) w 0 ≡ 0
zeros m w = defaults 0 m w

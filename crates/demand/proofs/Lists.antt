-- Lists by their entries. A store changes the entry at its place and no other; what holds of f everywhere holds of a list of f at rising numbers.
use mathlib.Core.Path.{◌≡◌, refl, sym, ap, ◌∙◌}
use mathlib.Core.List.{List, [], ◌∷◌, map}
use Prim.Native.Nat.{ℕ, zero, suc, ◌+◌, ◌*◌, ◌<◌}
use native.Mathlib.Omega.{arith}
use native.Mathlib.Decide.{ℕ_discrete}
use lib.ListN.{length, get_or, set}
use lib.Seq.{get_or-set_same, get_or-set_other}
use lib.Dec.{eqb}
use lib.IntN.{ℤ, pos}
use borrow.Author.Tests.{eq-eqb, ne_eqb}
use Rattle.std.specs.List.{sum_by}
use Rattle.std.proofs.lemmas.List.Sums.{sum_by-cons}
use Rattle.model.specs.Yard.{one, sum}
use Rattle.model.specs.Calls.Answers.{range}
use Rattle.laws.proofs.Sums.{sum_front}

-- by d up or e down
pub stored : (xs : List ℕ) (i v a d e : ℕ) → i < length xs → get_or xs i 0 + d ≡ a + e → get_or xs v 0 + one (eqb v i) * d ≡ get_or (set xs i a) v 0 + one (eqb v i) * e
stored xs i v a d e l h = go (ℕ_discrete v i)
  where
    go : Dec (v ≡ i) → get_or xs v 0 + one (eqb v i) * d ≡ get_or (set xs i a) v 0 + one (eqb v i) * e
    go (yes q) = rw (q, eq-eqb i i refl, get_or-set_same xs i a 0 l) (omega arith)
    go (no n) = rw (ne_eqb v i n, get_or-set_other xs i v a 0 n) (omega arith)

-- what holds of 0 and of every f v holds of each entry, past the end too
pub all_listed : (P : ℤ → Type 0) (f : ℕ → ℤ) → P (pos 0) → ((v : ℕ) → P (f v)) → (a k v : ℕ) → P (get_or (map f (range a k)) v (pos 0))
unfolding range
all_listed P f z h a zero v = z
all_listed P f z h a (suc k) zero = h a
all_listed P f z h a (suc k) (suc v) = all_listed P f z h (suc a) k v

-- the sum over a list, place by place
pub sum_by_place : (f : ℤ → ℕ) (xs : List ℤ) → sum_by f xs ≡ sum (length xs) (λ v. f (get_or xs v (pos 0)))
unfolding sum
sum_by_place f [] = refl
sum_by_place f (x ∷ xs) = sum_by-cons f x xs ∙ ap (λ (n : ℕ). f x + n) (sum_by_place f xs) ∙ sym (sum_front (length xs) (λ v. f (get_or (x ∷ xs) v (pos 0))))

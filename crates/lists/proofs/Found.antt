-- What a search answers that looks at one entry after another, and what its answer tells.
use mathlib.Core.Path.{◌≡◌, refl}
use mathlib.Core.Bool.{Bool, true, false, cond}
use Prim.Native.Nat.{ℕ, ◌≤◌, ◌<◌}
use native.Mathlib.Omega.{arith}
use lib.Dec.{ltb}
use borrow.Author.Tests.{lt-ltb, le-ltb, ltb-true, ltb-false}
use Rattle.std.specs.Prelude.{Some, None}
use Rattle.model.specs.Yard.{lowest}
use Rattle.laws.proofs.Found.{found, missed}
use Rattle.lists.specs.Find.{someBelow}

-- the lowest index that passes is met, or none passes
pub some_found : (n i : ℕ) (p : ℕ → Bool) → i < n → ((v : ℕ) → v < i → p v ≡ false) → p i ≡ true → Some i ≡ someBelow n (lowest n p)
some_found n i p l h e = rw (← found n n i p l h e, lt-ltb i n l) refl

pub none_found : (n : ℕ) (p : ℕ → Bool) → ((v : ℕ) → v < n → p v ≡ false) → None ≡ someBelow n (lowest n p)
none_found n p h = rw (← missed n n p h, le-ltb n n (omega arith)) refl

-- what `Some` and `None` tell
pub some_is : (n k v : ℕ) → Some v ≡ someBelow n k → (v ≡ k) × (k < n)
some_is n k v e = go (ltb k n) refl e
  where
    go : (b : Bool) → ltb k n ≡ b → Some v ≡ cond b (Some k) None → (v ≡ k) × (k < n)
    go true l e = (cc, ltb-true k n l)
    go false l e = cc

pub none_is : (n k : ℕ) → None ≡ someBelow n k → n ≤ k
none_is n k e = go (ltb k n) refl e
  where
    go : (b : Bool) → ltb k n ≡ b → None ≡ cond b (Some k) None → n ≤ k
    go true l e = cc
    go false l e = ltb-false k n l

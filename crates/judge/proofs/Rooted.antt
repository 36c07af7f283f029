-- On a tree the root is the lowest node that is its own parent.
use mathlib.Core.Path.{◌≡◌, refl, ◌∙◌}
use mathlib.Core.Bool.{true, false, ◌&&◌}
use Prim.Native.Nat.{ℕ, ◌<◌}
use native.Mathlib.Omega.{arith}
use lib.ListN.{get_or}
use lib.Dec.{leb, eqb, leb-zero}
use borrow.Author.Tests.{eq-eqb, ne_eqb, lt-ltb}
use Rattle.model.specs.Yard.{Yard, size, root}
use Rattle.model.specs.Judge.{Tree}
use Rattle.laws.proofs.Found.{found}
use Rattle.laws.proofs.Trees.{Wood}
use Rattle.laws.proofs.Judged.{wood}
use Rattle.std.specs.Prelude.{Option, Some}
use Rattle.lists.specs.Find.{firstOwn, someBelow}

pub root_found : (y : Yard) → Tree y → root y ≡ firstOwn y.parents 0
root_found y t = found (size y) (size y) (root y) (λ v. (leb 0 v) && (eqb (get_or y.parents v 0) v)) w.root_lt early own
  where
    w : Wood y.parents (root y)
    w = wood y t

    early : (v : ℕ) → v < root y → ((leb 0 v) && (eqb (get_or y.parents v 0) v)) ≡ false
    early v l = rw (leb-zero v) (ne_eqb (get_or y.parents v 0) v (λ q. let z : v ≡ root y = w.root_only v (omega (arith, w.root_lt)) q in omega arith))

    own : ((leb 0 (root y)) && (eqb (get_or y.parents (root y) 0) (root y))) ≡ true
    own = rw (leb-zero (root y)) (eq-eqb (get_or y.parents (root y) 0) (root y) w.root_parent)

-- so the search finds it
pub root_is_found : (y : Yard) → Tree y → {o : Option ℕ} → o ≡ someBelow (size y) (firstOwn y.parents 0) → o ≡ Some (root y)
root_is_found y t e = e ∙ rw (← root_found y t, lt-ltb (root y) (size y) (wood y t).root_lt) refl

-- The children of u from some number on, in rising order: the lowest of them, and those behind it. By the tables the lowest child and each next one are
-- the lowest from 0 and from the number behind.
use mathlib.Core.Path.{◌≡◌, refl, sym, ap, ◌∙◌}
use mathlib.Core.Logic.{◌≢◌}
use mathlib.Core.Bool.{Bool, true, false, cond, ◌&&◌, and-false, and-eq-true_iff}
use mathlib.Core.List.{List, [], ◌∷◌}
use Prim.Native.Nat.{ℕ, ◌+◌, ◌-◌, ◌≤◌, ◌<◌}
use native.Mathlib.Omega.{arith}
use native.Mathlib.Decide.{ℕ_discrete}
use lib.ListN.{length, get_or}
use lib.Dec.{leb, eqb}
use borrow.Author.Tests.{leb-true, le-leb, eq-eqb, ne_eqb}
use Rattle.model.specs.Yard.{up, below, is_child}
use Rattle.laws.proofs.Basics.{none_below}
use Rattle.laws.proofs.Found.{lowest_is, lowest_missing, below_rest, below_cong}
use Rattle.laws.specs.Choice.{Child}
use Rattle.laws.proofs.Trees.{is_child_law}
use Rattle.serve.specs.declared.tree.Children.{Children}
use Rattle.serve.specs.Serving.{is_child_from, children_from, Lowest, Tables}

pub from_0 : (ps : List ℕ) (u : ℕ) → children_from ps u 0 ≡ below (length ps) (is_child ps u)
from_0 ps u = below_cong (length ps) (is_child_from ps u 0) (is_child ps u) (λ v _. rw (le-leb 0 v (omega arith)))

module _ {ps : List ℕ} {u i c : ℕ} (e : Lowest ps u i c) where
  -- u itself is none of them
  pub none_from : c ≡ u → children_from ps u i ≡ []
  none_from q = none_below (length ps) (is_child_from ps u i) (lowest_missing (length ps) u (is_child_from ps u i) (sym q ∙ e.is) (rw (eq-eqb u u refl, and-false (eqb (up ps u) u)) (and-false (leb i u))))

  module _ (d : c ≢ u) where
    found_from : (c < length ps) × (is_child_from ps u i c ≡ true) × ((v : ℕ) → v < c → is_child_from ps u i v ≡ false)
    found_from = lowest_is (length ps) u c (is_child_from ps u i) e.is d

    pub none_between : (v : ℕ) → v < c → is_child_from ps u i v ≡ false
    none_between = found_from.2

    pub child_from : Child ps u c × (i ≤ c)
    child_from =
        let q = (and-eq-true_iff (leb i c) (is_child ps u c)).0 found_from.1 in
        (is_child_law ps u c found_from.0 q.1, leb-true i c q.0)

    pub some_from : children_from ps u i ≡ c ∷ children_from ps u (c + 1)
    some_from =
        below_rest (length ps) c (is_child_from ps u i) found_from.0 found_from.1 found_from.2
        ∙ ap (λ (l : List ℕ). c ∷ l) (below_cong (length ps) _ (is_child_from ps u (c + 1)) (λ v _. higher v (leb (c + 1) v) refl))
      where
        higher : (v : ℕ) (b : Bool) → leb (c + 1) v ≡ b → ((leb (c + 1) v) && (is_child_from ps u i v)) ≡ is_child_from ps u (c + 1) v
        higher v true q = rw (q, le-leb i v (omega (arith, leb-true (c + 1) v q, child_from.1)))
        higher v false q = rw q

-- behind each child the next, by the tables
pub next_is : {ps : List ℕ} {t : Children} {u c : ℕ} → Tables ps t → Child ps u c → Lowest ps u (c + 1) (get_or t.next c 0)
next_is {c = c} h k = rw k.up at (h.next c k.lt (omega arith) (λ e. k.other (sym e ∙ k.up)))

-- what falls from child to child of u, and is 0 at u itself, behind the last
abbrev pub ahead : ℕ → ℕ → ℕ
ahead u c = cond (eqb c u) 0 (256 - c)

pub ahead_falls : {ps : List ℕ} {u c n : ℕ} → c ≢ u → c < 256 → Lowest ps u (c + 1) n → ahead u n < ahead u c
ahead_falls {ps} {u} {c} {n} d l e = rw (ne_eqb c u d) (go (ℕ_discrete n u))
  where
    go : Dec (n ≡ u) → ahead u n < 256 - c
    go (yes q) = rw (eq-eqb n u q) (omega arith)
    go (no q) = rw (ne_eqb n u q) (omega (arith, (child_from e q).1))

-- The pebbles that leave a node, counted edge by edge; and by the demands of a tree with as many pebbles as targets, as many leave a node as the plan's moves do.
use mathlib.Core.Path.{◌≡◌, refl, sym, ap, ◌∙◌}
use mathlib.Core.Bool.{Bool, true, false, ◌&&◌}
use mathlib.Core.List.{List}
use Prim.Native.Nat.{ℕ, zero, suc, ◌+◌, ◌-◌, ◌*◌, ◌<◌, min}
use native.Mathlib.Nat.{add-zero, sub-zero}
use native.Mathlib.Omega.{arith}
use native.Mathlib.Decide.{ℕ_discrete}
use lib.ListN.{length, get_or, set}
use lib.Seq.{get_or-set_same, get_or-set_other}
use lib.Dec.{eqb}
use lib.IntN.{ℤ, pos, negsuc, nat_abs}
use lib.Signed.{lt_z}
use borrow.Author.Tests.{ltb-true, ltb-false, eq-eqb, ne_eqb}
use Rattle.model.specs.Yard.{Yard, size, parent, pebble, capacity, is_child, one, sum, root, demand, entry, lacking, surplus, Matched}
use Rattle.model.specs.Judge.{Tree}
use Rattle.model.specs.Follow.{displaced}
use Rattle.model.specs.Calls.Demands.{demands_of}
use Rattle.laws.proofs.Sums.{sum_cong, sum_add, sum_pick}
use Rattle.laws.proofs.Judged.{facts, wood}
use Rattle.laws.proofs.Demands.{root_even}
use Rattle.laws.proofs.Signed.{above0, below0, demand_parts}
use Rattle.laws.proofs.Equation2.{demands_entry}
use Rattle.laws.proofs.Outgoing.{outgoing}
use Rattle.laws.proofs.Tidy.{floor, displaced_floor}
use Rattle.figures.specs.Leaving.{source_or, leaving, Leaves, staying_of, moving_at}

-- counting at the node that an edge is crossed from
pub source_lt : (z : ℤ) (v p : ℕ) → v < 256 → p < 256 → source_or 256 z v p < 257
unfolding source_or
source_lt (negsuc n) v p h k = omega arith
source_lt (pos zero) v p h k = omega arith
source_lt (pos (suc n)) v p h k = omega arith

pub counted : (out : List ℕ) (z : ℤ) (v p u s : ℕ) → source_or 256 z v p < length out → get_or out u 0 ≡ s
    → get_or (set out (source_or 256 z v p) (get_or out (source_or 256 z v p) 0 + nat_abs z)) u 0 ≡ s + one (eqb (source_or 256 z v p) u) * nat_abs z
counted out z v p u s h e = go (ℕ_discrete (source_or 256 z v p) u)
  where
    go : Dec (source_or 256 z v p ≡ u) → get_or (set out (source_or 256 z v p) (get_or out (source_or 256 z v p) 0 + nat_abs z)) u 0 ≡ s + one (eqb (source_or 256 z v p) u) * nat_abs z
    go (yes q) =
        rw (eq-eqb (source_or 256 z v p) u q)
        (ap (λ (x : ℕ). get_or (set out (source_or 256 z v p) (get_or out (source_or 256 z v p) 0 + nat_abs z)) x 0) (sym q) ∙ get_or-set_same out (source_or 256 z v p) _ 0 h ∙ omega (arith, ap (λ (x : ℕ). get_or out x 0) q))
    go (no n) = rw (ne_eqb (source_or 256 z v p) u n, get_or-set_other out (source_or 256 z v p) u (get_or out (source_or 256 z v p) 0 + nat_abs z) 0 (λ q. n (sym q))) (omega arith)

-- what stays, by the demand's sign
pub stay_lacks : (d p : ℕ) (z : ℤ) (o : ℕ) → lt_z (pos 0) z ≡ true → min (d - 1) (min p (p + nat_abs z - o)) ≡ staying_of d p z o
stay_lacks d p (pos zero) o h = absurd (omega (arith, ltb-true 0 0 h))
stay_lacks d p (pos (suc n)) o h = let one : min 1 (suc n) ≡ 1 = omega arith in rw one
stay_lacks d p (negsuc n) o h = let no : ◌≡◌ {A = ℕ} 0 1 = cc in absurd (omega arith)

none : (d p o : ℕ) → min d (min p (p - o)) ≡ min (d - min 1 0) (min p (p + 0 - o))
none d p o = let z : min 1 0 ≡ 0 = omega arith in rw (z, sub-zero d, add-zero p)

pub stay_else : (d p : ℕ) (z : ℤ) (o : ℕ) → lt_z (pos 0) z ≡ false → min d (min p (p - o)) ≡ staying_of d p z o
stay_else d p (pos zero) o h = none d p o
stay_else d p (pos (suc n)) o h = absurd (omega (arith, ltb-false 0 (suc n) h))
stay_else d p (negsuc n) o h = none d p o

-- over the edge of v; the root, whose demand is 0, is the only node that is its own parent
module _ (y : Yard) (t : Tree y) (m : Matched y) (u v : ℕ) (l : v < size y) where
  child : Dec (v ≡ u) → one (eqb (parent y v) u) * lacking y v ≡ one (is_child y.parents u v) * lacking y v
  child (yes e) = rw (eq-eqb v u e) (go (ℕ_discrete (parent y v) u))
    where
      go : Dec (parent y v ≡ u) → one (eqb (parent y v) u) * lacking y v ≡ one ((eqb (parent y v) u) && false) * lacking y v
      go (yes p) =
          let r : v ≡ root y = (wood y t).root_only v l (p ∙ sym e) in
          let z : lacking y v ≡ 0 = ap (lacking y) r ∙ omega (arith, root_even y t m) in
          rw z (omega arith)
      go (no n) = rw (ne_eqb (parent y v) u n)
  child (no n) = rw (ne_eqb v u n) (go (eqb (parent y v) u))
    where
      go : (b : Bool) → one b * lacking y v ≡ one (b && true) * lacking y v
      go true = refl
      go false = refl

  over : one (eqb (source_or 256 (demand y v) v (parent y v)) u) * nat_abs (demand y v) ≡ one (eqb v u) * surplus y v + one (is_child y.parents u v) * lacking y v
  unfolding source_or
  over = go (demand y v) (demand_parts y v)
    where
      go : (z : ℤ) → (above0 z ≡ lacking y v) × (below0 z ≡ surplus y v)
          → one (eqb (source_or 256 z v (parent y v)) u) * nat_abs z ≡ one (eqb v u) * surplus y v + one (is_child y.parents u v) * lacking y v
      go (pos zero) p = rw (← p.0, ← p.1) (omega arith)
      go (pos (suc n)) p = rw (p.0, ← p.1) (omega (arith, child (ℕ_discrete v u)))
      go (negsuc n) p = rw (p.1, ← p.0) (omega arith)

leaving_outgoing : (y : Yard) → Tree y → Matched y → {demands : List ℤ} → demands ≡ demands_of y → (u : ℕ) → u < size y → leaving y.parents demands (size y) u ≡ outgoing y u
leaving_outgoing y t m e u l =
    ap (λ (ks : List ℤ). leaving y.parents ks (size y) u) e
    ∙ sum_cong (size y) _ (λ v. one (eqb v u) * surplus y v + one (is_child y.parents u v) * lacking y v) (λ v k. ap (λ (z : ℤ). one (eqb (source_or 256 z v (parent y v)) u) * nat_abs z) (demands_entry y v k) ∙ over y t m u v k)
    ∙ omega (arith, sum_add (size y) (λ v. one (eqb v u) * surplus y v) (λ v. one (is_child y.parents u v) * lacking y v), sum_pick (size y) u (surplus y) l)

pub moving_displaced : (y : Yard) → Tree y → Matched y → {demands : List ℤ} (out : List ℕ) → demands ≡ demands_of y → Leaves y.parents demands out
    → sum (length y.pebbles) (moving_at y.pebbles y.depths demands out) ≡ displaced y
moving_displaced y t m {demands} out e s =
    ap (λ (n : ℕ). sum n (moving_at y.pebbles y.depths demands out)) (facts y t).pebbles_size
    ∙ sum_cong (size y) _ _ (λ v l. ap (λ (x : ℕ). pebble y v - x) (each v l))
    ∙ sym (displaced_floor y t m)
  where
    lacks : (v : ℕ) → v < size y → above0 (entry demands v) ≡ lacking y v
    lacks v l = ap (λ (ks : List ℤ). above0 (entry ks v)) e ∙ ap above0 (demands_entry y v l) ∙ (demand_parts y v).0

    each : (v : ℕ) → v < size y → staying_of (capacity y v) (pebble y v) (entry demands v) (get_or out v 0) ≡ floor y v
    each v l = rw (lacks v l, s.1 v (omega (arith, (facts y t).few)) ∙ leaving_outgoing y t m e v l)

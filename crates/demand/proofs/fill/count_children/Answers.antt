-- `count_children` counts: after v turns each count is how many of the first v nodes have their place there, since a turn adds 1 at one place. That is
-- 256 at most and fits. A node's place is its parent's in one of the halves, so both counts of u together are how many nodes have parent u.
use native.Mathlib.Omega.{arith}
use native.Mathlib.Numerals.{add-one}
use native.Mathlib.Decide.{ℕ_discrete}
use Prim.Native.Nat.{ℕ, ◌+◌, ◌*◌, ◌%◌, ◌≤◌, ◌<◌}
use mathlib.Core.List.{List}
use mathlib.Core.Path.{◌≡◌, refl, sym, ap, ◌∙◌}
use lib.ListN.{length, get_or, length-set, get_or-replicate}
use lib.Dec.{eqb}
use borrow.Author.Tests.{eq-eqb, ne_eqb}
use Rattle.model.specs.Yard.{up, one, sum}
use Rattle.laws.proofs.Basics.{one_le, eqb_sym}
use Rattle.laws.proofs.Sums.{sum_le, sum_add, sum_cong}
use Rattle.demand.proofs.Lists.{stored}
use Rattle.demand.proofs.fill.count_children.Invariants.{at}
use Rattle.demand.proofs.fill.count_children.Goals as goal

-- p in half r is u in one of the halves exactly if p is u
in_half : (p r u i : ℕ) → p < 256 → r < 2 → u < 256 → i ≡ p + 256 * r
    → one (eqb i u) + one (eqb i (256 + u)) ≡ one (eqb p u)
in_half p r u i a b l e = go (ℕ_discrete i u) (ℕ_discrete i (256 + u))
  where
    go : Dec (i ≡ u) → Dec (i ≡ 256 + u) → one (eqb i u) + one (eqb i (256 + u)) ≡ one (eqb p u)
    go (yes q) _ = rw (eq-eqb i u q, ne_eqb i (256 + u) (λ s. omega arith), eq-eqb p u (omega arith))
    go (no n) (yes q) = rw (ne_eqb i u n, eq-eqb i (256 + u) q, eq-eqb p u (omega arith))
    go (no n) (no m) = rw (ne_eqb i u n, ne_eqb i (256 + u) m, ne_eqb p u (λ s. omega arith))

few : (n : ℕ) (f : ℕ → ℕ) (u : ℕ) → sum n (λ v. one (eqb (f v) u)) ≤ n
few n f u = sum_le n _ (λ v. one_le (eqb (f v) u))

-- both counts of u together, where each count is how many of the first v nodes have their place there
both : (parents counts : List ℕ) (v u : ℕ) → ((c : ℕ) → up parents c < 256)
    → ((i : ℕ) → i < 512 → get_or counts i 0 ≡ sum v (λ c. one (eqb (at parents c) i))) → u < 256
    → get_or counts u 0 + get_or counts (256 + u) 0 ≡ sum v (λ c. one (eqb (up parents c) u))
both parents counts v u bytes i l =
    rw (i u (omega arith), i (256 + u) (omega arith))
    (sym (sum_add v _ _) ∙ sum_cong v _ _ (λ c _. in_half (up parents c) (c % 2) u _ (bytes c) (omega arith) l refl))

pub loop-v-init : goal.loop-v-init
unfolding sum
loop-v-init c = (refl, λ i l. get_or-replicate 512 i _ 0 l)

pub overflow_add-counts : goal.overflow_add-counts
overflow_add-counts c =
    omega (arith, c.loop-v.invariant.1 c.place.result (omega arith), few c.loop-v.v (at c.args.parents.now) c.place.result)

pub loop-v-preserved : goal.loop-v-preserved
unfolding sum
loop-v-preserved c =
    let loop = c.loop-v in
    let p = c.place.result in (
      simp length-set loop.invariant.0,
      λ i l. let more = stored loop.counts p i (get_or loop.counts p 0 + 1) 1 0 (omega arith) (omega arith) in
          rw (add-one loop.v, ← c.place.ensures.0) (omega (arith, loop.invariant.1 i l, ap one (eqb_sym i p), more)),
    )

pub add_halves-requires : goal.add_halves-requires
add_halves-requires c = λ u l.
    let loop = c.loop-v in
    let parents = c.args.parents.now in
    let sum_of = both parents loop.counts loop.v u (λ v. (c.type_inv.parents v).fits) loop.invariant.1 l in
    omega (arith, sum_of, few loop.v (up parents) u)

pub returns : goal.returns
returns c =
    let loop = c.loop-v in
    let parents = c.args.parents.now in
    let all : loop.v ≡ length parents = omega arith in (
      c.add_halves.ensures.0,
      λ u l.
          let sum_of = both parents loop.counts loop.v u (λ v. (c.type_inv.parents v).fits) loop.invariant.1 l in
          omega (arith, c.add_halves.ensures.1 u l, sum_of, ap (λ (n : ℕ). sum n (λ v. one (eqb (up parents v) u))) all),
    )

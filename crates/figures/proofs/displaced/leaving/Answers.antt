-- `leaving` counts: a node's count is that of the pebbles that leave it over the edges of the
-- nodes below v, since a turn adds a demand's size at the node that its edge is crossed from. No
-- count is more than 2,048 for each of them.
use native.Mathlib.Omega.{arith}
use native.Mathlib.Numerals.{add-one}
use Prim.Native.Nat.{ℕ, zero, suc, ◌+◌, ◌*◌, ◌≤◌, ◌<◌}
use mathlib.Core.Path.{◌≡◌, refl, ap, ◌∙◌}
use mathlib.Core.Bool.{Bool, true, false}
use lib.ListN.{get_or, set, replicate, length-set}
use lib.Dec.{eqb}
use lib.IntN.{ℤ, nat_abs}
use mir.Syntax.{w16}
use mir.ValLaws.{to_z-of_z}
use Rattle.model.specs.Yard.{up, one, sum, entry}
use Rattle.demand.proofs.Numbers.{small_fits}
use Rattle.figures.specs.Leaving.{source_or}
use Rattle.figures.proofs.Leaving.{source_lt, counted}
use Rattle.figures.proofs.displaced.leaving.Goals.{After-size}
use Rattle.figures.proofs.displaced.leaving.Goals as goal

-- where the edge of v is crossed from
found : (c : After-size) → let a = c.args in let v = c.loop-v.v in
    c.unwrap_or-u.result ≡ source_or 256 (entry a.demands.now v) v (up a.parents.now v)
found c =
    let v = c.loop-v.v in
    c.unwrap_or-u.ensures ∙ c.source.ensures 256
    ∙ ap (λ (z : ℤ). source_or 256 z v (up c.args.parents.now v)) (to_z-of_z w16 _ (small_fits _ (c.requires.by_index v)))

within : (c : After-size) → let a = c.args in let v = c.loop-v.v in
    source_or 256 (entry a.demands.now v) v (up a.parents.now v) < 257
within c = source_lt _ _ _ (omega (arith, c.requires.parents_len_bound)) (c.type_inv.parents c.loop-v.v).fits

-- how many cross it
sized : (c : After-size) → let v = c.loop-v.v in
    (c.size.result ≡ nat_abs (entry c.args.demands.now v)) × (c.size.result ≤ 2_048)
sized c =
    let v = c.loop-v.v in
    let d = entry c.args.demands.now v in
    let e : c.size.result ≡ nat_abs d = c.size.ensures ∙ ap nat_abs (to_z-of_z w16 d (small_fits d (c.requires.by_index v))) in
    (e, omega (arith, e, c.requires.by_index v))

pub loop-v-init : goal.loop-v-init
unfolding sum
loop-v-init c = (refl, zeros 257, λ u. omega (arith, zeros 257 u))
  where
    zeros : (n u : ℕ) → get_or {A = ℕ} (replicate n 0) u 0 ≡ 0
    zeros zero u = refl
    zeros (suc n) zero = refl
    zeros (suc n) (suc u) = zeros n u

pub offset_bounds-counts-u : goal.offset_bounds-counts-u
offset_bounds-counts-u c = omega (arith, found c, within c)

pub bounds-counts-u : goal.bounds-counts-u
bounds-counts-u c = omega (arith, found c, within c)

pub bounds-counts-u-in-loop-v : goal.bounds-counts-u-in-loop-v
bounds-counts-u-in-loop-v c = omega (arith, found c, within c)

pub loop-v-preserved : goal.loop-v-preserved
unfolding sum
loop-v-preserved c =
    let a = c.args in
    let loop = c.loop-v in
    let d = entry a.demands.now loop.v in
    let p = up a.parents.now loop.v in
    let h = within c in
    let from = source_or 256 d loop.v p in
    let next : (u : ℕ) → get_or (set loop.counts from (get_or loop.counts from 0 + nat_abs d)) u 0
    ≡ get_or loop.counts u 0 + one (eqb from u) * nat_abs d =
    λ u. counted loop.counts d loop.v p u (get_or loop.counts u 0) (omega (arith, h, loop.invariant.0)) refl
    in (
      simp length-set loop.invariant.0,
      (λ u. rw (add-one loop.v, found c, (sized c).0) (next u ∙ rw (loop.invariant.1 u))),
      λ u. rw (found c, (sized c).0) (omega (arith, next u, loop.invariant.2 u, one_times (eqb from u) (nat_abs d), sized c)),
    )
  where
    one_times : (b : Bool) (n : ℕ) → one b * n ≤ n
    one_times true n = omega arith
    one_times false n = omega arith

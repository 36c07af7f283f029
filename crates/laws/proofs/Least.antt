-- The pebbles that move. Those that stand at a node and never move are no more than the least that it ever holds; and just as many where the
-- last in leaves first, as one that has not moved is then taken only if none at its node has come there.
use mathlib.Core.Path.{◌≡◌, refl, sym, ap, ◌∙◌}
use mathlib.Core.Bool.{Bool, true, false, cond}
use mathlib.Core.List.{List, [], ◌∷◌}
use Prim.Native.Nat.{ℕ, zero, suc, ◌+◌, ◌-◌, ◌*◌, ◌≤◌, ◌<◌, min}
use native.Mathlib.Nat.{mul-add, mul-le-mul_left}
use native.Mathlib.Omega.{arith}
use native.Mathlib.Decide.{ℕ_discrete}
use lib.ListN.{length, get_or, set, length-set}
use lib.Seq.{get_or-set_other}
use lib.Dec.{ltb, eqb}
use borrow.Author.Tests.{eq-eqb, ne_eqb, lt-ltb}
use Rattle.model.specs.Yard.{Yard, size, pebble, target, holding, one, sum, pebbleCount}
use Rattle.model.specs.Judge.{Tree}
use Rattle.model.specs.Push.{Move, legal, shifted, moved, pushed, run, accepted, Solved}
use Rattle.model.specs.Follow.{starts, occurs, At, Follows, LastFirst, movers}
use Rattle.laws.proofs.Sums.{sum_cong, sum_mono, sum_add, sum_swap, sum_front, sum_pick}
use Rattle.laws.proofs.Step.{Step, ends, legal_step, moved_pebble}
use Rattle.laws.proofs.Runs.{Obeys, obeys}
use Rattle.laws.proofs.Follow.{Counts, starts_counts, start_lt, counts_moved}
use Rattle.laws.proofs.LastIn.{came_taken}

-- the least number of pebbles that v ever holds along a list of pushes
unfoldable pub least : Yard → List Move → ℕ → ℕ
least y [] v = pebble y v
least y (m ∷ ms) v = min (pebble y v) (least (pushed y m) ms v)

pub least_start : (y : Yard) (ms : List Move) (v : ℕ) → least y ms v ≤ pebble y v
unfolding least
least_start y [] v = omega arith
least_start y (m ∷ ms) v = omega arith

pub least_step : (y : Yard) (m : Move) → Step y m → (ms : List Move) (v : ℕ) → least y (m ∷ ms) v ≡ min (pebble y v) (least (moved y m) ms v)
unfolding least
least_step y m s ms v = rw (legal_step y m s)

pub least_end : {y z : Yard} {ms : List Move} → Obeys y ms z → (v : ℕ) → least y ms v ≤ pebble z v
unfolding least
least_end Obeys.done v = omega arith
least_end (Obeys.next {y} {m = m} {ms = ms} s o) v = omega (arith, least_step y m s ms v, least_end o v)

-- occurs, as a sum
pub occurs_sum : (v : ℕ) (ps : List ℕ) → occurs v ps ≡ sum (length ps) (λ i. one (eqb v (get_or ps i 0)))
unfolding occurs sum
occurs_sum v [] = refl
occurs_sum v (p ∷ ps) = omega (arith, occurs_sum v ps, sum_front (length ps) (λ i. one (eqb v (get_or (p ∷ ps) i 0))))

-- the pebbles at v that are not in h, and take part in none of the moves that take is
abbrev pub stays : List ℕ → List ℕ → List ℕ → ℕ → ℕ
stays ps h is v = sum (length ps) (λ i. one (eqb v (get_or ps i 0)) * (1 - (occurs i h + occurs i is)))

module _ (ps : List ℕ) (v : ℕ) where
  stays_le : (h is : List ℕ) → stays ps h is v ≤ occurs v ps
  stays_le h is = rw occurs_sum (sum_mono (length ps) _ _ (λ i _. omega (arith, mul-le-mul_left (one (eqb v (get_or ps i 0))) (one_at_most (occurs i h + occurs i is)))))
    where
      one_at_most : (n : ℕ) → 1 - n ≤ 1
      one_at_most n = omega arith

  -- a move takes pebble j to b
  module _ (h is : List ℕ) (j b : ℕ) where
    taken : (i : ℕ) → one (eqb v (get_or ps i 0)) * (1 - (occurs i h + occurs i (j ∷ is))) ≡ one (eqb v (get_or (set ps j b) i 0)) * (1 - (occurs i (j ∷ h) + occurs i is))
    unfolding occurs
    taken i = go (ℕ_discrete i j)
      where
        go : Dec (i ≡ j) → one (eqb v (get_or ps i 0)) * (1 - (occurs i h + (one (eqb i j) + occurs i is))) ≡ one (eqb v (get_or (set ps j b) i 0)) * (1 - (one (eqb i j) + occurs i h + occurs i is))
        go (yes e) = rw (eq-eqb i j e) (off _ _ _ _ (omega arith) (omega arith))
          where
            off : (a b c d : ℕ) → c ≡ 0 → d ≡ 0 → a * c ≡ b * d
            off a b c d p q = rw (p, q) (omega arith)
        go (no n) = rw (ne_eqb i j n, get_or-set_other ps j i b 0 n) (ap (λ (x : ℕ). one (eqb v (get_or ps i 0)) * (1 - x)) (omega arith))

    stays_next : stays ps h (j ∷ is) v ≡ stays (set ps j b) (j ∷ h) is v
    stays_next = rw length-set (sum_cong (length ps) _ _ (λ i _. taken i))

  -- it stayed until then, if it is not in h
  stays_drop : (h : List ℕ) (j a : ℕ) → At ps j a → stays ps h (j ∷ []) v + one (eqb v a) * (1 - occurs j h) ≡ stays ps h [] v
  unfolding occurs
  stays_drop h j a k =
      rw (← k.1) (ap (λ (x : ℕ). stays ps h (j ∷ []) v + x) (sym (sum_pick (length ps) j (λ i. one (eqb v (get_or ps i 0)) * (1 - occurs i h)) k.0))
      ∙ sym (sum_add (length ps) _ _) ∙ sum_cong (length ps) _ _ (λ i _. go i (ℕ_discrete i j)))
    where
      go : (i : ℕ) → Dec (i ≡ j) → one (eqb v (get_or ps i 0)) * (1 - (occurs i h + (one (eqb i j) + 0))) + one (eqb i j) * (one (eqb v (get_or ps i 0)) * (1 - occurs i h)) ≡ one (eqb v (get_or ps i 0)) * (1 - (occurs i h + 0))
      go i (yes e) = rw (eq-eqb i j e) (off _ _ _ _ (omega arith) (omega arith))
        where
          off : (a b c d : ℕ) → b ≡ 0 → c ≡ d → a * b + 1 * (a * c) ≡ a * d
          off a b c d p q = rw (p, q) (omega arith)
      go i (no n) = rw (ne_eqb i j n) (omega arith)

  -- all stayed, if none that stands at v is in h
  stays_all : (h : List ℕ) → ((i : ℕ) → At ps i v → occurs i h ≡ 0) → stays ps h [] v ≡ occurs v ps
  unfolding occurs
  stays_all h none = sum_cong (length ps) _ _ (λ i l. go i l (ℕ_discrete v (get_or ps i 0))) ∙ sym (occurs_sum v ps)
    where
      go : (i : ℕ) → i < length ps → Dec (v ≡ get_or ps i 0) → one (eqb v (get_or ps i 0)) * (1 - (occurs i h + 0)) ≡ one (eqb v (get_or ps i 0))
      go i l (yes e) = rw (none i (l, sym e)) (omega arith)
      go i l (no n) = rw (ne_eqb v (get_or ps i 0) n) (omega arith)

-- in every following, those that stay are no more than the least that the node ever holds
stays_least : {y z : Yard} {ms : List Move} {ps is qs : List ℕ} → Obeys y ms z → Follows ps ms is qs → Counts y ps → (h : List ℕ) (v : ℕ) → v < size y → stays ps h is v ≤ least y ms v
unfolding least
stays_least Obeys.done (Follows.done {ps}) c h v l = omega (arith, stays_le ps v h [], c v l)
stays_least (Obeys.next {y} {m = m} {ms = ms} s o) (Follows.next {ps = ps} {is = is} {i = j} a f) c h v l = omega (
  arith,
  least_step y m s ms v,
  c v l,
  stays_le ps v h (j ∷ is),
  stays_next ps v h is j m.to,
  stays_least o f (counts_moved y m s ps j a c) (j ∷ h) v l,
)

-- and just as many where the last in leaves first
last_least : {y z : Yard} {ms : List Move} {h ps is qs : List ℕ} → Obeys y ms z → Follows ps ms is qs → LastFirst h ps ms is → Counts y ps → (v : ℕ) → v < size y
    → stays ps h is v ≡ min (stays ps h [] v) (least y ms v)
unfolding least
last_least Obeys.done Follows.done (LastFirst.done {taken = h} {ps = ps}) c v l = omega (arith, stays_le ps v h [], c v l)
last_least (Obeys.next {y} {m = m} {ms = ms} s o) (Follows.next {ps = ps} {is = is} {i = j} a f) (LastFirst.next {taken = h} last g) c v l =
    stays_next ps v h is j m.to ∙ last_least o f g (counts_moved y m s ps j a c) v l ∙ go (ℕ_discrete v m.from) (ℕ_discrete (occurs j h) 0)
  where
    then : stays (set ps j m.to) (j ∷ h) [] v + one (eqb v m.from) * (1 - occurs j h) ≡ stays ps h [] v
    then = rw (← (stays_next ps v h [] j m.to)) (stays_drop ps v h j m.from a)

    go : Dec (v ≡ m.from) → Dec (occurs j h ≡ 0) → min (stays (set ps j m.to) (j ∷ h) [] v) (least (moved y m) ms v) ≡ min (stays ps h [] v) (least y (m ∷ ms) v)
    go (yes e) (yes q) = omega (
      arith,
      least_step y m s ms v,
      rw (eq-eqb v m.from e, q) at then,
      stays_all ps v h (λ i k. (came_taken i h).0 (omega (arith, last i (k.0, k.1 ∙ e), (came_taken j h).1 q))),
      c v l,
      moved_pebble y m s v,
      ap one (eq-eqb v m.from e),
      ap one (ne_eqb v m.to (λ g. (ends y m s).2 (sym e ∙ g))),
      least_start (moved y m) ms v,
    )
    go (yes e) (no n) = omega (arith, least_step y m s ms v, rw (eq-eqb v m.from e) at then, stays_le ps v h [], c v l)
    go (no n) d = omega (arith, least_step y m s ms v, rw (ne_eqb v m.from n) at then, stays_le ps v h [], c v l)

-- refused pushes change nothing
pub least_accepted : (ms : List Move) (y : Yard) (v : ℕ) → least y (accepted y ms) v ≡ least y ms v
unfolding least accepted
least_accepted [] y v = refl
least_accepted (m ∷ ms) y v = go (legal y m) refl (λ z. least_accepted ms z v)
  where
    then : Bool → Yard
    then b = holding y (cond b (shifted y.pebbles m) y.pebbles)

    go : (b : Bool) → legal y m ≡ b → ((z : Yard) → least z (accepted z ms) v ≡ least z ms v)
        → least y (cond b (m ∷ accepted (then b) ms) (accepted (then b) ms)) v ≡ min (pebble y v) (least (then b) ms v)
    go true e ih = rw e (ap (λ (x : ℕ). min (pebble y v) x) (ih (moved y m)))
    go false e ih = omega (arith, ih y, least_start y ms v)

module _ (y : Yard) where
  -- a sum over the pebbles goes by their starts
  pub by_start : (f : ℕ → ℕ) → sum (length (starts y)) f ≡ sum (size y) (λ v. sum (length (starts y)) (λ i. one (eqb v (get_or (starts y) i 0)) * f i))
  by_start f =
      sum_cong (length (starts y)) f (λ i. sum (size y) (λ v. one (eqb v (get_or (starts y) i 0)) * f i)) (λ i l. sym (sum_pick (size y) (get_or (starts y) i 0) (λ _. f i) (start_lt y i l)))
      ∙ sum_swap (length (starts y)) (size y) _

  -- of each node's pebbles those move that do not stay
  pub movers_stays : (is : List ℕ) → movers y is ≡ sum (size y) (λ v. pebble y v - stays (starts y) [] is v)
  unfolding occurs
  movers_stays is = by_start (λ i. one (ltb 0 (occurs i is))) ∙ sum_cong (size y) _ _ (λ v l. omega (arith, all v, starts_counts y v l))
    where
      each : (n : ℕ) → one (ltb 0 n) + (1 - (0 + n)) ≡ 1
      each zero = refl
      each (suc n) = rw (lt-ltb 0 (suc n) (omega arith)) (omega arith)

      all : (v : ℕ) → sum (length (starts y)) (λ i. one (eqb v (get_or (starts y) i 0)) * one (ltb 0 (occurs i is))) + stays (starts y) [] is v ≡ occurs v (starts y)
      all v = sym (sum_add (length (starts y)) _ _) ∙ sum_cong (length (starts y)) _ _ (λ i _. term (one (eqb v (get_or (starts y) i 0))) (occurs i is)) ∙ sym (occurs_sum v (starts y))
        where
          term : (b n : ℕ) → b * one (ltb 0 n) + b * (1 - (0 + n)) ≡ b
          term b n = sym (mul-add b _ _) ∙ ap (λ (x : ℕ). b * x) (each n) ∙ omega arith

  pub movers_le : (is : List ℕ) → movers y is ≤ pebbleCount y
  movers_le is = rw (movers_stays is) (sum_mono (size y) _ _ (λ v _. omega arith))

  module _ (t : Tree y) (ms : List Move) {is qs : List ℕ} (f : Follows (starts y) (accepted y ms) is qs) where
    -- in every following at least those of each node's pebbles beyond the least that it ever holds, and just those if the last in leaves first
    pub movers_least : sum (size y) (λ v. pebble y v - least y ms v) ≤ movers y is
    movers_least = rw (movers_stays is) (sum_mono (size y) _ _ (λ v l. omega (arith, stays_least (obeys ms y t) f (starts_counts y) [] v l, least_accepted ms y v)))

    pub movers_last : LastFirst [] (starts y) (accepted y ms) is → movers y is ≡ sum (size y) (λ v. pebble y v - least y ms v)
    unfolding occurs
    movers_last g = movers_stays is ∙ sum_cong (size y) _ _ (λ v l. omega (
      arith,
      last_least (obeys ms y t) f g (starts_counts y) v l,
      stays_all (starts y) v [] (λ i _. refl),
      starts_counts y v l,
      least_accepted ms y v,
      least_start y ms v,
    ))

    -- never less than the pebbles above the targets, summed
    pub movers_targets : Solved (run y ms) → sum (size y) (λ v. pebble y v - target y v) ≤ movers y is
    movers_targets h = rw (movers_stays is) (sum_mono (size y) _ _ (λ v l. omega (arith, stays_least (obeys ms y t) f (starts_counts y) [] v l, least_end (obeys ms y t) v, h v l)))

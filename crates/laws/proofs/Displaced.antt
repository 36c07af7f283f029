-- The displaced figure (request 2.4), by what holds of any list of pushes (Least, Outgoing) and of the plan (Demand3). Of each node's pebbles those move that are
-- beyond the least that it ever holds; and with room for one at each node, the demands tell which.
use mathlib.Core.Path.{◌≡◌}
use mathlib.Core.Bool.{not, ◌&&◌}
use mathlib.Core.Logic.{◌↔◌, ◌⊎◌}
use mathlib.Core.List.{List, []}
use Prim.Native.Nat.{ℕ, zero, suc, ◌-◌, ◌≤◌, ◌<◌}
use native.Mathlib.Omega.{arith}
use lib.ListN.{length, get_or}
use lib.Dec.{ltb}
use borrow.Author.Tests.{lt-ltb}
use Rattle.model.specs.Yard.{Yard, size, pebble, target, capacity, Shallow, held, one, sum, below, lacking, surplus, Matched, pebbleCount}
use Rattle.model.specs.Judge.{Tree}
use Rattle.model.specs.Push.{accepted}
use Rattle.model.specs.Plan.{plan}
use Rattle.model.specs.Follow.{starts, occurs, At, Follows, LastFirst, lifo, movers, displaced}
use Rattle.laws.specs.Choice.{Child}
use Rattle.laws.proofs.Sums.{sum_mono, length_below}
use Rattle.laws.proofs.Runs.{obeys}
use Rattle.laws.proofs.Follow.{starts_counts, follows_only, follows_solved, follows_onto, follows_apart}
use Rattle.laws.proofs.LastIn.{lifo_follows, lifo_last}
use Rattle.laws.proofs.Least.{least, movers_le, movers_least, movers_last, movers_targets}
use Rattle.laws.proofs.Demand3.{plan_optimal, plan_length}
use Rattle.laws.proofs.Outgoing.{outgoing, outgoing_some, part_outgoing}

-- no more than the pebbles
pub displaced_le : (y : Yard) → displaced y ≤ pebbleCount y
unfolding displaced
displaced_le y = movers_le y (lifo y (plan y))

module _ (y : Yard) (t : Tree y) (m : Matched y) where
  obeyed : accepted y (plan y) ≡ plan y
  obeyed = (plan_optimal y t m).obeyed

  followed : (qs : List ℕ) × Follows (starts y) (accepted y (plan y)) (lifo y (plan y)) qs
  followed = let r = lifo_follows y t (plan y) in (r.0, rw obeyed (rw obeyed at r.1))

  -- as many as in any way to follow the plan in which the last in leaves first (request 2.10), and in none do fewer move
  pub displaced_least : displaced y ≡ sum (size y) (λ v. pebble y v - least y (plan y) v)
  unfolding displaced
  displaced_least = movers_last y t (plan y) followed.1 (rw obeyed (lifo_last y (plan y)))

  pub displaced_last : {is qs : List ℕ} → Follows (starts y) (plan y) is qs → LastFirst [] (starts y) (plan y) is → movers y is ≡ displaced y
  displaced_last {qs = qs} f g = rw displaced_least (movers_last y t (plan y) {qs = qs} (rw obeyed f) (rw obeyed g))

  pub displaced_fewest : {is qs : List ℕ} → Follows (starts y) (plan y) is qs → displaced y ≤ movers y is
  displaced_fewest {qs = qs} f = rw displaced_least (movers_least y t (plan y) {qs = qs} (rw obeyed f))

  -- never less than the pebbles above the targets, summed
  pub displaced_targets : sum (size y) (λ v. pebble y v - target y v) ≤ displaced y
  unfolding displaced
  displaced_targets = movers_targets y t (plan y) followed.1 (plan_optimal y t m).solves

  -- nor less than the number of starting nodes that are not targets, whatever the depths
  pub displaced_strays : length (below (size y) (λ v. (held y v) && (not (ltb 0 (target y v))))) ≤ displaced y
  displaced_strays = omega (arith, length_below (size y) (λ v. (held y v) && (not (ltb 0 (target y v)))), displaced_targets, sum_mono (size y) _ _ (λ v _. stray (pebble y v) (target y v)))
    where
      stray : (p q : ℕ) → one ((ltb 0 p) && (not (ltb 0 q))) ≤ p - q
      stray zero q = omega arith
      stray (suc p) zero = rw (lt-ltb 0 (suc p) (omega arith)) (omega arith)
      stray (suc p) (suc q) = rw (lt-ltb 0 (suc p) (omega arith), lt-ltb 0 (suc q) (omega arith)) (omega arith)

  -- where followed pebbles end: at each node as many as it has targets
  module _ {is qs : List ℕ} (f : Follows (starts y) (plan y) is qs) where
    whole : Follows (starts y) (accepted y (plan y)) is qs
    whole = rw obeyed f

    pub displaced_ends : (v : ℕ) → v < size y → occurs v qs ≡ target y v
    displaced_ends = follows_solved y t (plan y) whole (plan_optimal y t m).solves

    pub displaced_onto : (v : ℕ) → v < size y → (0 < target y v) ↔ ((i : ℕ) × At qs i v)
    displaced_onto = follows_onto y t (plan y) whole (plan_optimal y t m).solves

  -- Request 2.4's promises, which speak of nodes with room for one
  module _ (d : Shallow y) where
    room : (v : ℕ) → v < size y → capacity y v ≤ 1
    room v l = omega (arith, d v l)

    -- there is one way to follow the plan, and it ends on different nodes
    module _ {is qs : List ℕ} (f : Follows (starts y) (plan y) is qs) where
      pub plan_taken : is ≡ lifo y (plan y)
      plan_taken = (follows_only (obeys (plan y) y t) room (starts_counts y) (whole f) followed.1).0

      pub displaced_apart : (i j : ℕ) → i < length qs → j < length qs → get_or qs i 0 ≡ get_or qs j 0 → i ≡ j
      displaced_apart = follows_apart y t (plan y) (whole f) room

    -- a pebble takes part in a move exactly if the subtree of its starting node has too many, or that of a child of it lacks some
    pub displaced_part : (i : ℕ) → i < length (starts y)
        → (0 < occurs i (lifo y (plan y))) ↔ ((0 < surplus y (get_or (starts y) i 0)) ⊎ ((c : ℕ) × Child y.parents (get_or (starts y) i 0) c × (0 < lacking y c)))
    displaced_part i l = ((λ p. (outgoing_some y _).0 (part.0 p)), λ p. part.1 ((outgoing_some y _).1 p))
      where
        part : (0 < occurs i (lifo y (plan y))) ↔ (0 < outgoing y (get_or (starts y) i 0))
        part = part_outgoing y t (plan y) (plan_optimal y t m).solves (rw obeyed (plan_length y t m)) room followed.1 i l

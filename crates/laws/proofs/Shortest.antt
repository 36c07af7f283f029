-- The shortest length falls by one at most with each accepted push, as each changes one demand by one. A list by which it falls with each
-- crosses every edge one way only, as its demand says.
use mathlib.Core.Path.{◌≡◌, refl, ap, ◌∙◌}
use mathlib.Core.Logic.{◌⊎◌, inl, inr}
use mathlib.Core.Bool.{Bool, true, false, not}
use mathlib.Core.List.{List, [], ◌∷◌, ◌++◌}
use Prim.Native.Nat.{ℕ, ◌+◌, ◌-◌, ◌≤◌, ◌<◌}
use native.Mathlib.Omega.{arith}
use native.Mathlib.Decide.{dec_lt}
use lib.ListN.{length, length-append}
use Rattle.model.specs.Yard.{Yard, size, one, sum, pebbles_in, targets_in, lacking, surplus, imbalance, shortest}
use Rattle.model.specs.Judge.{Tree}
use Rattle.model.specs.Push.{Move, moved, after, run, accepted, Solved, ups, downs}
use Rattle.laws.proofs.Sums.{sum_mono, sum_add, sum_tight, sum_by_one}
use Rattle.laws.proofs.Demands.{solved_iff}
use Rattle.laws.specs.Algorithms.{need}
use Rattle.laws.proofs.Step.{Step, legal_step, pebbles_in_node, pebbles_in_other}
use Rattle.laws.proofs.Runs.{Obeys, obeys, run_tree, pebbles_in_run, crossings_length, after_append, accepted_append, run_one}

-- the accepted pushes of a list each lower the shortest length
abbrev pub Thrifty : Yard → List Move → Type 0
Thrifty y ms = shortest y ≡ shortest (run y ms) + length (accepted y ms)

-- q is p less a and more b. It is nearer to t than p by a + b at most; if by just so much, what t has above p fell by b, and what p has above t by a
apart_le : (t p q a b : ℕ) → q + a ≡ p + b → (t - p) + (p - t) ≤ (t - q) + (q - t) + (a + b)
apart_le t p q a b e = omega arith

apart_parts : (t p q a b : ℕ) → q + a ≡ p + b → (t - p) + (p - t) ≡ (t - q) + (q - t) + (a + b) → (t - p ≡ t - q + b) × (p - t ≡ q - t + a)
apart_parts t p q a b e f = (omega arith, omega arith)

module _ (y : Yard) (t : Tree y) (ms : List Move) where
  o : Obeys y (accepted y ms) (run y ms)
  o = obeys ms y t

  all : sum (size y) (λ v. imbalance (run y ms) v + (ups y ms v + downs y ms v)) ≡ shortest (run y ms) + length (accepted y ms)
  unfolding shortest
  all = sum_add (size y) _ _ ∙ ap (λ (x : ℕ). shortest (run y ms) + x) (crossings_length o)

  pub shortest_run : shortest y ≤ shortest (run y ms) + length (accepted y ms)
  unfolding shortest
  shortest_run = rw (← all) (sum_mono (size y) _ _ (λ v _. apart_le (targets_in y v) _ _ _ _ (pebbles_in_run o v)))

  pub shortest_least : Solved (run y ms) → shortest y ≤ length (accepted y ms)
  shortest_least h = omega (arith, shortest_run, (solved_iff (run y ms) (run_tree o t)).0 h)

  pub thrifty_crosses : Thrifty y ms → (v : ℕ) → v < size y → (lacking y v ≡ lacking (run y ms) v + downs y ms v) × (surplus y v ≡ surplus (run y ms) v + ups y ms v)
  unfolding shortest
  thrifty_crosses h v l = apart_parts (targets_in y v) _ _ _ _ (pebbles_in_run o v) (sum_tight (size y) (imbalance y) after_all (λ v _. apart_le (targets_in y v) _ _ _ _ (pebbles_in_run o v)) (omega (arith, all)) v l)
    where
      after_all : ℕ → ℕ
      after_all v = imbalance (run y ms) v + (ups y ms v + downs y ms v)

-- a list of pushes all of which are accepted and lower the shortest length
pub record Good (y : Yard) (ms : List Move) : Type 0 where
  pub obeyed : accepted y ms ≡ ms
  pub spends : shortest y ≡ shortest (run y ms) + length ms

pub good_nil : (y : Yard) → Good y []
unfolding after accepted
good_nil y = record { obeyed = refl; spends = omega arith }

pub good_append : (y : Yard) (ms ns : List Move) → Good y ms → Good (run y ms) ns → Good y (ms ++ ns)
good_append y ms ns g h = record {
  obeyed = rw (accepted_append ms ns y, g.obeyed, h.obeyed);
  spends = rw (after_append ms ns y, length-append ms ns) (omega arith);
}

module _ (y : Yard) (t : Tree y) (ms : List Move) (g : Good y ms) where
  pub good_tree : Tree (run y ms)
  good_tree = run_tree (obeys ms y t) t

  pub good_thrifty : Thrifty y ms
  good_thrifty = rw g.obeyed g.spends

  -- no demand grows
  pub keeps : (v : ℕ) → v < size y → (lacking (run y ms) v ≤ lacking y v) × (surplus (run y ms) v ≤ surplus y v)
  keeps v l = omega (arith, thrifty_crosses y t ms good_thrifty v l)

-- a legal push changes the shortest length by one: down over an edge that needs it, else up
module _ (y : Yard) (m : Move) (s : Step y m) where
  pub shortest_falls : 0 < need y s.away s.node → shortest y ≡ shortest (moved y m) + 1
  unfolding shortest
  shortest_falls n = sum_by_one (size y) s.node (imbalance y) (imbalance (moved y m)) s.node_lt (at s.away n (pebbles_in_node y m s)) (λ v d. omega (arith, pebbles_in_other y m s v d))
    where
      at : (b : Bool) → 0 < need y b s.node → pebbles_in (moved y m) s.node + one (not b) ≡ pebbles_in y s.node + one b → imbalance y s.node ≡ imbalance (moved y m) s.node + 1
      at true n e = omega arith
      at false n e = omega arith

  pub shortest_grows : need y s.away s.node ≡ 0 → shortest (moved y m) ≡ shortest y + 1
  unfolding shortest
  shortest_grows n = sum_by_one (size y) s.node (imbalance (moved y m)) (imbalance y) s.node_lt (at s.away n (pebbles_in_node y m s)) (λ v d. omega (arith, pebbles_in_other y m s v d))
    where
      at : (b : Bool) → need y b s.node ≡ 0 → pebbles_in (moved y m) s.node + one (not b) ≡ pebbles_in y s.node + one b → imbalance (moved y m) s.node ≡ imbalance y s.node + 1
      at true n e = omega arith
      at false n e = omega arith

  pub shortest_by_one : (shortest y ≡ shortest (moved y m) + 1) ⊎ (shortest (moved y m) ≡ shortest y + 1)
  shortest_by_one = go (dec_lt 0 (need y s.away s.node))
    where
      go : Dec (0 < need y s.away s.node) → (shortest y ≡ shortest (moved y m) + 1) ⊎ (shortest (moved y m) ≡ shortest y + 1)
      go (yes n) = inl (shortest_falls n)
      go (no n) = inr (shortest_grows (omega arith))

pub good_one : (y : Yard) (m : Move) (s : Step y m) → 0 < need y s.away s.node → Good y (m ∷ [])
good_one y m s n = record {
  obeyed = (run_one y m (legal_step y m s)).1;
  spends = rw (run_one y m (legal_step y m s)).0 (shortest_falls y m s n);
}

-- A move on the planner's state: the demand of the edge's node changes by one, and the pebble goes. Its two bytes in a list.
use mathlib.Core.Path.{◌≡◌, refl, sym, ap, ◌∙◌}
use mathlib.Core.Bool.{Bool, true, false, not}
use mathlib.Core.List.{List, [], ◌∷◌, ◌++◌}
use Prim.Native.Nat.{ℕ, suc, ◌+◌, ◌≤◌, ◌<◌}
use native.Mathlib.Nat.{suc-add}
use native.Mathlib.Omega.{arith}
use native.Mathlib.Decide.{ℕ_discrete}
use lib.ListN.{length, get_or, set, drop, length-set}
use lib.Seq.{get_or-set_same, get_or-set_other}
use borrow.Author.Tests.{eq-eqb, ne_eqb}
use lib.IntN.{ℤ, pos}
use Rattle.model.specs.Yard.{Yard, size, one, parent, pebble, demand}
use Rattle.model.specs.Push.{Move, moved, after, run}
use Rattle.model.specs.Calls.Plans.{bytes}
use Rattle.laws.specs.Choice.{Neediest}
use Rattle.laws.proofs.Judged.{facts, wood}
use Rattle.laws.specs.Algorithms.{need}
use Rattle.laws.proofs.Step.{Step, legal_step, ends, moved_pebble}
use Rattle.laws.proofs.Runs.{after_append, run_one}
use Rattle.laws.proofs.Signed.{nextℤ, demand_node, demand_other}
use Rattle.serve.specs.declared.state.State.{State}
use Rattle.serve.specs.Serving.{Last, lasts, Kept, pebble_counted, picked_state, Made}
use Rattle.serve.proofs.Looking.{last_here, last_there}
use Rattle.serve.proofs.Picking.{last_same, last_stays, picked_long}

-- bytes of two lists of moves
pub bytes_append : (ms ns : List Move) → bytes (ms ++ ns) ≡ bytes ms ++ bytes ns
unfolding bytes
bytes_append [] ns = refl
bytes_append (m ∷ ms) ns = ap (λ (l : List ℕ). m.from ∷ m.to ∷ l) (bytes_append ms ns)

-- two bytes behind the front
pub two_behind : (xs l : List ℕ) (a b : ℕ) → length xs + 2 ≤ length l → set (set (xs ++ drop (length xs) l) (length xs) a) (length xs + 1) b ≡ xs ++ (a ∷ b ∷ drop (length xs + 2) l)
two_behind [] [] a b h = absurd (omega arith)
two_behind [] (p ∷ []) a b h = absurd (omega arith)
two_behind [] (p ∷ q ∷ l) a b h = refl
two_behind (x ∷ xs) [] a b h = absurd (omega arith)
two_behind (x ∷ xs) (p ∷ l) a b h = rw (suc-add (length xs) 1, suc-add (length xs) 2) (ap (λ (r : List ℕ). x ∷ r) (two_behind xs l a b (omega arith)))

-- the state after a legal push over the edge of the child that is chosen: the demand of its node, the child served last, and the two counts
module _ (y : Yard) (m : Move) (g : Step y m) (n : Neediest (need y g.away) y (parent y g.node) g.node) (s : State) (k : Kept y s) where
  small : (v : ℕ) → v < size y → v < 256
  small v l = omega (arith, (facts y g.tree).few)

  abbrev after_pick : State
  after_pick = picked_state g.away (parent y g.node) g.node s

  abbrev after_move : State
  after_move = pebble_counted false m.to (pebble_counted true m.from after_pick)

  demand_at : (v : ℕ) → v < size y → Dec (v ≡ g.node) → get_or after_pick.demands v (pos 0) ≡ demand (moved y m) v
  demand_at v l (yes q) =
      rw (q, get_or-set_same s.demands g.node (nextℤ g.away (get_or s.demands g.node (pos 0))) (pos 0) (omega (arith, k.long.demands, small g.node g.node_lt)))
      (ap (nextℤ g.away) (k.demands g.node g.node_lt) ∙ sym (demand_node y m g))
  demand_at v l (no q) = get_or-set_other s.demands g.node v (nextℤ g.away (get_or s.demands g.node (pos 0))) (pos 0) q ∙ k.demands v l ∙ sym (demand_other y m g v q)

  -- the counts
  abbrev less : ℤ
  less = nextℤ true (get_or s.pebbles m.from (pos 0))

  abbrev after_from : List ℤ
  after_from = set s.pebbles m.from less

  abbrev more : ℤ
  more = nextℤ false (get_or after_from m.to (pos 0))

  less_one : (p q : ℕ) → p ≡ q + 1 → nextℤ true (pos p) ≡ pos q
  less_one p q e = let z : p ≡ suc q = omega arith in rw z

  count_at : (v : ℕ) → v < size y → Dec (v ≡ m.to) → Dec (v ≡ m.from) → get_or after_move.pebbles v (pos 0) ≡ pos (pebble (moved y m) v)
  count_at v l (yes q) _ =
      let c : pebble (moved y m) v ≡ suc (pebble y v) = omega (arith, moved_pebble y m g v, ap one (eq-eqb v m.to q), ap one (ne_eqb v m.from (λ p. (ends y m g).2 (sym p ∙ q)))) in
      rw c (ap (λ (w : ℕ). get_or after_move.pebbles w (pos 0)) q ∙ get_or-set_same after_from m.to more (pos 0) (simp length-set (omega (arith, k.long.pebbles, small m.to (ends y m g).1)))
      ∙ ap (nextℤ false) (get_or-set_other s.pebbles m.from m.to less (pos 0) (λ p. (ends y m g).2 (sym p)) ∙ k.pebbles m.to (ends y m g).1) ∙ ap (λ (w : ℕ). pos (suc (pebble y w))) (sym q))
  count_at v l (no q) (yes p) =
      let c : pebble y v ≡ pebble (moved y m) v + 1 = omega (arith, moved_pebble y m g v, g.holds, ap (pebble y) p, ap one (ne_eqb v m.to q), ap one (eq-eqb v m.from p)) in
      get_or-set_other after_from m.to v more (pos 0) q
      ∙ ap (λ (w : ℕ). get_or after_from w (pos 0)) p ∙ get_or-set_same s.pebbles m.from less (pos 0) (omega (arith, k.long.pebbles, small m.from (ends y m g).0))
      ∙ ap (nextℤ true) (k.pebbles m.from (ends y m g).0 ∙ ap (λ (w : ℕ). pos (pebble y w)) (sym p)) ∙ less_one (pebble y v) (pebble (moved y m) v) c
  count_at v l (no q) (no p) =
      let c : pebble (moved y m) v ≡ pebble y v = omega (arith, moved_pebble y m g v, ap one (ne_eqb v m.to q), ap one (ne_eqb v m.from p)) in
      rw c (get_or-set_other after_from m.to v more (pos 0) q ∙ get_or-set_other s.pebbles m.from v less (pos 0) p ∙ k.pebbles v l)

  -- the one served last, where it was chosen and elsewhere
  last_new : (b : Bool) (u : ℕ) → b ≡ g.away → u ≡ parent y g.node → Last b (moved y m) u (get_or (lasts b after_pick) u (pos 0))
  last_new b u q p = rw (q, p) record {
    node = g.node;
    is = last_same g.away (parent y g.node) g.node s (omega (arith, k.long.lasts g.away, small (parent y g.node) ((wood y g.tree).parent_lt g.node g.node_lt)));
    served = λ _. last_here g n;
  }

  last_old : (b : Bool) (u : ℕ) → u < size y → (u ≡ parent y g.node → b ≡ not g.away) → Last b (moved y m) u (get_or (lasts b after_pick) u (pos 0))
  last_old b u l q =
      let f = k.lasts b u l in
      record { node = f.node; is = last_stays g.away (parent y g.node) g.node s b u q ∙ f.is; served = λ o. last_there g n q (f.served o) }

  last_law : (b : Bool) (u : ℕ) → u < size y → Dec (u ≡ parent y g.node) → Last b (moved y m) u (get_or (lasts b after_pick) u (pos 0))
  last_law b u l (no q) = last_old b u l (λ r. absurd (q r))
  last_law b u l (yes q) = go b g.away refl refl
    where
      go : (c a : Bool) → c ≡ b → a ≡ g.away → Last b (moved y m) u (get_or (lasts b after_pick) u (pos 0))
      go true true h i = last_new b u (sym h ∙ i) q
      go false false h i = last_new b u (sym h ∙ i) q
      go true false h i = last_old b u l (λ _. sym h ∙ ap not i)
      go false true h i = last_old b u l (λ _. sym h ∙ ap not i)

  kept_move : Kept (moved y m) after_move
  kept_move =
      let h = picked_long g.away (parent y g.node) g.node s k.long in
      record {
        long = record { demands = h.demands; pebbles = simp length-set k.long.pebbles; lasts = h.lasts; depths = h.depths };
        demands = λ v l. demand_at v l (ℕ_discrete v g.node);
        pebbles = λ v l. count_at v l (ℕ_discrete v m.to) (ℕ_discrete v m.from);
        lasts = λ b u l. last_law b u l (ℕ_discrete u (parent y g.node));
        depths = k.depths;
      }

-- the same behind other moves
pub kept_next : (y : Yard) (ms : List Move) (m : Move) (s : State) → Kept (run y ms) s → (g : Step (run y ms) m) → Neediest (need (run y ms) g.away) (run y ms) (parent y g.node) g.node
    → Kept (run y (ms ++ (m ∷ []))) (pebble_counted false m.to (pebble_counted true m.from (picked_state g.away (parent y g.node) g.node s)))
kept_next y ms m s k g n = rw (after_append ms (m ∷ []) y, (run_one (run y ms) m (legal_step (run y ms) m g)).0) (kept_move (run y ms) m g n s k)

-- no move
pub made_nil : (y : Yard) (s : State) (plan : List ℕ) → Kept y s → Made y [] s plan plan 0
unfolding after bytes
made_nil y s plan k = record { kept = k; written = refl; counted = refl }

-- Algorithms 2 and 3. Filling v takes a pebble from v's parent into the subtree of v, drawing brings one up from it; both by pushes
-- that are accepted and each lower the shortest length. The two go alike, so all is said for either direction at once.
use mathlib.Core.Path.{◌≡◌, refl, sym, ap, ◌∙◌}
use mathlib.Core.Logic.{◌≢◌}
use mathlib.Core.Bool.{Bool, true, false, not, ◌&&◌, and-true, and-false, false≢true}
use mathlib.Core.List.{List, [], ◌∷◌, ◌++◌}
use Prim.Native.Nat.{ℕ, zero, suc, ◌+◌, ◌*◌, ◌≤◌, ◌<◌}
use native.Mathlib.Omega.{arith}
use native.Mathlib.Decide.{ℕ_discrete}
use lib.ListN.{length, length-append}
use lib.Dec.{eqb}
use borrow.Author.Tests.{ltb-true, ltb-false, leb-true, leb-false, eq-eqb, ne_eqb, not-true, not-false}
use Rattle.model.specs.Yard.{Yard, size, parent, pebble, capacity, full, held, one, root, inside, pebbles_in, lacking, surplus}
use Rattle.model.specs.Judge.{Tree}
use Rattle.model.specs.Push.{Move, shifted, moved, after, run}
use Rattle.model.specs.Plan.{Rule, inject, extract}
use Rattle.laws.specs.Choice.{Child}
use Rattle.laws.proofs.Trees.{parent_outside, child_off_root, outside_child, outside_sibling, outside_other}
use Rattle.laws.proofs.Judged.{facts, wood}
use Rattle.laws.proofs.Demands.{over_children, weight, weight_child, weight_pos, parts_children}
use Rattle.laws.specs.Algorithms.{crossing, need, blocked, Serves, direct, behind}
use Rattle.laws.proofs.Step.{Step, legal_step, moved_pebble, pebbles_in_node, pebbles_in_other}
use Rattle.laws.proofs.Runs.{after_append, run_one}
use Rattle.laws.proofs.Shortest.{Good, good_append, good_tree, good_one}
use Rattle.laws.proofs.Choice.{Sound, some_needy}
use Rattle.laws.proofs.Plan.{inject_full, inject_free, clear_child, extract_held, extract_empty}

-- v can give a pebble, or take one
abbrev pub Able : Yard → Bool → ℕ → Type 0
Able y true v = 0 < pebble y v
Able y false v = pebble y v < capacity y v

-- a pebble is due over the edge of v, away from the root (true) or towards it
pub record Due (y : Yard) (away : Bool) (v : ℕ) : Type 0 where
  pub lt : v < size y
  pub off_root : v ≢ root y
  pub ready : Able y away (parent y v)
  pub needs : 0 < need y away v

-- where some child of u needs something, the one that a sound rule chooses is a child over whose edge a pebble is due
pub chosen_due : (rule : Rule) → Sound rule → (y : Yard) → Tree y → (b : Bool) (u : ℕ) → Able y b u → 0 < over_children y.parents (need y b) u
    → Child y.parents u (rule (need y b) y u) × Due y b (rule (need y b) y u)
chosen_due rule sound y t b u a h =
    let c = some_needy (need y b) y u h in
    let q = sound (need y b) y u c.0 c.1 in
    (q.0, record { lt = q.0.lt; off_root = child_off_root (wood y t) u (rule (need y b) y u) q.0; ready = rw q.0.up a; needs = q.1 })

-- a pebble goes over the edge of v: the subtree of v has one more, or one less, the parent of v one less, or one more, and all else outside the subtree
-- stays
pub record Shift (y : Yard) (away : Bool) (v : ℕ) (ms : List Move) : Type 0 where
  pub good : Good y ms
  pub some : 0 < length ms
  pub outer : (w : ℕ) → w < size y → inside y.parents v w ≡ false
      → pebble (run y ms) w + one (away && (eqb w (parent y v))) ≡ pebble y w + one ((not away) && (eqb w (parent y v)))
  pub beyond : (w : ℕ) → w < size y → inside y.parents v w ≡ false → pebbles_in (run y ms) w ≡ pebbles_in y w
  pub within : pebbles_in (run y ms) v + one (not away) ≡ pebbles_in y v + one away

-- the push that is due over the edge of v is legal, where v can take the pebble, or give it
unfoldable pub due_step : (y : Yard) → Tree y → (b : Bool) (v : ℕ) → Due y b v → Able y (not b) v → Step y (crossing y.parents b v)
due_step y t b v u a = record { tree = t; away = b; node = v; node_lt = u.lt; off_root = u.off_root; is = refl; holds = holds b u.ready a; room = room b u.ready a }
  where
    holds : (b : Bool) → Able y b (parent y v) → Able y (not b) v → 0 < pebble y (crossing y.parents b v).from
    holds true r o = r
    holds false r o = o

    room : (b : Bool) → Able y b (parent y v) → Able y (not b) v → pebble y (crossing y.parents b v).to < capacity y (crossing y.parents b v).to
    room true r o = o
    room false r o = r

shift_one : (y : Yard) → Tree y → (b : Bool) (v : ℕ) → Due y b v → Able y (not b) v → Shift y b v (crossing y.parents b v ∷ [])
unfolding due_step
shift_one y t b v u a = record {
  good = good_one y m s u.needs;
  some = omega arith;
  outer = λ w l i. rw z (side b w (outside_other (wood y t) v w i) (moved_pebble y m s w));
  beyond = λ w l i. rw z (pebbles_in_other y m s w (outside_other (wood y t) v w i));
  within = rw z (pebbles_in_node y m s);
}
  where
    m : Move
    m = crossing y.parents b v

    s : Step y m
    s = due_step y t b v u a

    z : after y (m ∷ []) ≡ shifted y.pebbles m
    z = (run_one y m (legal_step y m s)).0

    side : (b : Bool) (w : ℕ) → w ≢ v → pebble (moved y m) w + one (eqb w (crossing y.parents b v).from) ≡ pebble y w + one (eqb w (crossing y.parents b v).to)
        → pebble (moved y m) w + one (b && (eqb w (parent y v))) ≡ pebble y w + one ((not b) && (eqb w (parent y v)))
    side true w d e = rw (ne_eqb w v d) at e
    side false w d e = rw (ne_eqb w v d) at e

-- a shift over the edge of a child c of v: then v can take the pebble that is still due over its own edge, or give it
module _ (y : Yard) (t : Tree y) (b : Bool) (v c : ℕ) (ms : List Move) (u : Due y b v) (k : Child y.parents v c) (p : Shift y b c ms) where
  pub stays : (w : ℕ) → w < size y → inside y.parents v w ≡ false → pebble (run y ms) w ≡ pebble y w
  stays w l i = omega (arith, rw (k.up, ne_eqb w v (outside_other (wood y t) v w i), and-false b, and-false (not b)) at (p.outer w l (outside_child (wood y t) v c w k l i)))

  v_outside : inside y.parents c v ≡ false
  v_outside = rw k.up at (parent_outside (wood y t) c k.lt (child_off_root (wood y t) v c k))

  pub due_behind : Due (run y ms) b v
  due_behind = record { lt = u.lt; off_root = u.off_root; ready = ready b u.ready; needs = needs b u.needs }
    where
      parent_stays : pebble (run y ms) (parent y v) ≡ pebble y (parent y v)
      parent_stays = stays (parent y v) ((wood y t).parent_lt v u.lt) (parent_outside (wood y t) v u.lt u.off_root)

      ready : (b : Bool) → Able y b (parent y v) → Able (run y ms) b (parent y v)
      ready true a = omega (arith, parent_stays)
      ready false a = rw parent_stays a

      needs : (b : Bool) → 0 < need y b v → 0 < need (run y ms) b v
      needs true n = omega (arith, p.beyond v u.lt v_outside)
      needs false n = omega (arith, p.beyond v u.lt v_outside)

  pub able_behind : Able (run y ms) (not b) v
  able_behind = go b (rw (k.up, eq-eqb v v refl, and-true b, and-true (not b)) at (p.outer v u.lt v_outside))
    where
      go : (b : Bool) → pebble (run y ms) v + one b ≡ pebble y v + one (not b) → Able (run y ms) (not b) v
      go true e = omega (arith, (facts y t).pebble_le v u.lt)
      go false e = omega arith

  -- v and its siblings need as much as before
  pub need_behind : {q w : ℕ} → Child y.parents q v → Child y.parents q w → need (run y ms) b w ≡ need y b w
  need_behind {q} {w} own j = same b (p.beyond w j.lt (outside (ℕ_discrete w v)))
    where
      outside : Dec (w ≡ v) → inside y.parents c w ≡ false
      outside (yes e) = rw e v_outside
      outside (no d) = outside_child (wood y t) v c w k j.lt (outside_sibling (wood y t) q v w own j d)

      same : (b : Bool) → pebbles_in (run y ms) w ≡ pebbles_in y w → need (run y ms) b w ≡ need y b w
      same true e = rw e
      same false e = rw e

  -- and then one push over that of v
  shift_two : Shift y b v (ms ++ (crossing y.parents b v ∷ []))
  shift_two = record {
    good = good_append y ms (crossing y.parents b v ∷ []) p.good q.good;
    some = rw (length-append ms (crossing y.parents b v ∷ [])) (omega arith);
    outer = λ w l i. rw (after_append ms (crossing y.parents b v ∷ []) y) (omega (arith, q.outer w l i, stays w l i));
    beyond = λ w l i. rw (after_append ms (crossing y.parents b v ∷ []) y) (q.beyond w l i ∙ p.beyond w l (outside_child (wood y t) v c w k l i));
    within = rw (after_append ms (crossing y.parents b v ∷ []) y) (omega (arith, q.within, p.beyond v u.lt v_outside));
  }
    where
      q : Shift (run y ms) b v (crossing y.parents b v ∷ [])
      q = shift_one (run y ms) (good_tree y t ms p.good) b v due_behind able_behind

-- they are determined by the yard
pub serves_same : {rule : Rule} {y : Yard} {b : Bool} {v : ℕ} {ms ns : List Move} → Serves rule y b v ms → Serves rule y b v ns → ms ≡ ns
serves_same (direct e) (direct f) = refl
serves_same (direct e) (behind f s) = absurd (false≢true (sym e ∙ f))
serves_same (behind e s) (direct f) = absurd (false≢true (sym f ∙ e))
serves_same {y} {b} {v} (behind e s) (behind f r) = ap (λ (ms : List Move). ms ++ (crossing y.parents b v ∷ [])) (serves_same s r)

pub free_able : (y : Yard) (b : Bool) (v : ℕ) → blocked y b v ≡ false → Able y (not b) v
free_able y true v e = leb-false (capacity y v) (pebble y v) e
free_able y false v e = ltb-true 0 (pebble y v) (not-false (held y v) e)

module _ (rule : Rule) (sound : Sound rule) (y : Yard) (t : Tree y) where
  -- a full node whose subtree lacks pebbles has a child that does, as it holds no fewer than its targets; an empty one with too many has a
  -- child with too many
  pub blocked_child : (b : Bool) (v : ℕ) → Due y b v → blocked y b v ≡ true → Child y.parents v (rule (need y b) y v) × Due y b (rule (need y b) y v)
  blocked_child true v u e =
      let h : capacity y v ≤ pebble y v = leb-true (capacity y v) (pebble y v) e in
      let n : 0 < lacking y v = u.needs in
      chosen_due rule sound y t true v (omega (arith, (facts y t).capacity_pos v u.lt)) (omega (arith, parts_children y t v u.lt, (facts y t).target_le v u.lt))
  blocked_child false v u e =
      let h : pebble y v ≤ 0 = ltb-false 0 (pebble y v) (not-true (held y v) e) in
      let n : 0 < surplus y v = u.needs in
      chosen_due rule sound y t false v (omega (arith, (facts y t).capacity_pos v u.lt)) (omega (arith, parts_children y t v u.lt))

  pub serves_shift : {b : Bool} {v : ℕ} {ms : List Move} → Serves rule y b v ms → Due y b v → Shift y b v ms
  serves_shift {b} {v} (direct e) u = shift_one y t b v u (free_able y b v e)
  serves_shift {b} {v} (behind {ms = ms} e s) u =
      let q = blocked_child b v u e in
      shift_two y t b v (rule (need y b) y v) ms u q.0 (serves_shift s q.1)

  -- so many calls are enough: filling takes two for every node on the way down, drawing one, and there are no more of these than nodes inside v
  pub inject_serves : (k v : ℕ) → Due y true v → 2 * weight y.parents v ≤ k + 1 → Serves rule y true v (inject rule k y v)
  inject_serves zero v u f = absurd (omega (arith, weight_pos (wood y t) v u.lt))
  inject_serves (suc zero) v u f = go (full y v) refl
    where
      go : (x : Bool) → full y v ≡ x → Serves rule y true v (inject rule 1 y v)
      go true e =
          let q = blocked_child true v u e in
          absurd (omega (arith, weight_child (wood y t) v (rule (lacking y) y v) u.lt q.0, weight_pos (wood y t) (rule (lacking y) y v) q.0.lt))
      go false e = rw (inject_free rule 0 y v e) (direct e)
  inject_serves (suc (suc k)) v u f = go (full y v) refl (inject_serves k)
    where
      go : (x : Bool) → full y v ≡ x → ((c : ℕ) → Due y true c → 2 * weight y.parents c ≤ k + 1 → Serves rule y true c (inject rule k y c)) → Serves rule y true v (inject rule (suc (suc k)) y v)
      go true e ih =
          let q = blocked_child true v u e in
          rw (inject_full rule (suc k) y v e, clear_child rule k y v) (behind e (ih (rule (lacking y) y v) q.1 (omega (arith, weight_child (wood y t) v (rule (lacking y) y v) u.lt q.0))))
      go false e ih = rw (inject_free rule (suc k) y v e) (direct e)

  pub extract_serves : (k v : ℕ) → Due y false v → weight y.parents v ≤ k → Serves rule y false v (extract rule k y v)
  extract_serves zero v u f = absurd (omega (arith, weight_pos (wood y t) v u.lt))
  extract_serves (suc k) v u f = go (held y v) refl (extract_serves k)
    where
      go : (x : Bool) → held y v ≡ x → ((c : ℕ) → Due y false c → weight y.parents c ≤ k → Serves rule y false c (extract rule k y c)) → Serves rule y false v (extract rule (suc k) y v)
      go true e ih = rw (extract_held rule k y v e) (direct (ap not e))
      go false e ih =
          let q = blocked_child false v u (ap not e) in
          rw (extract_empty rule k y v e) (behind (ap not e) (ih (rule (surplus y) y v) q.1 (omega (arith, weight_child (wood y t) v (rule (surplus y) y v) u.lt q.0))))

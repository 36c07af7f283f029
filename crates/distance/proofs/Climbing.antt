-- Climbs from node to node, of parents that may be no tree's: nodes are known only where a climb from them comes to the root. Where all are, the parents are a tree's.
use mathlib.Core.Path.{◌≡◌, refl, sym, ◌∙◌}
use mathlib.Core.Logic.{◌≢◌, ◌⊎◌, inl, inr}
use mathlib.Core.Bool.{true, or-true}
use mathlib.Core.List.{List}
use Prim.Native.Nat.{ℕ, zero, suc, ◌+◌, ◌-◌, ◌≤◌, ◌<◌}
use native.Mathlib.Nat.{zero-add, suc-add}
use native.Mathlib.Omega.{arith}
use native.Mathlib.Decide.{ℕ_discrete}
use lib.ListN.{length, get_or, set, length-set}
use lib.Seq.{get_or-set_same, get_or-set_other}
use lib.Dec.{eqb}
use borrow.Author.Tests.{eq-eqb}
use Rattle.model.specs.Yard.{up, inside}
use Rattle.model.specs.Judge.{Parents}
use Rattle.laws.proofs.Climb.{inside_step}
use Rattle.laws.proofs.Trees.{Wood}
use Rattle.distance.specs.Far.{unknown, Unknown, Entries, Up, here, on, Rooted, Climbs, Written}

-- a step more at the upper end, and one climb behind another
pub up_more : {ps : List ℕ} {v k u : ℕ} → Up ps v k u → Up ps v (suc k) (up ps u)
up_more here = on here
up_more (on p) = on (up_more p)

up_trans : {ps : List ℕ} {v k u j r : ℕ} → Up ps v k u → Up ps u j r → Up ps v (k + j) r
up_trans {j = j} here q = rw (zero-add j) q
up_trans {j = j} (on {k = k} p) q = rw (suc-add k j) (on (up_trans p q))

module _ {ps : List ℕ} (n : Parents ps) where
  up_inside : {v k r : ℕ} → v < length ps → Up ps v k r → inside ps r v ≡ true
  up_inside {v} l here = inside_step ps n.node v v l ∙ rw (eq-eqb v v refl)
  up_inside {v} {r = r} l (on p) = inside_step ps n.node r v l ∙ rw (up_inside (n.node v l) p) (or-true (eqb v r))

-- a node that is its own parent comes to no other
up_own : {ps : List ℕ} {v k r : ℕ} → up ps v ≡ v → Up ps v k r → v ≡ r
up_own e here = refl
up_own e (on p) = sym e ∙ up_own (rw e e) p

-- an entry is written
module _ {parents list : List ℕ} (e : Entries parents list) {w far : ℕ} (l : w < length parents) (f : far < unknown) where
  written : get_or (set list w far) w 0 ≡ far
  written = get_or-set_same list w far 0 (omega (arith, e.long))

  other : (x : ℕ) → x ≢ w → get_or (set list w far) x 0 ≡ get_or list x 0
  other x d = get_or-set_other list w x far 0 d

  pub entries_set : Entries parents (set list w far)
  entries_set = record { long = length-set list w far ∙ e.long; most = λ x k. at x k (ℕ_discrete x w) }
    where
      at : (x : ℕ) → x < length parents → Dec (x ≡ w) → get_or (set list w far) x 0 ≤ unknown
      at x k (yes q) = rw q (omega (arith, written))
      at x k (no d) = omega (arith, other x d, e.most x k)

  pub known_set : (x : ℕ) → get_or list x 0 ≢ unknown → get_or (set list w far) x 0 ≢ unknown
  known_set x h = at (ℕ_discrete x w)
    where
      at : Dec (x ≡ w) → get_or (set list w far) x 0 ≢ unknown
      at (yes q) = rw q (omega (arith, written))
      at (no d) = rw (other x d) h

  -- what is known then was known before, or is that
  pub set_known : {P : ℕ → Type 0} → P w → ((x : ℕ) → x < length parents → get_or list x 0 ≢ unknown → P x) → (x : ℕ) → x < length parents → get_or (set list w far) x 0 ≢ unknown → P x
  set_known {P} p h x k m = at (ℕ_discrete x w)
    where
      at : Dec (x ≡ w) → P x
      at (yes q) = rw q p
      at (no d) = h x k (rw (other x d) at m)

-- the way from a node has come to w: those that are known lead there
pub record Leading (parents list : List ℕ) (w : ℕ) : Type 0 where
  pub entries : Entries parents list
  pub node : w < length parents
  pub leads : (x : ℕ) → x < length parents → get_or list x 0 ≢ unknown → (k : ℕ) × Up parents x k w

module _ {parents list : List ℕ} (n : Parents parents) where
  pub lead_first : {a : ℕ} → Entries parents list → Unknown list → a < length parents → Leading parents list a
  lead_first e u l = record { entries = e; node = l; leads = λ x k m. absurd (m (u x (omega (arith, e.long)))) }

  module _ {w steps : ℕ} (h : Leading parents list w) (l : steps < length parents) where
    short : steps < unknown
    short = omega (arith, l, n.few)

    pub lead_entries : Entries parents (set list w steps)
    lead_entries = entries_set h.entries h.node short

    lead_set : (x : ℕ) → x < length parents → get_or (set list w steps) x 0 ≢ unknown → (k : ℕ) × Up parents x k w
    lead_set = set_known h.entries h.node short (zero, here) h.leads

    pub lead_root : up parents w ≡ w → Rooted parents (set list w steps) w
    lead_root e = record { lt = h.node; own = e; leads = lead_set }

    pub lead_next : Leading parents (set list w steps) (up parents w)
    lead_next = record { entries = lead_entries; node = n.node w h.node; leads = λ x k m. let q = lead_set x k m in (suc q.0, up_more q.1) }

-- written up from v to below w, from where a climb comes to a node that was known before
pub record Writes (parents : List ℕ) (v : ℕ) (before list : List ℕ) (w steps : ℕ) : Type 0 where
  pub entries : Entries parents list
  pub stays : (x : ℕ) → get_or before x 0 ≢ unknown → get_or list x 0 ≢ unknown
  pub node : w < length parents
  pub few : steps < unknown
  pub climbs : Climbs parents before w steps
  pub met : (v ≡ w) ⊎ (get_or list v 0 ≢ unknown)
  pub rooted : (root : ℕ) → Rooted parents before root → Rooted parents list root

module _ {parents before : List ℕ} where
  pub writes_first : {v far : ℕ} → Entries parents before → v < length parents → far < unknown → Climbs parents before v far → Writes parents v before before v far
  writes_first e l f c = record { entries = e; stays = λ x m. m; node = l; few = f; climbs = c; met = inl refl; rooted = λ r q. q }

  module _ {v : ℕ} {list : List ℕ} {w steps : ℕ} (h : Writes parents v before list w steps) where
    pub writes_last : get_or list w 0 ≢ unknown → Written parents v before list
    writes_last k = record { entries = h.entries; stays = h.stays; met = go h.met; rooted = h.rooted }
      where
        go : (v ≡ w) ⊎ (get_or list v 0 ≢ unknown) → get_or list v 0 ≢ unknown
        go (inl e) = rw e k
        go (inr m) = m

  module _ {v : ℕ} {list : List ℕ} {w steps : ℕ} (h : Writes parents v before list w steps) (m : get_or list w 0 ≡ unknown) where
    -- that is not w itself, so there is a step
    further : {k u : ℕ} → Up parents w k u → u < length parents → get_or before u 0 ≢ unknown → k ≤ steps → (0 < steps) × Climbs parents before (up parents w) (steps - 1)
    further here o b l = absurd (h.stays w b m)
    further (on {k = k} {u = u} p) o b l = (omega arith, record { to = u; steps = k; up = p; lt = o; known = b; few = omega arith })

    go_on : (0 < steps) × Climbs parents before (up parents w) (steps - 1)
    go_on = let c = h.climbs in further c.up c.lt c.known c.few

    pub steps_some : 0 < steps
    steps_some = go_on.0

    pub writes_next : Parents parents → Writes parents v before (set list w steps) (up parents w) (steps - 1)
    writes_next n = record {
      entries = entries_set h.entries h.node h.few;
      stays = λ x b. known_set h.entries h.node h.few x (h.stays x b);
      node = n.node w h.node;
      few = omega (arith, h.few);
      climbs = go_on.1;
      met = inr (then h.met);
      rooted = λ r q. let s = h.rooted r q in record { lt = s.lt; own = s.own; leads = set_known h.entries h.node h.few (led r q) s.leads };
    }
      where
        then : (v ≡ w) ⊎ (get_or list v 0 ≢ unknown) → get_or (set list w steps) v 0 ≢ unknown
        then (inl e) = rw e (omega (arith, written h.entries h.node h.few, h.few))
        then (inr k) = known_set h.entries h.node h.few v k

        led : (r : ℕ) → Rooted parents before r → (k : ℕ) × Up parents w k r
        led r q = let c = h.climbs in let p = q.leads c.to c.lt c.known in (_, up_trans c.up p.1)

-- a node is written whose parent is known
pub write_beside : {parents list : List ℕ} {v : ℕ} → Parents parents → Entries parents list → v < length parents → get_or list v 0 ≡ unknown → get_or list (up parents v) 0 < 255
    → Written parents v list (set list v (get_or list (up parents v) 0 + 1))
write_beside {parents} {list} {v} n e l m k =
    let b : get_or list (up parents v) 0 ≢ unknown = omega arith in
    let w = writes_next {steps = get_or list (up parents v) 0 + 1} (writes_first e l (omega arith) (record { to = up parents v; steps = 1; up = on here; lt = n.node v l; known = b; few = omega arith })) m n in
    writes_last w (w.stays (up parents v) b)

-- where all are known the parents are a tree's
pub all_wood : {parents list : List ℕ} {r : ℕ} → Parents parents → Rooted parents list r → ((v : ℕ) → v < length parents → get_or list v 0 ≢ unknown) → Wood parents r
all_wood {parents} {list} {r} n q h = record {
  parent_lt = n.node;
  root_lt = q.lt;
  root_parent = q.own;
  root_only = λ v l e. up_own e (q.leads v l (h v l)).1;
  to_root = λ v l. up_inside n l (q.leads v l (h v l)).1;
}

-- the nodes below v are known
pub record Filled (parents list : List ℕ) (v : ℕ) : Type 0 where
  pub entries : Entries parents list
  pub root : ℕ
  pub rooted : Rooted parents list root
  pub below : (w : ℕ) → w < v → get_or list w 0 ≢ unknown

pub filled_next : {parents before list : List ℕ} {v : ℕ} → Filled parents before v → Written parents v before list → Filled parents list (v + 1)
filled_next {list = list} {v = v} h w = record { entries = w.entries; root = h.root; rooted = w.rooted h.root h.rooted; below = λ x l. go x l (ℕ_discrete x v) }
  where
    go : (x : ℕ) → x < v + 1 → Dec (x ≡ v) → get_or list x 0 ≢ unknown
    go x l (yes e) = rw e w.met
    go x l (no d) = w.stays x (h.below x (omega arith))

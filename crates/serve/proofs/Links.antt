-- The children while they are linked: first none is, each node its own lowest child; then linked
-- from the highest node down. Linking v puts it before those children of its parent that are
-- linked already, all of which are higher.
use mathlib.Core.Path.{◌≡◌, refl, sym, ap, ◌∙◌}
use mathlib.Core.Logic.{◌≢◌}
use mathlib.Core.Bool.{false, and-false}
use mathlib.Core.List.{List}
use Prim.Native.Nat.{ℕ, ◌+◌, ◌≤◌, ◌<◌}
use native.Mathlib.Omega.{arith}
use native.Mathlib.Decide.{ℕ_discrete}
use lib.ListN.{length, get_or, set, length-set}
use lib.Seq.{get_or-set_same, get_or-set_other}
use lib.Dec.{eqb}
use borrow.Author.Count.{below_more}
use borrow.Author.Tests.{le-leb, lt-leb, eq-eqb, ne_eqb}
use Rattle.model.specs.Yard.{up, head_or, is_child}
use Rattle.laws.proofs.Found.{found, missed, from_next}
use Rattle.laws.proofs.Trees.{child_is}
use Rattle.serve.specs.declared.tree.Children.{Children}
use Rattle.serve.specs.Serving.{is_child_from, Lowest, Alone, Linked, linked_to}

-- none is linked yet
pub alone : {ps : List ℕ} {t : Children} → Alone (length ps) t → Linked (length ps) ps t
alone {ps} f = record {
  lowest_long = f.lowest_long;
  next_long = f.next_long;
  first = λ u k. record { is = f.first u k ∙ missed (length ps) u (is_child_from ps u (length ps)) (λ v m. rw (lt-leb (length ps) v m)) };
  next = λ c k m d. absurd (omega arith);
}

-- the nodes below i are entered
pub record Entered (i : ℕ) (t : Children) : Type 0 where
  pub long : (length t.lowest ≡ 256) × (length t.next ≡ 256)
  pub first : (u : ℕ) → u < i → get_or t.lowest u 0 ≡ u

pub enter : {i : ℕ} {t : Children} → Entered i t → i < 256 → Entered (i + 1) (record t { lowest = set t.lowest i i })
enter {i} {t} f l = record {
  long = (length-set t.lowest i i ∙ f.long.0, f.long.1);
  first = below_more _ i (λ u k. get_or-set_other t.lowest i u i 0 (omega arith) ∙ f.first u k)
      (get_or-set_same t.lowest i i 0 (omega (arith, f.long.0)));
}

-- all are entered, and none is linked yet
pub entered : {i : ℕ} {ps : List ℕ} {t : Children} → Entered i t → length ps ≤ i → Linked (length ps) ps t
entered {i} {ps} f l = alone (record { lowest_long = f.long.0; next_long = f.long.1; first = λ u k. f.first u (omega arith) })

module _ (v : ℕ) {ps : List ℕ} {t : Children} (f : Linked (v + 1) ps t) where
  -- linking v changes nothing for a node u that is not its parent
  other_parent : (u : ℕ) → is_child ps u v ≡ false → {c : ℕ} → Lowest ps u (v + 1) c → Lowest ps u v c
  other_parent u e h = record { is = h.is ∙ ap (head_or u) (from_next (length ps) v (is_child ps u) e) }

  -- the root is nobody's child
  pub root_link : up ps v ≡ v → Linked v ps t
  root_link e =
      record {
        lowest_long = f.lowest_long;
        next_long = f.next_long;
        first = λ u k. other_parent u (free u (ℕ_discrete v u)) (f.first u k);
        next = λ c k m d. f.next c k (higher c m d (ℕ_discrete c v)) d;
      }
    where
      free : (u : ℕ) → Dec (v ≡ u) → is_child ps u v ≡ false
      free u (yes q) = rw (eq-eqb v u q) (and-false (eqb (up ps v) u))
      free u (no q) = rw (e, ne_eqb v u q)

      higher : (c : ℕ) → v ≤ c → up ps c ≢ c → Dec (c ≡ v) → v + 1 ≤ c
      higher c m d (yes q) = absurd (d (ap (up ps) q ∙ e ∙ sym q))
      higher c m d (no q) = omega arith

  -- the others are put before what was their parent's lowest child, or the parent itself
  pub child_link : v < length ps → length ps ≤ 256 → up ps v < length ps → up ps v ≢ v → Linked v ps (linked_to t v (up ps v))
  child_link l small k d =
      record {
        lowest_long = simp length-set f.lowest_long;
        next_long = simp length-set f.next_long;
        first = λ u m. first u m (ℕ_discrete (up ps v) u);
        next = λ c m b n. next c m b n (ℕ_discrete c v);
      }
    where
      first : (u : ℕ) → u < length ps → Dec (up ps v ≡ u) → Lowest ps u v (get_or (set t.lowest (up ps v) v) u 0)
      first u m (yes q) =
          let child = child_is ps (up ps v) v record { lt = l; up = refl; other = λ b. d (sym b) } in
          rw (← q) (record {
            is = get_or-set_same t.lowest (up ps v) v 0 (omega (arith, f.lowest_long))
                ∙ found (length ps) (up ps v) v (is_child_from ps (up ps v) v) l (λ w b. rw (lt-leb v w b)) (rw (le-leb v v (omega arith)) child);
          })
      first u m (no q) = rw (get_or-set_other t.lowest (up ps v) u v 0 (λ e. q (sym e))) (other_parent u (rw (ne_eqb (up ps v) u q)) (f.first u m))

      next : (c : ℕ) → c < length ps → v ≤ c → up ps c ≢ c → Dec (c ≡ v) → Lowest ps (up ps c) (c + 1) (get_or (linked_to t v (up ps v)).next c 0)
      next c m b n (yes q) = rw (q, get_or-set_same t.next v (get_or t.lowest (up ps v) 0) 0 (omega (arith, f.next_long))) (f.first (up ps v) k)
      next c m b n (no q) = rw (get_or-set_other t.next v c (get_or t.lowest (up ps v) 0) 0 q) (f.next c m (omega arith) n)

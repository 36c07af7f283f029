-- Trees, by the list of parents. Every node climbs to the root, so what holds there and passes from parent to child holds everywhere: so
-- it is with the laws of which node lies inside which.
use mathlib.Core.Path.{◌≡◌, refl, sym, ap, ◌∙◌}
use mathlib.Core.Logic.{◌≢◌, ◌⊎◌, inl, inr}
use mathlib.Core.Bool.{Bool, true, false, not, ◌||◌, or-true, and-eq-true_iff, false≢true}
use mathlib.Core.List.{List}
use Prim.Native.Nat.{ℕ, zero, suc, ◌+◌, ◌<◌}
use native.Mathlib.Omega.{arith}
use native.Mathlib.Decide.{ℕ_discrete}
use lib.ListN.{length}
use lib.Dec.{eqb}
use borrow.Author.Tests.{eqb-true, eqb-false, eq-eqb, ne_eqb, not-true}
use Rattle.model.specs.Yard.{up, one, climbs, inside, is_child}
use Rattle.laws.specs.Choice.{Child}
use Rattle.laws.proofs.Basics.{not_so}
use Rattle.laws.proofs.Climb.{climbs_self, climbs_fixed, inside_step}

-- a tree, by the list of its parents, with the root r
pub record Wood (ps : List ℕ) (r : ℕ) : Type 0 where
  pub parent_lt : (v : ℕ) → v < length ps → up ps v < length ps
  pub root_lt : r < length ps
  pub root_parent : up ps r ≡ r
  pub root_only : (v : ℕ) → v < length ps → up ps v ≡ v → v ≡ r
  pub to_root : (v : ℕ) → v < length ps → inside ps r v ≡ true

pub is_child_law : (ps : List ℕ) (u c : ℕ) → c < length ps → is_child ps u c ≡ true → Child ps u c
is_child_law ps u c l e =
    let b = (and-eq-true_iff (eqb (up ps c) u) (not (eqb c u))).0 e in
    record { lt = l; up = eqb-true (up ps c) u b.0; other = eqb-false c u (not-true (eqb c u) b.1) }

pub child_is : (ps : List ℕ) (u c : ℕ) → Child ps u c → is_child ps u c ≡ true
child_is ps u c k = rw (eq-eqb (up ps c) u k.up, ne_eqb c u k.other)

module _ {ps : List ℕ} {r : ℕ} (f : Wood ps r) where
  pub down_ind : (P : ℕ → Type 0) → P r → ((v : ℕ) → v < length ps → v ≢ r → P (up ps v) → P v) → (v : ℕ) → v < length ps → P v
  unfolding climbs inside
  down_ind P base next v l = go (length ps) v l (f.to_root v l)
    where
      go : (k v : ℕ) → v < length ps → climbs k ps v r ≡ true → P v
      go zero v l e = rw (eqb-true v r e) base
      go (suc k) v l e = at (eqb v r) refl e (go k (up ps v) (f.parent_lt v l))
        where
          at : (b : Bool) → eqb v r ≡ b → (b || climbs k ps (up ps v) r) ≡ true → (climbs k ps (up ps v) r ≡ true → P (up ps v)) → P v
          at true q e ih = rw (eqb-true v r q) base
          at false q e ih = next v l (eqb-false v r q) (ih e)

  pub inside_self : (v : ℕ) → inside ps v v ≡ true
  unfolding inside
  inside_self v = climbs_self (length ps) ps v

  pub root_inside : (u : ℕ) → inside ps u r ≡ eqb r u
  unfolding inside
  root_inside u = climbs_fixed (length ps) ps r u f.root_parent

  above : (u v : ℕ) → v < length ps → inside ps u v ≡ ((eqb v u) || (inside ps u (up ps v)))
  above u v l = inside_step ps f.parent_lt u v l

  -- what lies inside a node lies inside its parent
  pub inside_up : (u v : ℕ) → v < length ps → inside ps u v ≡ true → inside ps (up ps u) v ≡ true
  inside_up u = down_ind (λ v. inside ps u v ≡ true → inside ps (up ps u) v ≡ true) base next
    where
      base : inside ps u r ≡ true → inside ps (up ps u) r ≡ true
      base e = let q : r ≡ u = eqb-true r u (sym (root_inside u) ∙ e) in rw (← q, f.root_parent) (inside_self r)

      next : (v : ℕ) → v < length ps → v ≢ r → (inside ps u (up ps v) ≡ true → inside ps (up ps u) (up ps v) ≡ true)
          → inside ps u v ≡ true → inside ps (up ps u) v ≡ true
      next v l d ih e = above (up ps u) v l ∙ ap (λ (b : Bool). (eqb v (up ps u)) || b) (at (eqb v u) refl (sym (above u v l) ∙ e)) ∙ or-true (eqb v (up ps u))
        where
          at : (b : Bool) → eqb v u ≡ b → (b || inside ps u (up ps v)) ≡ true → inside ps (up ps u) (up ps v) ≡ true
          at true q e = rw (eqb-true v u q) (inside_self (up ps u))
          at false q e = ih e

  -- no node but the root lies on a circle: its parent would, and so on up to the root, which is its own parent
  loop_root : (v : ℕ) → v < length ps → inside ps v (up ps v) ≡ true → v ≡ r
  loop_root = down_ind (λ v. inside ps v (up ps v) ≡ true → v ≡ r) (λ _. refl) next
    where
      next : (v : ℕ) → v < length ps → v ≢ r → (inside ps (up ps v) (up ps (up ps v)) ≡ true → up ps v ≡ r)
          → inside ps v (up ps v) ≡ true → v ≡ r
      next v l d ih e = at (eqb (up ps v) v) refl (sym (above v (up ps v) (f.parent_lt v l)) ∙ e)
        where
          at : (b : Bool) → eqb (up ps v) v ≡ b → (b || inside ps v (up ps (up ps v))) ≡ true → v ≡ r
          at true q _ = f.root_only v l (eqb-true (up ps v) v q)
          at false _ i =
              let q : up ps v ≡ r = ih (inside_up v (up ps (up ps v)) (f.parent_lt _ (f.parent_lt v l)) i) in
              sym (eqb-true r v (sym (root_inside v) ∙ (rw q at e)))

  pub parent_outside : (v : ℕ) → v < length ps → v ≢ r → inside ps v (up ps v) ≡ false
  parent_outside v l d = not_so (inside ps v (up ps v)) (λ e. d (loop_root v l e))

  -- a step of a climb, in numbers
  pub one_step : (u v : ℕ) → v < length ps → v ≢ r → one (inside ps u v) ≡ one (eqb v u) + one (inside ps u (up ps v))
  one_step u v l d = go (ℕ_discrete v u)
    where
      go : Dec (v ≡ u) → one (inside ps u v) ≡ one (eqb v u) + one (inside ps u (up ps v))
      go (yes e) = rw (← e, eq-eqb v v refl, inside_self v, parent_outside v l d)
      go (no n) = rw (above u v l, ne_eqb v u n) (omega arith)

  -- no two nodes are each other's parents
  pub no_pair : (c v : ℕ) → c < length ps → c ≢ r → up ps c ≡ v → c ≢ up ps v
  no_pair c v l d e g = false≢true (sym (parent_outside c l d) ∙ above c (up ps c) (f.parent_lt c l)
      ∙ rw (e, ← g, inside_self c) (or-true (eqb v c)))

  pub child_off_root : (u c : ℕ) → Child ps u c → c ≢ r
  child_off_root u c k e = k.other (e ∙ sym f.root_parent ∙ ap (up ps) (sym e) ∙ k.up)

  -- what lies outside a node lies outside its children
  pub outside_child : (u c v : ℕ) → Child ps u c → v < length ps → inside ps u v ≡ false → inside ps c v ≡ false
  outside_child u c v k l o = not_so (inside ps c v) (λ e. false≢true (sym o ∙ sym (ap (λ (p : ℕ). inside ps p v) k.up) ∙ inside_up c v l e))

  pub outside_sibling : (u c v : ℕ) → Child ps u c → Child ps u v → v ≢ c → inside ps c v ≡ false
  outside_sibling u c v k j d = above c v j.lt ∙ rw (ne_eqb v c d, j.up) (rw k.up at (parent_outside c k.lt (child_off_root u c k)))

  pub outside_other : (u v : ℕ) → inside ps u v ≡ false → v ≢ u
  outside_other u v o e = false≢true (sym o ∙ ap (inside ps u) e ∙ inside_self u)

  -- what lies inside a node that lies inside another lies inside that
  pub inside_trans : (a b c : ℕ) → b < length ps → c < length ps → inside ps a b ≡ true → inside ps b c ≡ true → inside ps a c ≡ true
  inside_trans a b c l k = down_ind (λ b. inside ps a b ≡ true → inside ps b c ≡ true → inside ps a c ≡ true) base next b l
    where
      base : inside ps a r ≡ true → inside ps r c ≡ true → inside ps a c ≡ true
      base e i = let q : r ≡ a = eqb-true r a (sym (root_inside a) ∙ e) in rw (← q) i

      next : (b : ℕ) → b < length ps → b ≢ r → (inside ps a (up ps b) ≡ true → inside ps (up ps b) c ≡ true → inside ps a c ≡ true)
          → inside ps a b ≡ true → inside ps b c ≡ true → inside ps a c ≡ true
      next b l d ih e i = at (eqb b a) refl (sym (above a b l) ∙ e)
        where
          at : (x : Bool) → eqb b a ≡ x → (x || inside ps a (up ps b)) ≡ true → inside ps a c ≡ true
          at true q _ = rw (← (eqb-true b a q)) i
          at false q j = ih j (inside_up b c k i)

  pub inside_of_child : (u c v : ℕ) → Child ps u c → v < length ps → inside ps c v ≡ true → inside ps u v ≡ true
  inside_of_child u c v k l e = rw k.up at (inside_up c v l e)

  -- a node inside a is a, or its parent is inside a
  pub inside_split : (a v : ℕ) → v < length ps → inside ps a v ≡ true → (v ≡ a) ⊎ (inside ps a (up ps v) ≡ true)
  inside_split a v l e = at (eqb v a) refl (sym (above a v l) ∙ e)
    where
      at : (b : Bool) → eqb v a ≡ b → (b || inside ps a (up ps v)) ≡ true → (v ≡ a) ⊎ (inside ps a (up ps v) ≡ true)
      at true q _ = inl (eqb-true v a q)
      at false q i = inr i

  pub child_above : (u c : ℕ) → Child ps u c → inside ps c u ≡ true → ⊥
  child_above u c k e = false≢true (sym (parent_outside c k.lt (child_off_root u c k)) ∙ ap (inside ps c) k.up ∙ e)

  -- no node is inside two children of a node
  pub siblings_apart : (u c d : ℕ) → Child ps u c → Child ps u d → (v : ℕ) → v < length ps → inside ps c v ≡ true → inside ps d v ≡ true → c ≡ d
  siblings_apart u c d p q = down_ind (λ v. inside ps c v ≡ true → inside ps d v ≡ true → c ≡ d) base next
    where
      base : inside ps c r ≡ true → inside ps d r ≡ true → c ≡ d
      base e g = sym (eqb-true r c (sym (root_inside c) ∙ e)) ∙ eqb-true r d (sym (root_inside d) ∙ g)

      next : (v : ℕ) → v < length ps → v ≢ r → (inside ps c (up ps v) ≡ true → inside ps d (up ps v) ≡ true → c ≡ d) → inside ps c v ≡ true → inside ps d v ≡ true → c ≡ d
      next v l n ih e g = go (inside_split c v l e) (inside_split d v l g)
        where
          go : (v ≡ c) ⊎ (inside ps c (up ps v) ≡ true) → (v ≡ d) ⊎ (inside ps d (up ps v) ≡ true) → c ≡ d
          go (inl a) (inl b) = sym a ∙ b
          go (inl a) (inr b) = absurd (child_above u d q (rw (a, p.up) at b))
          go (inr a) (inl b) = absurd (child_above u c p (rw (b, q.up) at a))
          go (inr a) (inr b) = ih a b

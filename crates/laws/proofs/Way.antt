-- The way from a node to the root, for the loops that climb it and write an entry at each node that they meet. The nodes on the way from v are
-- those in whose subtree v lies; when the climb has come to w, those of them that are not on the way from w have been written.
use mathlib.Core.Path.{◌≡◌, refl, sym, ap, ◌∙◌}
use mathlib.Core.Logic.{◌≢◌}
use mathlib.Core.Bool.{Bool, true, false, not, cond, ◌&&◌, and-true}
use mathlib.Core.List.{List, map}
use Prim.Native.Nat.{ℕ, suc, ◌+◌, ◌*◌, ◌<◌}
use native.Mathlib.Omega.{arith}
use native.Mathlib.Decide.{ℕ_discrete}
use lib.ListN.{length, get_or, set, length-set}
use lib.Seq.{get_or-set_same, get_or-set_other}
use lib.Dec.{eqb}
use borrow.Author.Tests.{ne_eqb}
use Rattle.model.specs.Yard.{up, one, sum, inside}
use Rattle.model.specs.Calls.Answers.{range}
use Rattle.laws.proofs.Basics.{eqb_sym}
use Rattle.laws.proofs.Sums.{sum_cong, sum_add, sum_pick}
use Rattle.laws.proofs.Climb.{inside_step}
use Rattle.laws.proofs.Trees.{Wood, inside_self, root_inside, inside_up, parent_outside, one_step}
use Rattle.laws.proofs.Ranges.{listed}

-- the number of nodes on the way from w, w itself included: one fewer from its parent, and never more than all, so the climb ends
abbrev pub way_length : List ℕ → ℕ → ℕ
way_length ps w = sum (length ps) (λ u. one (inside ps u w))

pub way_length_parent : {ps : List ℕ} {r : ℕ} (g : Wood ps r) (w : ℕ) → w < length ps → w ≢ r → way_length ps w ≡ suc (way_length ps (up ps w))
way_length_parent {ps} g w l d =
    sum_cong (length ps) _ (λ u. one (inside ps u (up ps w)) + one (eqb u w) * 1) (λ u _. omega (arith, one_step g u w l d, ap one (eqb_sym w u)))
    ∙ sum_add (length ps) (λ u. one (inside ps u (up ps w))) (λ u. one (eqb u w) * 1)
    ∙ omega (arith, sum_pick (length ps) w (λ _. 1) l)

-- the climb from v has come to w: in the list, f has been written at the nodes on the way below w
pub record Climbed {A : Type 0} (ps : List ℕ) (f : ℕ → A) (d : A) (v : ℕ) (list now : List A) (w : ℕ) : Type 0 where
  pub node_lt : w < length ps
  pub on_way : inside ps w v ≡ true
  pub long : length now ≡ length ps
  pub entries : (u : ℕ) → u < length ps → get_or now u d ≡ cond ((inside ps u v) && (not (inside ps u w))) (f u) (get_or list u d)

module _ {ps : List ℕ} {r : ℕ} (g : Wood ps r) {A : Type 0} (f : ℕ → A) (d : A) (v : ℕ) (l : v < length ps) (list : List A) where
  pub climb_start : length list ≡ length ps → Climbed ps f d v list list v
  climb_start k = record { node_lt = l; on_way = inside_self g v; long = k; entries = λ u _. never (inside ps u v) (get_or list u d) (f u) }
    where
      never : (b : Bool) (k m : A) → k ≡ cond (b && not b) m k
      never true k m = refl
      never false k m = refl

  module _ (now : List A) (w : ℕ) (c : Climbed ps f d v list now w) where
    -- the entry at w has not been written before
    pub climb_entry : get_or now w d ≡ get_or list w d
    climb_entry = c.entries w c.node_lt ∙ rw (inside_self g w, c.on_way)

    same : get_or (set now w (f w)) w d ≡ f w
    same = get_or-set_same now w (f w) d (omega (arith, c.node_lt, c.long))

    other : (u : ℕ) → u < length ps → u ≢ w → get_or (set now w (f w)) u d ≡ cond ((inside ps u v) && (not (inside ps u w))) (f u) (get_or list u d)
    other u k q = get_or-set_other now w u (f w) d q ∙ c.entries u k

    pub climb_next : w ≢ r → Climbed ps f d v list (set now w (f w)) (up ps w)
    climb_next e = record {
      node_lt = g.parent_lt w c.node_lt;
      on_way = inside_up g w v l c.on_way;
      long = simp length-set c.long;
      entries = λ u k. go u k (ℕ_discrete u w);
    }
      where
        go : (u : ℕ) → u < length ps → Dec (u ≡ w) → get_or (set now w (f w)) u d ≡ cond ((inside ps u v) && (not (inside ps u (up ps w)))) (f u) (get_or list u d)
        go u k (yes q) = rw (q, c.on_way, parent_outside g w c.node_lt e) same
        go u k (no q) = other u k q ∙ rw (inside_step ps g.parent_lt u w c.node_lt, ne_eqb w u (λ s. q (sym s)))

    pub climb_end : w ≡ r → set now w (f w) ≡ map (λ u. cond (inside ps u v) (f u) (get_or list u d)) (range 0 (length ps))
    climb_end e = listed (λ u. cond (inside ps u v) (f u) (get_or list u d)) d (length ps) (set now w (f w)) (simp length-set c.long) (λ u k. go u k (ℕ_discrete u w))
      where
        go : (u : ℕ) → u < length ps → Dec (u ≡ w) → get_or (set now w (f w)) u d ≡ cond (inside ps u v) (f u) (get_or list u d)
        go u k (yes q) = rw (q, c.on_way) same
        go u k (no q) = other u k q ∙ rw (ap (inside ps u) e ∙ root_inside g u, ne_eqb r u (λ s. q (sym s ∙ sym e)), and-true (inside ps u v))

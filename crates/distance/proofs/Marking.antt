-- Distances from a node, known of more and more nodes: up from it to the root, then from each node up to the first that is known, and back.
use mathlib.Core.Path.{◌≡◌, refl, sym, ap, ◌∙◌}
use mathlib.Core.Logic.{◌≢◌}
use mathlib.Core.Bool.{Bool, true, false, cond}
use mathlib.Core.List.{List, map}
use Prim.Native.Nat.{ℕ, suc, ◌+◌, ◌-◌, ◌≤◌, ◌<◌}
use native.Mathlib.Omega.{arith}
use native.Mathlib.Decide.{ℕ_discrete}
use lib.ListN.{length, get_or, set, length-set}
use lib.Seq.{get_or-set_same, get_or-set_other}
use Rattle.model.specs.Yard.{Yard, size, parent, root, inside}
use Rattle.model.specs.Calls.Answers.{range}
use Rattle.model.specs.Distance.{distance}
use Rattle.laws.proofs.Basics.{not_so}
use Rattle.laws.proofs.Ranges.{length_range, get_d_listed}
use Rattle.laws.proofs.Trees.{Wood}
use Rattle.laws.proofs.Judged.{facts, wood}
use Rattle.laws.proofs.Way.{Climbed, climb_start, climb_next, climb_end}
use Rattle.laws.proofs.Distance.{distance_lt, distance_self, distance_climb, distance_off}
use Rattle.distance.specs.Far.{From, unknown, Unknown, Partly}

module _ {y : Yard} {parents : List ℕ} {a : ℕ} (f : From y parents a) where
  abbrev rails : Wood y.parents (root y)
  rails = wood y f.tree

  pub few : size y ≤ 256
  few = (facts y f.tree).few.1

  pub as_long : length parents ≡ size y
  as_long = ap length (sym f.same)

  pub up_is : (w : ℕ) → get_or parents w 0 ≡ parent y w
  up_is w = ap (λ (ps : List ℕ). get_or ps w 0) (sym f.same)

  -- the root is the node that is its own parent
  pub own_root : (w : ℕ) → w < size y → get_or parents w 0 ≡ w → w ≡ root y
  own_root w l e = rails.root_only w l (sym (up_is w) ∙ e)

  pub root_own : (w : ℕ) → w ≡ root y → get_or parents w 0 ≡ w
  root_own w e = up_is w ∙ rw e rails.root_parent

  far_known : (v : ℕ) → v < size y → distance y a v ≢ unknown
  far_known v l e = absurd (omega (arith, distance_lt y f.tree a v f.node l, few))

  -- on the way from a: it has come to w after so many steps, and they are the distances below
  pub record Marking (before list : List ℕ) (w steps : ℕ) : Type 0 where
    pub climbed : Climbed y.parents (distance y a) 0 a before list w
    pub far : steps ≡ distance y a w

  module _ {before : List ℕ} where
    pub mark_first : length before ≡ size y → Marking before before a 0
    mark_first e = record { climbed = climb_start rails (distance y a) 0 a f.node before e; far = sym (distance_self y f.tree a f.node) }

    module _ {list : List ℕ} {w steps : ℕ} (m : Marking before list w steps) where
      pub mark_few : steps < size y
      mark_few = omega (arith, m.far, distance_lt y f.tree a w f.node m.climbed.node_lt)

      pub mark_next : w ≢ root y → Marking before (set list w steps) (parent y w) (steps + 1)
      mark_next d = record {
        climbed = rw m.far (climb_next rails (distance y a) 0 a f.node before list w m.climbed d);
        far = omega (arith, m.far, distance_climb y f.tree a f.node w m.climbed.node_lt d m.climbed.on_way);
      }

      pub mark_last : Unknown before → length before ≡ size y → w ≡ root y → Partly y a (set list w steps)
      mark_last u l q = rw (m.far, climb_end rails (distance y a) 0 a f.node before list w m.climbed q) record {
        long = length_range _ 0 (size y);
        known = λ v k. rw (entry v k) (go v k (inside y.parents v a));
        on_way = λ v k i. rw (entry v k, i) (far_known v k);
      }
        where
          marked : ℕ → ℕ
          marked v = cond (inside y.parents v a) (distance y a v) (get_or before v 0)

          entry : (v : ℕ) → v < size y → get_or (map marked (range 0 (size y))) v 0 ≡ marked v
          entry v k = get_d_listed marked 0 (size y) v k

          go : (v : ℕ) → v < size y → (b : Bool) → cond b (distance y a v) (get_or before v 0) ≢ unknown → cond b (distance y a v) (get_or before v 0) ≡ distance y a v
          go v k true n = refl
          go v k false n = absurd (n (u v (omega (arith, l))))

  -- a node that is not known is one farther away than its parent
  module _ {list : List ℕ} (p : Partly y a list) {u : ℕ} (l : u < size y) (n : get_or list u 0 ≡ unknown) where
    pub farther : distance y a u ≡ suc (distance y a (parent y u))
    farther = distance_off y f.tree a f.node u l (not_so (inside y.parents u a) (λ i. p.on_way u l i n))

  -- up from v: so many steps up to u
  pub record Rising (v u steps : ℕ) : Type 0 where
    pub node : u < size y
    pub far : distance y a v ≡ distance y a u + steps

  pub rise_few : {v u climbed : ℕ} → v < size y → Rising v u climbed → climbed < size y
  rise_few {v} l r = omega (arith, r.far, distance_lt y f.tree a v f.node l)

  pub rise_next : {list : List ℕ} {v u steps : ℕ} → Partly y a list → Rising v u steps → get_or list u 0 ≡ unknown → Rising v (parent y u) (steps + 1)
  rise_next {u = u} p r n = record { node = rails.parent_lt u r.node; far = omega (arith, r.far, farther p r.node n) }

  -- and written: those below w
  pub record Writing (list : List ℕ) (w steps : ℕ) : Type 0 where
    pub partly : Partly y a list
    pub node : w < size y
    pub far : steps ≡ distance y a w

  pub write_next : {list : List ℕ} {w steps : ℕ} → Writing list w steps → get_or list w 0 ≡ unknown → Writing (set list w steps) (parent y w) (steps - 1)
  write_next {list} {w} {steps} r n = record {
    partly = record { long = length-set list w steps ∙ r.partly.long; known = λ x k. at x k (ℕ_discrete x w); on_way = λ x k i. kept x k i (ℕ_discrete x w) };
    node = rails.parent_lt w r.node;
    far = omega (arith, r.far, farther r.partly r.node n);
  }
    where
      written : get_or (set list w steps) w 0 ≡ distance y a w
      written = get_or-set_same list w steps 0 (omega (arith, r.node, r.partly.long)) ∙ r.far

      other : (x : ℕ) → x ≢ w → get_or (set list w steps) x 0 ≡ get_or list x 0
      other x d = get_or-set_other list w x steps 0 d

      at : (x : ℕ) → x < size y → Dec (x ≡ w) → get_or (set list w steps) x 0 ≢ unknown → get_or (set list w steps) x 0 ≡ distance y a x
      at x k (yes e) m = rw e written
      at x k (no d) m = other x d ∙ r.partly.known x k (λ h. m (other x d ∙ h))

      kept : (x : ℕ) → x < size y → inside y.parents x a ≡ true → Dec (x ≡ w) → get_or (set list w steps) x 0 ≢ unknown
      kept x k i (yes e) = rw (e, written) (far_known w r.node)
      kept x k i (no d) = rw (other x d) (r.partly.on_way x k i)

  -- a node whose parent is known
  pub partly_beside : {list : List ℕ} {v : ℕ} → Partly y a list → v < size y → get_or list v 0 ≡ unknown → get_or list (get_or parents v 0) 0 < 255
      → Partly y a (set list v (get_or list (get_or parents v 0) 0 + 1))
  partly_beside {list} {v} p l n k =
      let b : get_or list (parent y v) 0 < 255 = rw (sym (up_is v)) k in
      let h = p.known (parent y v) (rails.parent_lt v l) (omega arith) in
      rw (up_is v) (write_next {steps = get_or list (parent y v) 0 + 1} (record { partly = p; node = l; far = omega (arith, h, farther p l n) }) n).partly

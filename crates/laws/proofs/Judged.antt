-- What a yard is that no test of refusals 1 to 6 refuses: a tree, with no more pebbles or targets at a node than it is deep.
use mathlib.Core.Path.{◌≡◌, refl, sym, ap, subst, ◌∙◌}
use mathlib.Core.Logic.{◌↔◌}
use mathlib.Core.Bool.{Bool, true, false, not, ◌&&◌, and-eq-true_iff, and-false}
use mathlib.Core.List.{List, [], ◌∷◌}
use mathlib.Core.Option.{none}
use Prim.Native.Nat.{ℕ, ◌+◌, ◌≤◌, ◌<◌}
use native.Mathlib.Omega.{arith}
use native.Mathlib.Decide.{dec_le}
use lib.ListN.{length, get_or}
use lib.Dec.{leb, ltb, eqb}
use borrow.Author.Tests.{ltb-true, ltb-false, leb-true, leb-false, eqb-true, eq-eqb, ne_eqb, lt-ltb, le-ltb, le-leb, lt-leb, not-false}
use Rattle.model.specs.Yard.{Yard, yard_of, size, max_depth, parent, pebble, target, capacity, up, below, head_or, roots, root, climbs, inside}
use Rattle.model.specs.Judge.{first_of, at_lowest, root_fault, list_tests, shape_tests, tests, judge, Tree}
use Rattle.laws.proofs.Basics.{All, none_below, all_below, below_all, below_none, none_all, all_none, unless_none, at_lowest_none}
use Rattle.laws.proofs.Found.{below_rest}
use Rattle.laws.proofs.Climb.{never}
use Rattle.laws.proofs.Trees.{Wood}

-- none of the tests refuses the yard
pub passed : (y : Yard) → Tree y → All (λ r. r ≡ none) (tests y)
unfolding judge
passed y t = none_all (tests y) t

pub tree : (y : Yard) → All (λ r. r ≡ none) (tests y) → Tree y
unfolding judge
tree y p = all_none (tests y) p

-- what refusals 1 to 4 leave: parents that are nodes, and as many pebbles and targets as there is room for
pub record Flat (y : Yard) : Type 0 where
  pub few : (0 < size y) × (size y ≤ 256)
  pub pebbles_size : length y.pebbles ≡ size y
  pub targets_size : length y.targets ≡ size y
  pub depths_size : length y.depths ≡ size y
  pub parent_lt : (v : ℕ) → v < size y → parent y v < size y
  pub capacity_pos : (v : ℕ) → v < size y → 0 < capacity y v
  pub capacity_le : (v : ℕ) → v < size y → capacity y v ≤ 8
  pub pebble_le : (v : ℕ) → v < size y → pebble y v ≤ capacity y v
  pub target_le : (v : ℕ) → v < size y → target y v ≤ capacity y v

pub record Facts (y : Yard) : Type 0 where
  pub wood : Wood y.parents (root y)
  pub few : (0 < size y) × (size y ≤ 256)
  pub pebbles_size : length y.pebbles ≡ size y
  pub targets_size : length y.targets ≡ size y
  pub depths_size : length y.depths ≡ size y
  pub capacity_pos : (v : ℕ) → v < size y → 0 < capacity y v
  pub capacity_le : (v : ℕ) → v < size y → capacity y v ≤ 8
  pub pebble_le : (v : ℕ) → v < size y → pebble y v ≤ capacity y v
  pub target_le : (v : ℕ) → v < size y → target y v ≤ capacity y v

one_root : (l : List ℕ) → root_fault l ≡ none → l ≡ head_or 0 l ∷ []
one_root [] e = cc
one_root (r ∷ []) e = refl
one_root (r ∷ s ∷ l) e = cc

pub flat : (y : Yard) → first_of (list_tests y) ≡ none → Flat y
flat y e = record {
  few = (ltb-true 0 (size y) sizes.0, leb-true (size y) 256 sizes.1);
  pebbles_size = eqb-true (length y.pebbles) (size y) lengths.0;
  targets_size = eqb-true (length y.targets) (size y) rest.0;
  depths_size = eqb-true (length y.depths) (size y) rest.1;
  capacity_pos = λ v l. ltb-true 0 (capacity y v) (deep v l).0;
  capacity_le = λ v l. leb-true (capacity y v) 8 (deep v l).1;
  parent_lt = λ v l. leb-false (size y) (parent y v) (below_none _ (λ v. leb (size y) (parent y v)) (at_lowest_none 4 _ p.1.1.1.1.1.0) v l);
  pebble_le = λ v l. ltb-false (capacity y v) (pebble y v) (below_none _ (λ v. ltb (capacity y v) (pebble y v)) (at_lowest_none 27 _ p.1.1.1.0) v l);
  target_le = λ v l. ltb-false (capacity y v) (target y v) (below_none _ (λ v. ltb (capacity y v) (target y v)) (at_lowest_none 27 _ p.1.1.1.1.0) v l);
}
  where
    p : All (λ r. r ≡ none) (list_tests y)
    p = none_all (list_tests y) e

    sizes : (ltb 0 (size y) ≡ true) × (leb (size y) 256 ≡ true)
    sizes = (and-eq-true_iff _ _).0 (unless_none _ 1 0 p.0)

    lengths : (eqb (length y.pebbles) (size y) ≡ true) × (((eqb (length y.targets) (size y)) && (eqb (length y.depths) (size y))) ≡ true)
    lengths = (and-eq-true_iff _ _).0 (unless_none _ 2 0 p.1.0)

    rest : (eqb (length y.targets) (size y) ≡ true) × (eqb (length y.depths) (size y) ≡ true)
    rest = (and-eq-true_iff _ _).0 lengths.1

    fit : ℕ → Bool
    fit v = (ltb 0 (capacity y v)) && (leb (capacity y v) max_depth)

    deep : (v : ℕ) → v < size y → (ltb 0 (capacity y v) ≡ true) × (leb (capacity y v) max_depth ≡ true)
    deep v l = (and-eq-true_iff _ _).0 (not-false (fit v) (below_none _ (λ v. not (fit v)) (at_lowest_none 26 _ p.1.1.0) v l))

pub tree_lists : (y : Yard) → Tree y → first_of (list_tests y) ≡ none
tree_lists y t = let p = passed y t in all_none (list_tests y) (p.0, (p.1.0, (p.1.1.0, (p.1.1.1.0, (p.1.1.1.1.0, (p.1.1.1.1.1.0, tt))))))

pub facts : (y : Yard) → Tree y → Facts y
unfolding roots inside
facts y t = record {
  wood = record {
    parent_lt = f.parent_lt;
    root_lt = own.0.0;
    root_parent = own.0.1;
    root_only = λ v l e. below_all (λ v. v ≡ root y) is_root (size y) (subst (All (λ v. v ≡ root y)) (sym single) (refl, tt)) v l (eq-eqb (parent y v) v e);
    to_root = λ v l. not-false (climbs (size y) y.parents v (root y)) (below_none _ (λ v. not (climbs (size y) y.parents v (root y))) (at_lowest_none 6 _ p.1.1.1.1.1.1.1.0) v l);
  };
  few = f.few;
  pebbles_size = f.pebbles_size;
  targets_size = f.targets_size;
  depths_size = f.depths_size;
  capacity_pos = f.capacity_pos;
  capacity_le = f.capacity_le;
  pebble_le = f.pebble_le;
  target_le = f.target_le;
}
  where
    p : All (λ r. r ≡ none) (tests y)
    p = passed y t

    f : Flat y
    f = flat y (tree_lists y t)

    is_root : ℕ → Bool
    is_root v = eqb (parent y v) v

    single : below (size y) is_root ≡ root y ∷ []
    single = one_root (roots y.parents) p.1.1.1.1.1.1.0

    own : All (λ v. (v < size y) × (parent y v ≡ v)) (root y ∷ [])
    own = subst (All (λ v. (v < size y) × (parent y v ≡ v))) single (all_below (λ v. (v < size y) × (parent y v ≡ v)) is_root (size y) (λ v l e. (l, eqb-true (parent y v) v e)))

-- the other way: one root that every node climbs to passes 5 and 6
module _ {ps : List ℕ} {r : ℕ} (f : Wood ps r) where
  pub roots_wood : roots ps ≡ r ∷ []
  unfolding roots
  roots_wood =
      below_rest (length ps) r own f.root_lt (eq-eqb (up ps r) r f.root_parent) (λ v l. other v (omega (arith, f.root_lt)) (λ q. omega arith))
      ∙ ap (λ (vs : List ℕ). r ∷ vs) (none_below (length ps) (λ v. (leb (r + 1) v) && (own v)) (λ v l. behind v l (dec_le (r + 1) v)))
    where
      own : ℕ → Bool
      own v = eqb (up ps v) v

      other : (v : ℕ) → v < length ps → (v ≡ r → ⊥) → own v ≡ false
      other v l d = ne_eqb (up ps v) v (λ q. d (f.root_only v l q))

      behind : (v : ℕ) → v < length ps → Dec (r + 1 ≤ v) → ((leb (r + 1) v) && (own v)) ≡ false
      behind v l (yes h) = rw (other v l (λ q. omega arith)) (and-false (leb (r + 1) v))
      behind v l (no h) = rw (lt-leb (r + 1) v (omega arith))

  pub shape_wood : (qs ts ds : List ℕ) → first_of (shape_tests (yard_of ps qs ts ds)) ≡ none
  unfolding inside
  shape_wood qs ts ds = rw (roots_wood, none_below (length ps) (λ v. not (climbs (length ps) ps v r)) (λ v l. rw (f.to_root v l)))

-- so what refusals 1 to 4 leave, with such a root, is a tree
pub flat_tree : (y : Yard) {r : ℕ} → Flat y → Wood y.parents r → Tree y
flat_tree y f w = tree y (
  rw (lt-ltb 0 (size y) f.few.0, le-leb (size y) 256 f.few.1),
  (
    rw (eq-eqb _ _ f.pebbles_size, eq-eqb _ _ f.targets_size, eq-eqb _ _ f.depths_size),
    (
      ap (at_lowest 26) (none_below (size y) _ (λ v l. rw (lt-ltb 0 (capacity y v) (f.capacity_pos v l), le-leb (capacity y v) max_depth (f.capacity_le v l)))),
      (
        ap (at_lowest 27) (none_below (size y) _ (λ v l. le-ltb _ _ (f.pebble_le v l))),
        (
          ap (at_lowest 27) (none_below (size y) _ (λ v l. le-ltb _ _ (f.target_le v l))),
          (ap (at_lowest 4) (none_below (size y) _ (λ v l. lt-leb (size y) (parent y v) (f.parent_lt v l))), none_all (shape_tests y) (shape_wood w y.pebbles y.targets y.depths)),
        ),
      ),
    ),
  ),
)

-- of a yard past refusal 4, refusal 6's test by as many steps as there are nodes says that no number of steps reaches the root
pub never_root : (y : Yard) → first_of (list_tests y) ≡ none → (v : ℕ) → v < size y
    → (climbs (size y) y.parents v (root y) ≡ false) ↔ ((k : ℕ) → climbs k y.parents v (root y) ≡ false)
never_root y p = never y.parents (flat y p).parent_lt (root y)

pub wood : (y : Yard) → Tree y → Wood y.parents (root y)
wood y t = (facts y t).wood

-- the same nodes with other counts, none above their depths
pub counted_tree : (y : Yard) → Tree y → (ps ts : List ℕ) → length ps ≡ size y → length ts ≡ size y
    → ((v : ℕ) → v < size y → get_or ps v 0 ≤ capacity y v) → ((v : ℕ) → v < size y → get_or ts v 0 ≤ capacity y v) → Tree (yard_of y.parents ps ts y.depths)
counted_tree y t ps ts lp lt hp ht =
    let p = passed y t in
    tree (yard_of y.parents ps ts y.depths) (
      p.0,
      (
        rw (eq-eqb _ _ lp, eq-eqb _ _ lt, eq-eqb _ _ (facts y t).depths_size),
        (p.1.1.0, (ap (at_lowest 27) (none_below (size y) _ (λ v l. le-ltb _ _ (hp v l))), (ap (at_lowest 27) (none_below (size y) _ (λ v l. le-ltb _ _ (ht v l))), p.1.1.1.1.1))),
      ),
    )

-- The tests of refusals 1 to 6 one by one, from what is found of four lists: each refuses, or is passed.
use mathlib.Core.Path.{◌≡◌, refl, sym, ap, ◌∙◌}
use mathlib.Core.Logic.{◌≢◌}
use mathlib.Core.Bool.{Bool, true, false, not, ◌&&◌, and-eq-true_iff, false≢true}
use mathlib.Core.List.{List, [], ◌∷◌}
use mathlib.Core.Option.{Option, none, some}
use Prim.Native.Nat.{ℕ, ◌+◌, ◌≤◌, ◌<◌}
use native.Mathlib.Omega.{arith}
use lib.ListN.{length, get_or}
use lib.Dec.{leb, ltb, eqb, leb-zero}
use borrow.Author.Tests.{ltb-true, leb-true, eqb-true, lt-ltb, le-leb, lt-leb, eq-eqb, ne_eqb}
use Rattle.model.specs.Yard.{Yard, yard_of, max_size, max_depth, up, below, climbs, roots, head_or}
use Rattle.model.specs.Judge.{Fault, fault, first_of, size_fault, root_fault, length_tests, entry_tests, list_tests, shape_tests, judge}
use Rattle.laws.proofs.Basics.{first_refused, first_passed, none_all, unless_none, below_none, none_below}
use Rattle.laws.proofs.Climb.{climbs_fixed}
use Rattle.laws.proofs.Found.{lowest_fault, lowest_none, lowest_is, below_rest, below_cong}

-- 1 and 2
module _ (ps qs ts ds : List ℕ) where
  abbrev y : Yard
  y = yard_of ps qs ts ds

  pub size_zero : length ps ≡ 0 → fault 1 0 ≡ first_of (length_tests y)
  size_zero e = rw e

  pub size_large : max_size < length ps → fault 1 0 ≡ first_of (length_tests y)
  size_large l = rw (lt-ltb 0 (length ps) (omega arith), lt-leb (length ps) max_size l)

  module _ (l : 0 < length ps) (m : length ps ≤ max_size) where
    size_fits : size_fault y ≡ none
    size_fits = rw (lt-ltb 0 (length ps) l, le-leb (length ps) max_size m)

    pub pebbles_length : length qs ≢ length ps → fault 2 0 ≡ first_of (length_tests y)
    pebbles_length d = rw (size_fits, ne_eqb (length qs) (length ps) d)

    pub targets_length : length qs ≡ length ps → length ts ≢ length ps → fault 2 0 ≡ first_of (length_tests y)
    targets_length e d = rw (size_fits, eq-eqb (length qs) (length ps) e, ne_eqb (length ts) (length ps) d)

    pub depths_length : length qs ≡ length ps → length ts ≡ length ps → length ds ≢ length ps → fault 2 0 ≡ first_of (length_tests y)
    depths_length e f d = rw (size_fits, eq-eqb (length qs) (length ps) e, eq-eqb (length ts) (length ps) f, ne_eqb (length ds) (length ps) d)

    pub lengths_pass : length qs ≡ length ps → length ts ≡ length ps → length ds ≡ length ps → none ≡ first_of (length_tests y)
    lengths_pass e f g = rw (size_fits, eq-eqb (length qs) (length ps) e, eq-eqb (length ts) (length ps) f, eq-eqb (length ds) (length ps) g)

  pub passed_lengths : none ≡ first_of (length_tests y) → (0 < length ps) × (length ps ≤ max_size) × (length qs ≡ length ps) × (length ts ≡ length ps) × (length ds ≡ length ps)
  passed_lengths e =
      let a = none_all (length_tests y) (sym e) in
      let n = (and-eq-true_iff (ltb 0 (length ps)) (leb (length ps) max_size)).0 (unless_none _ 1 0 a.0) in
      let l = (and-eq-true_iff (eqb (length qs) (length ps)) ((eqb (length ts) (length ps)) && (eqb (length ds) (length ps)))).0 (unless_none _ 2 0 a.1.0) in
      let k = (and-eq-true_iff (eqb (length ts) (length ps)) (eqb (length ds) (length ps))).0 l.1 in
      (ltb-true 0 (length ps) n.0, leb-true (length ps) max_size n.1, eqb-true (length qs) (length ps) l.0, eqb-true (length ts) (length ps) k.0, eqb-true (length ds) (length ps) k.1)

-- 26, 27 and 4, by what a search for the lowest such node answers
module _ (ps qs ts ds : List ℕ) where
  abbrev n : ℕ
  n = length ps

  abbrev unfit : ℕ → Bool
  unfit v = not ((ltb 0 (get_or ds v 0)) && (leb (get_or ds v 0) max_depth))

  abbrev over : List ℕ → ℕ → Bool
  over counts v = ltb (get_or ds v 0) (get_or counts v 0)

  abbrev outside : ℕ → Bool
  outside v = leb n (get_or ps v 0)

  -- what a search answers
  abbrev Finds : (ℕ → Bool) → ℕ → Type 0
  Finds p r = r ≡ head_or n (below n p)

  abbrev entries : Option Fault
  entries = first_of (entry_tests (yard_of ps qs ts ds))

  pub depth_unfit : (r : ℕ) → Finds unfit r → r < n → fault 26 r ≡ entries
  depth_unfit r e l = rw (lowest_fault n unfit 26 r e l)

  module _ (d : ℕ) (e : Finds unfit d) (l : n ≤ d) where
    pub pebbles_over : (r : ℕ) → Finds (over qs) r → r < n → fault 27 r ≡ entries
    pebbles_over r f m = rw (lowest_none n unfit d e l, lowest_fault n (over qs) 27 r f m)

    module _ (p : ℕ) (f : Finds (over qs) p) (k : n ≤ p) where
      pub targets_over : (r : ℕ) → Finds (over ts) r → r < n → fault 27 r ≡ entries
      targets_over r g m = rw (lowest_none n unfit d e l, lowest_none n (over qs) p f k, lowest_fault n (over ts) 27 r g m)

      module _ (t : ℕ) (g : Finds (over ts) t) (m : n ≤ t) where
        pub parent_outside : (r : ℕ) → Finds outside r → r < n → fault 4 r ≡ entries
        parent_outside r h o = rw (lowest_none n unfit d e l, lowest_none n (over qs) p f k, lowest_none n (over ts) t g m, lowest_fault n outside 4 r h o)

        pub entries_pass : (r : ℕ) → Finds outside r → n ≤ r → none ≡ entries
        entries_pass r h o = rw (lowest_none n unfit d e l, lowest_none n (over qs) p f k, lowest_none n (over ts) t g m, lowest_none n outside r h o)

-- 5 and 6, by what the searches for a root, for a second one behind it and for a circle answer
module _ (ps : List ℕ) where
  abbrev shape : List (Option Fault)
  shape = shape_tests (yard_of ps [] [] [])

  abbrev own : ℕ → ℕ → Bool
  own start v = (leb start v) && (eqb (up ps v) v)

  roots_own : roots ps ≡ below (length ps) (own 0)
  unfolding roots
  roots_own = below_cong (length ps) (λ v. eqb (up ps v) v) (own 0) (λ v _. rw (leb-zero v))

  pub no_root : (r : ℕ) → r ≡ head_or (length ps) (below (length ps) (own 0)) → length ps ≤ r → fault 5 0 ≡ first_of shape
  no_root r e l = rw (roots_own, lowest_none (length ps) (own 0) r e l)

  module _ (r : ℕ) (e : r ≡ head_or (length ps) (below (length ps) (own 0))) (l : r < length ps) where
    roots_first : roots ps ≡ r ∷ below (length ps) (own (r + 1))
    roots_first =
        let f = lowest_is (length ps) (length ps) r (own 0) e (omega arith) in
        roots_own ∙ below_rest (length ps) r (own 0) l f.1 f.2
        ∙ ap (λ (vs : List ℕ). r ∷ vs) (below_cong (length ps) (λ v. (leb (r + 1) v) && (own 0 v)) (own (r + 1)) (λ v _. rw (leb-zero v)))

    pub second_root : {place : ℕ} (s : ℕ) → s ≡ head_or (length ps) (below (length ps) (own (r + 1))) → s < length ps → place ≡ s → fault 5 place ≡ first_of shape
    second_root s f m e = rw (e, ap root_fault roots_first ∙ go (below (length ps) (own (r + 1))) f)
      where
        go : (vs : List ℕ) → s ≡ head_or (length ps) vs → root_fault (r ∷ vs) ≡ fault 5 s
        go [] f = absurd (omega arith)
        go (v ∷ vs) f = rw f

    abbrev lost : ℕ → Bool
    lost v = not (climbs (length ps) ps v r)

    module _ (c : ℕ) (g : c ≡ head_or (length ps) (below (length ps) lost)) where
      pub on_circle : (s : ℕ) → s ≡ head_or (length ps) (below (length ps) (own (r + 1))) → length ps ≤ s → c < length ps → fault 6 c ≡ first_of shape
      on_circle s f m n = rw (roots_first, lowest_none (length ps) (own (r + 1)) s f m, lowest_fault (length ps) lost 6 c g n)

      -- where none is lost there is no second root, as that would be lost
      pub shape_pass : length ps ≤ c → none ≡ first_of shape
      shape_pass n = rw (roots_first, none_below (length ps) (own (r + 1)) (λ v m. go v m (own (r + 1) v) refl), all)
        where
          all : below (length ps) lost ≡ []
          all = lowest_none (length ps) lost c g n

          go : (v : ℕ) → v < length ps → (b : Bool) → own (r + 1) v ≡ b → own (r + 1) v ≡ false
          go v m false q = q
          go v m true q =
              let o = (and-eq-true_iff (leb (r + 1) v) (eqb (up ps v) v)).0 q in
              let d = climbs_fixed (length ps) ps v r (eqb-true (up ps v) v o.1) ∙ ne_eqb v r (λ e. absurd (omega (arith, leb-true (r + 1) v o.0))) in
              absurd (false≢true (sym (below_none (length ps) lost all v m) ∙ ap not d))

-- 1 to 4, and all six, by the groups
module _ (y : Yard) where
  pub lists_lengths : (f : Fault) → some f ≡ first_of (length_tests y) → some f ≡ first_of (list_tests y)
  lists_lengths f e = sym (first_refused (length_tests y) (entry_tests y) f (sym e))

  pub lists_entries : none ≡ first_of (length_tests y) → first_of (entry_tests y) ≡ first_of (list_tests y)
  lists_entries e = sym (first_passed (length_tests y) (entry_tests y) (sym e))

  pub judge_lists : (f : Fault) → some f ≡ first_of (list_tests y) → some f ≡ judge y
  unfolding judge
  judge_lists f e = sym (first_refused (list_tests y) (shape_tests y) f (sym e))

  pub judge_shape : none ≡ first_of (list_tests y) → first_of (shape_tests y) ≡ judge y
  unfolding judge
  judge_shape e = sym (first_passed (list_tests y) (shape_tests y) (sym e))

-- A yard within another: its nodes are those of the other that pass a test, numbered anew in rising order (`Within`). Under its root it has the
-- other's edges, pebbles, targets and depths, and the other has no pebble and no target elsewhere. Then what a subtree needs is the same in
-- both, and so are the child that is chosen and the side of a turn: what balances the one, under the other's numbers, balances the other.
use mathlib.Core.Path.{◌≡◌, refl, sym, ap, ◌∙◌, subst}
use mathlib.Core.Logic.{◌≢◌, ◌⊎◌, inl, inr}
use mathlib.Core.Bool.{Bool, true, false, or-true, false≢true}
use mathlib.Core.List.{List, [], ◌∷◌, ◌++◌, map, map-append}
use Prim.Native.Nat.{ℕ, ◌*◌, ◌≤◌, ◌<◌}
use native.Mathlib.Omega.{arith}
use native.Mathlib.Decide.{ℕ_discrete, dec_lt}
use lib.ListN.{get_or}
use lib.Dec.{eqb}
use borrow.Author.Tests.{ne_eqb}
use Rattle.model.specs.Yard.{Yard, size, parent, pebble, target, capacity, holding, one, sum, below, is_child, children, root, inside, subtotal, targets_in, pebbles_in, lacking, imbalance, Matched}
use Rattle.model.specs.Judge.{Tree}
use Rattle.model.specs.Push.{Move, push, moved, run}
use Rattle.model.specs.Plan.{needy, choice, neediest_child, fills}
use Rattle.laws.specs.Algorithms.{crossing, need, blocked, Serves, direct, behind, Settles, settled, turned, Balances}
use Rattle.laws.specs.Choice.{Child, Needy, Neediest}
use Rattle.laws.specs.Parts.{renamed}
use Rattle.laws.proofs.Basics.{All, not_so, all_below}
use Rattle.laws.proofs.Found.{below_cong}
use Rattle.laws.proofs.Sums.{sum_cong, sum_zero}
use Rattle.laws.proofs.Climb.{inside_step}
use Rattle.laws.proofs.Trees.{is_child_law, child_is, down_ind, inside_self, root_inside, inside_trans, parent_outside, child_above, child_off_root}
use Rattle.laws.proofs.Judged.{wood}
use Rattle.laws.proofs.Step.{Step, ends, moved_pebble, moved_tree}
use Rattle.laws.proofs.Runs.{Obeys, obeys, run_tree}
use Rattle.laws.proofs.Moves.{obeys_accepted, accepted_obeys}
use Rattle.laws.proofs.Shortest.{Good, good_append, good_tree, keeps}
use Rattle.laws.proofs.Choice.{all_needy, none_needy, nil_needy, neediest_none, neediest_some, neediest_is, fills_choice, choice_none, choice_sound}
use Rattle.laws.proofs.Serve.{Due, blocked_child}
use Rattle.laws.proofs.Balance.{Even, turn_chosen, first_needy, turned_shift, settles_good, Done, Fit, fit_children, fit_run, balances_good, fills_steers}
use Rattle.laws.proofs.Own.{Whole, sifted, settles_still, fill}
use Rattle.laws.proofs.Numbering.{rank, nth, nth_lt, nth_passes, nth_rises, nth_same, nth_eqb, nth_rank, rank_lt, sum_nth, sifted_nth}

pub record Within (p : ℕ → Bool) (a z : Yard) : Type 0 where
  pub all : size a ≡ rank p (size z)
  pub up : (i : ℕ) → i < size a → i ≢ root a → parent z (nth p (size z) i) ≡ nth p (size z) (parent a i)
  pub whole : Whole p z
  pub depths : (i : ℕ) → i < size a → capacity z (nth p (size z) i) ≡ capacity a i
  pub targets : (i : ℕ) → i < size a → target z (nth p (size z) i) ≡ target a i
  pub no_targets : (v : ℕ) → v < size z → p v ≡ false → target z v ≡ 0
  pub pebbles : (i : ℕ) → i < size a → pebble z (nth p (size z) i) ≡ pebble a i
  pub no_pebbles : (v : ℕ) → v < size z → p v ≡ false → pebble z v ≡ 0

-- as many pebbles and as many targets in the one as in the other
pub within_matched : {p : ℕ → Bool} {a z : Yard} → Within p a z → Matched z → Matched a
within_matched {p} {a} {z} w m = total (pebble z) (pebble a) w.pebbles w.no_pebbles ∙ m ∙ sym (total (target z) (target a) w.targets w.no_targets)
  where
    total : (g h : ℕ → ℕ) → ((i : ℕ) → i < size a → g (nth p (size z) i) ≡ h i) → ((v : ℕ) → v < size z → p v ≡ false → g v ≡ 0) → sum (size a) h ≡ sum (size z) g
    total g h e o = sym (sum_nth p (size z) g o ∙ ap (λ (k : ℕ). sum k (λ i. g (nth p (size z) i))) (sym w.all) ∙ sum_cong (size a) (λ i. g (nth p (size z) i)) h e)

module _ {p : ℕ → Bool} {a z : Yard} (ta : Tree a) (tz : Tree z) (w : Within p a z) where
  abbrev f : ℕ → ℕ
  f i = nth p (size z) i

  small : (i : ℕ) → i < size a → i < rank p (size z)
  small i l = omega (arith, w.all)

  f_lt : (i : ℕ) → i < size a → f i < size z
  f_lt i l = nth_lt p (size z) i (small i l)

  f_same : (i j : ℕ) → i < size a → j < size a → f i ≡ f j → i ≡ j
  f_same i j l k = nth_same p (size z) i j (small i l) (small j k)

  f_eqb : (i j : ℕ) → i < size a → j < size a → eqb (f i) (f j) ≡ eqb i j
  f_eqb i j l k = nth_eqb p (size z) i j (small i l) (small j k)

  -- no node but the root is the other's root, or has the root's old number inside
  off_root : (i : ℕ) → i < size a → i ≢ root a → f i ≢ root z
  off_root i l d e = d ((wood a ta).root_only i l (f_same (parent a i) i ((wood a ta).parent_lt i l) l (sym (w.up i l d) ∙ ap (parent z) e ∙ (wood z tz).root_parent ∙ sym e)))

  under : (i : ℕ) → i < size a → inside z.parents (f (root a)) (f i) ≡ true
  under = down_ind (wood a ta) (λ i. inside z.parents (f (root a)) (f i) ≡ true) (inside_self (wood z tz) (f (root a)))
      (λ i l d ih. inside_step z.parents (wood z tz).parent_lt (f (root a)) (f i) (f_lt i l) ∙ rw (w.up i l d, ih) (or-true (eqb (f i) (f (root a)))))

  above : (i : ℕ) → i < size a → i ≢ root a → inside z.parents (f i) (f (root a)) ≡ false
  above i l d = not_so (inside z.parents (f i) (f (root a))) (λ e. false≢true (
      sym (parent_outside (wood z tz) (f i) (f_lt i l) (off_root i l d))
      ∙ ap (inside z.parents (f i)) (w.up i l d)
      ∙ inside_trans (wood z tz) (f i) (f (root a)) (f (parent a i)) (f_lt (root a) (wood a ta).root_lt) (f_lt (parent a i) ((wood a ta).parent_lt i l)) e (under (parent a i) ((wood a ta).parent_lt i l))
      ))

  -- which node lies inside which is the same
  same_inside : (i j : ℕ) → i < size a → j < size a → inside z.parents (f i) (f j) ≡ inside a.parents i j
  same_inside i j l = down_ind (wood a ta) (λ j. inside z.parents (f i) (f j) ≡ inside a.parents i j) (base (ℕ_discrete (root a) i)) next j
    where
      base : Dec (root a ≡ i) → inside z.parents (f i) (f (root a)) ≡ inside a.parents i (root a)
      base (yes q) = rw (← q) (inside_self (wood z tz) (f (root a)) ∙ sym (inside_self (wood a ta) (root a)))
      base (no d) = above i l (λ e. d (sym e)) ∙ sym (root_inside (wood a ta) i ∙ ne_eqb (root a) i d)

      next : (j : ℕ) → j < size a → j ≢ root a → inside z.parents (f i) (f (parent a j)) ≡ inside a.parents i (parent a j) → inside z.parents (f i) (f j) ≡ inside a.parents i j
      next j k d ih =
          inside_step z.parents (wood z tz).parent_lt (f i) (f j) (f_lt j k)
          ∙ rw (w.up j k d, ih, f_eqb j i k l) (sym (inside_step a.parents (wood a ta).parent_lt i j k))

  -- and what lies inside
  same_subtotal : (g h : ℕ → ℕ) → ((i : ℕ) → i < size a → g (f i) ≡ h i) → ((v : ℕ) → v < size z → p v ≡ false → g v ≡ 0) → (i : ℕ) → i < size a → subtotal z.parents g (f i) ≡ subtotal a.parents h i
  unfolding subtotal
  same_subtotal g h e o i l =
      sum_nth p (size z) (λ v. one (inside z.parents (f i) v) * g v) (λ v k q. rw (o v k q) (omega arith))
      ∙ ap (λ (k : ℕ). sum k (λ j. one (inside z.parents (f i) (f j)) * g (f j))) (sym w.all)
      ∙ sum_cong (size a) (λ j. one (inside z.parents (f i) (f j)) * g (f j)) (λ j. one (inside a.parents i j) * h j) (λ j k. rw (same_inside i j l k, e j k))

  same_need : (b : Bool) (i : ℕ) → i < size a → need z b (f i) ≡ need a b i
  same_need b i l = go b (same_subtotal (target z) (target a) w.targets w.no_targets i l) (same_subtotal (pebble z) (pebble a) w.pebbles w.no_pebbles i l)
    where
      go : (b : Bool) → targets_in z (f i) ≡ targets_in a i → pebbles_in z (f i) ≡ pebbles_in a i → need z b (f i) ≡ need a b i
      go true t q = rw (t, q)
      go false t q = rw (t, q)

  same_imbalance : (i : ℕ) → i < size a → imbalance z (f i) ≡ imbalance a i
  same_imbalance i l = rw (same_need true i l, same_need false i l)

  -- a child in the other yard of a node that passes: a child here, or one inside which nothing is due
  child_in : (u c : ℕ) → u < size a → Child a.parents u c → Child z.parents (f u) (f c)
  child_in u c l k = record {
    lt = f_lt c k.lt;
    up = w.up c k.lt (child_off_root (wood a ta) u c k) ∙ ap f k.up;
    other = λ e. k.other (f_same c u k.lt l e);
  }

  kid : (u v : ℕ) → u < size a → Child z.parents (f u) v → ((j : ℕ) × Child a.parents u j × (v ≡ f j)) ⊎ (p v ≡ false)
  kid u v l k = go (p v) refl
    where
      go : (b : Bool) → p v ≡ b → ((j : ℕ) × Child a.parents u j × (v ≡ f j)) ⊎ (p v ≡ false)
      go false e = inr e
      go true e = inl (at (ℕ_discrete j (root a)))
        where
          j : ℕ
          j = rank p v

          j_lt : j < size a
          j_lt = omega (arith, w.all, rank_lt p (size z) v k.lt e)

          is : f j ≡ v
          is = nth_rank p (size z) v k.lt e

          at : Dec (j ≡ root a) → (j : ℕ) × Child a.parents u j × (v ≡ f j)
          at (yes q) = absurd (child_above (wood z tz) (f u) v k (rw (← is, q) (under u l)))
          at (no d) = (
            j,
            record {
              lt = j_lt;
              up = f_same (parent a j) u ((wood a ta).parent_lt j j_lt) l (sym (w.up j j_lt d) ∙ ap (parent z) is ∙ k.up);
              other = λ e. k.other (sym is ∙ ap f e);
            },
            sym is,
          )

  apart : (u c : ℕ) → u < size a → Child z.parents (f u) c → p c ≡ false → Done z c
  unfolding subtotal
  apart u c l k e v m i = omega (arith, none (target z) w.no_targets, none (pebble z) w.no_pebbles)
    where
      none : (g : ℕ → ℕ) → ((v : ℕ) → v < size z → p v ≡ false → g v ≡ 0) → subtotal z.parents g v ≡ 0
      none g o = sum_zero (size z) (λ x. one (inside z.parents v x) * g x) (λ x n. at x n (inside z.parents v x) refl)
        where
          at : (x : ℕ) → x < size z → (b : Bool) → inside z.parents v x ≡ b → one b * g x ≡ 0
          at x n true q = rw (o x n (w.whole (f u) c k (nth_passes p (size z) u (small u l)) e x n (inside_trans (wood z tz) c v x m n i q))) (omega arith)
          at x n false q = omega arith

  apart_even : (u c : ℕ) → u < size a → Child z.parents (f u) c → p c ≡ false → Even z c
  apart_even u c l k e = apart u c l k e c k.lt (inside_self (wood z tz) c)

  apart_need : (b : Bool) (u c : ℕ) → u < size a → Child z.parents (f u) c → p c ≡ false → need z b c ≡ 0
  apart_need true u c l k e = omega (arith, apart_even u c l k e)
  apart_need false u c l k e = omega (arith, apart_even u c l k e)

  same_child : (u i : ℕ) → u < size a → i < size a → is_child z.parents (f u) (f i) ≡ is_child a.parents u i
  same_child u i l k = go (is_child a.parents u i) refl
    where
      go : (b : Bool) → is_child a.parents u i ≡ b → is_child z.parents (f u) (f i) ≡ b
      go true e = child_is z.parents (f u) (f i) (child_in u i l (is_child_law a.parents u i k e))
      go false e = not_so (is_child z.parents (f u) (f i)) (λ q. at (kid u (f i) l (is_child_law z.parents (f u) (f i) (f_lt i k) q)))
        where
          at : ((j : ℕ) × Child a.parents u j × (f i ≡ f j)) ⊎ (p (f i) ≡ false) → ⊥
          at (inl h) = false≢true (sym e ∙ child_is a.parents u i (subst (Child a.parents u) (sym (f_same i h.0 k h.1.lt h.2)) h.1))
          at (inr h) = false≢true (sym h ∙ nth_passes p (size z) i (small i k))

  pub same_children : (u : ℕ) → u < size a → sifted p (children z (f u)) ≡ map f (children a u)
  same_children u l =
      sifted_nth p (size z) (is_child z.parents (f u))
      ∙ ap (λ (k : ℕ). map f (below k (λ i. is_child z.parents (f u) (f i)))) (sym w.all)
      ∙ ap (map f) (below_cong (size a) (λ i. is_child z.parents (f u) (f i)) (is_child a.parents u) (λ i k. same_child u i l k))

  -- the child that is chosen
  neediest_in : (b : Bool) (u r : ℕ) → u < size a → Neediest (need a b) a u r → Neediest (need z b) z (f u) (f r)
  neediest_in b u r l n = record { needy = (child_in u r l k, wants); most = λ v c. most v (kid u v l c) c; first = λ v c h. first v (kid u v l c) c h }
    where
      k : Child a.parents u r
      k = n.needy.0

      own : need z b (f r) ≡ need a b r
      own = same_need b r n.needy.0.lt

      wants : 0 < need z b (f r)
      wants = rw own n.needy.1

      most : (v : ℕ) → ((j : ℕ) × Child a.parents u j × (v ≡ f j)) ⊎ (p v ≡ false) → Child z.parents (f u) v → need z b v ≤ need z b (f r)
      most v (inl h) c = rw (h.2, own, same_need b h.0 h.1.lt) (n.most h.0 h.1)
      most v (inr h) c = omega (arith, apart_need b u v l c h)

      first : (v : ℕ) → ((j : ℕ) × Child a.parents u j × (v ≡ f j)) ⊎ (p v ≡ false) → Child z.parents (f u) v → v < f r → need z b v < need z b (f r)
      first v (inl h) c m = rw (h.2, own, same_need b h.0 h.1.lt) (n.first h.0 h.1 (lower (dec_lt h.0 r)))
        where
          lower : Dec (h.0 < r) → h.0 < r
          lower (yes x) = x
          lower (no x) = at (ℕ_discrete r h.0)
            where
              at : Dec (r ≡ h.0) → h.0 < r
              at (yes q) = absurd (omega (arith, h.2, ap f q))
              at (no q) = absurd (omega (arith, h.2, nth_rises p (size z) r h.0 (omega arith) (small h.0 h.1.lt)))
      first v (inr h) c m = omega (arith, apart_need b u v l c h, wants)

  same_choice : (b : Bool) (u : ℕ) → u < size a → choice (need z b) z (f u) ≡ f (choice (need a b) a u)
  unfolding choice
  same_choice b u l = go (needy (need a b) a u) refl
    where
      go : (vs : List ℕ) → needy (need a b) a u ≡ vs → neediest_child (need z b) z (f u) ≡ f (neediest_child (need a b) a u)
      go [] q = sym (neediest_none (need z b) z (f u) (λ v c. none v (kid u v l c) c)) ∙ ap f (neediest_none (need a b) a u (none_needy (need a b) a u q))
        where
          none : (v : ℕ) → ((j : ℕ) × Child a.parents u j × (v ≡ f j)) ⊎ (p v ≡ false) → Child z.parents (f u) v → need z b v ≡ 0
          none v (inl h) c = rw (h.2, same_need b h.0 h.1.lt) (none_needy (need a b) a u q h.0 h.1)
          none v (inr h) c = apart_need b u v l c h
      go (c ∷ cs) q =
          let k = (subst (All (Needy (need a b) a u)) q (all_needy (need a b) a u)).0 in
          sym (neediest_is (need z b) z (f u) (neediest_in b u (neediest_child (need a b) a u) l (neediest_some (need a b) a u c k)))

  choice_lt : (b : Bool) (u : ℕ) → u < size a → choice (need a b) a u < size a
  choice_lt b u l = go (needy (need a b) a u) refl
    where
      go : (vs : List ℕ) → needy (need a b) a u ≡ vs → choice (need a b) a u < size a
      go [] q = subst (λ v. v < size a) (choice_none (need a b) a u (none_needy (need a b) a u q)) l
      go (c ∷ cs) q = (choice_sound (need a b) a u c (subst (All (Needy (need a b) a u)) q (all_needy (need a b) a u)).0).0.lt

  same_fills : (u : ℕ) → u < size a → fills z (f u) ≡ fills a u
  same_fills u l = fills_choice z (f u) ∙ rw (w.pebbles u l, same_choice true u l, f_eqb (choice (lacking a) a u) u (choice_lt true u l) l) (sym (fills_choice a u))

  same_blocked : (b : Bool) (u : ℕ) → u < size a → blocked z b (f u) ≡ blocked a b u
  same_blocked b u l = rw (w.pebbles u l, w.depths u l)

  same_even : (u : ℕ) → u < size a → ((c : ℕ) → Child a.parents u c → Even a c) → (v : ℕ) → Child z.parents (f u) v → Even z v
  same_even u l e v c = go (kid u v l c)
    where
      go : ((j : ℕ) × Child a.parents u j × (v ≡ f j)) ⊎ (p v ≡ false) → Even z v
      go (inl h) = rw h.2 (same_imbalance h.0 h.1.lt ∙ e h.0 h.1)
      go (inr h) = apart_even u v l c h

  same_needy : (u c : ℕ) (cs : List ℕ) → u < size a → needy (imbalance a) a u ≡ c ∷ cs → (d : ℕ) × (ds : List ℕ) × (needy (imbalance z) z (f u) ≡ d ∷ ds)
  same_needy u c cs l q = go (needy (imbalance z) z (f u)) refl
    where
      go : (vs : List ℕ) → needy (imbalance z) z (f u) ≡ vs → (d : ℕ) × (ds : List ℕ) × (vs ≡ d ∷ ds)
      go [] e =
          let n = first_needy a u c cs q in
          absurd (nil_needy (imbalance z) z (f u) e (f c) (child_in u c l n.0, rw (same_imbalance c n.0.lt) n.1))
      go (d ∷ ds) e = (d, ds, refl)

  -- the moves by which a pebble goes over an edge, under the other's numbers
  abbrev name : Move → Move
  name m = push (f m.from) (f m.to)

  crossing_renamed : (b : Bool) (v : ℕ) → v < size a → v ≢ root a → name (crossing a.parents b v) ≡ crossing z.parents b (f v)
  crossing_renamed true v l d = rw (w.up v l d)
  crossing_renamed false v l d = rw (w.up v l d)

  serves_renamed : {b : Bool} {v : ℕ} {ms : List Move} → Serves choice a b v ms → Due a b v → Serves choice z b (f v) (renamed (below (size z) p) ms)
  serves_renamed {b} {v} (direct e) u = subst (λ m. Serves choice z b (f v) (m ∷ [])) (sym (crossing_renamed b v u.lt u.off_root)) (direct (same_blocked b v u.lt ∙ e))
  serves_renamed {b} {v} (behind {ms = ms} e s) u =
      let q = blocked_child choice choice_sound a ta b v u e in
      let h : Serves choice z b (choice (need z b) z (f v)) (renamed (below (size z) p) ms) = rw (same_choice b v u.lt) (serves_renamed s q.1) in
      rw (map-append, crossing_renamed b v u.lt u.off_root) (behind (same_blocked b v u.lt ∙ e) h)

  turn_renamed : {u c : ℕ} {cs : List ℕ} {ms : List Move} → u < size a → Even a u → needy (imbalance a) a u ≡ c ∷ cs → Serves choice a (fills a u) (choice (need a (fills a u)) a u) ms
      → Serves choice z (fills z (f u)) (choice (need z (fills z (f u))) z (f u)) (renamed (below (size z) p) ms)
  turn_renamed {u} {c} {cs} {ms} l e q s =
      let n = first_needy a u c cs q in
      let d = turn_chosen fills choice choice_sound a ta (fills_steers a) u l e c n.0 n.1 in
      subst (λ b. Serves choice z b (choice (need z b) z (f u)) (renamed (below (size z) p) ms)) (sym (same_fills u l)) (rw (same_choice (fills a u) u l) (serves_renamed s d.1))

  -- a push
  step_renamed : (m : Move) → Step a m → Step z (name m)
  step_renamed m s = record {
    tree = tz;
    away = s.away;
    node = f s.node;
    node_lt = f_lt s.node s.node_lt;
    off_root = off_root s.node s.node_lt s.off_root;
    is = ap name s.is ∙ crossing_renamed s.away s.node s.node_lt s.off_root;
    holds = rw (w.pebbles m.from (ends a m s).0) s.holds;
    room = rw (w.pebbles m.to (ends a m s).1, w.depths m.to (ends a m s).1) s.room;
  }

  within_moved : (m : Move) → Step a m → Within p (moved a m) (moved z (name m))
  within_moved m s = record {
    all = w.all;
    up = w.up;
    whole = w.whole;
    depths = w.depths;
    targets = w.targets;
    no_targets = w.no_targets;
    pebbles = λ i l. omega (
      arith,
      w.pebbles i l,
      moved_pebble a m s i,
      moved_pebble z (name m) (step_renamed m s) (f i),
      ap one (f_eqb i m.from l (ends a m s).0),
      ap one (f_eqb i m.to l (ends a m s).1),
    );
    no_pebbles = λ v l e. omega (
      arith,
      w.no_pebbles v l e,
      moved_pebble z (name m) (step_renamed m s) v,
      ap one (ne_eqb v (f m.from) (other v e m.from (ends a m s).0)),
      ap one (ne_eqb v (f m.to) (other v e m.to (ends a m s).1)),
    );
  }
    where
      other : (v : ℕ) → p v ≡ false → (i : ℕ) → i < size a → v ≢ f i
      other v e i l q = false≢true (sym e ∙ ap p q ∙ nth_passes p (size z) i (small i l))

renamed_append : (ns : List ℕ) (ms ls : List Move) → renamed ns (ms ++ ls) ≡ renamed ns ms ++ renamed ns ls
renamed_append ns = map-append (λ m. push (get_or ns m.from 0) (get_or ns m.to 0))

module _ (p : ℕ → Bool) where
  within_obeys : {a e : Yard} {ms : List Move} → Obeys a ms e → Tree a → (z : Yard) → Tree z → Within p a z
      → (rs : List ℕ) × Obeys z (renamed (below (size z) p) ms) (holding z rs) × Within p e (holding z rs)
  within_obeys Obeys.done ta z tz w = (z.pebbles, Obeys.done, w)
  within_obeys (Obeys.next {y = a} {m = m} s o) ta z tz w =
      let n = push (nth p (size z) m.from) (nth p (size z) m.to) in
      let k = step_renamed ta tz w m s in
      let r = within_obeys o (moved_tree a m s) (moved z n) (moved_tree z n k) (within_moved ta tz w m s) in
      (r.0, Obeys.next {z = holding z r.0} k r.1, r.2)

  within_run : (a : Yard) → Tree a → (ms : List Move) → Good a ms → (z : Yard) → Tree z → Within p a z
      → Tree (run z (renamed (below (size z) p) ms)) × Within p (run a ms) (run z (renamed (below (size z) p) ms))
  within_run a ta ms g z tz w =
      let r = within_obeys (accepted_obeys a ta ms g.obeyed) ta z tz w in
      (run_tree (obeys (renamed (below (size z) p) ms) z tz) tz, rw (obeys_accepted r.1).1 r.2)

  settles_renamed : {a : Yard} {u : ℕ} {ms : List Move} → Settles fills choice a u ms → Tree a → u < size a → Even a u → (z : Yard) → Tree z → Within p a z
      → Settles fills choice z (nth p (size z) u) (renamed (below (size z) p) ms)
  settles_renamed {a} {u} (settled q) ta l e z tz w = settles_still z (nth p (size z) u) (same_even ta tz w u l (none_needy (imbalance a) a u q))
  settles_renamed {a} {u} (turned {c = c} {cs = cs} {ms = ms} {ns = ns} q s r) ta l e z tz w =
      let g = (turned_shift fills choice choice_sound ta (fills_steers a) l e q s).0 in
      let x = within_run a ta ms g z tz w in
      let rest = settles_renamed r (good_tree a ta ms g) l (omega (arith, keeps a ta ms g u l)) (run z (renamed (below (size z) p) ms)) x.0 x.1 in
      let d = same_needy ta tz w u c cs l q in
      rw map-append (turned d.2 (turn_renamed ta tz w l e q s) rest)

  -- balancing
  pub balances_renamed : {a : Yard} {us : List ℕ} {ms : List Move} → Balances fills choice a us ms → Tree a → All (Fit a) us → (z : Yard) → Tree z → Within p a z
      → Balances fills choice z (map (nth p (size z)) us) (renamed (below (size z) p) ms)
  balances_renamed Balances.none ta h z tz w = Balances.none
  balances_renamed {a} (Balances.next {u = u} {us = us} {ms = ms} {ns = ns} {ps = ps} s b r) ta h z tz w =
      let l = h.0.0 in
      let g = settles_good fills choice choice_sound s ta (fills_steers a) l h.0.1 in
      let tree = good_tree a ta ms g.good in
      let x = within_run a ta ms g.good z tz w in
      let kids = balances_renamed b tree (fit_children a u ms g) (run z (renamed (below (size z) p) ms)) x.0 x.1 in
      let full = fill p (run z (renamed (below (size z) p) ms)) x.0 (children z (nth p (size z) u)) (renamed (below (size z) p) ns)
      (all_below (Fit (run z (renamed (below (size z) p) ms))) (is_child z.parents (nth p (size z) u)) (size z)
      (λ c k e. (k, same_even tree x.0 x.1 u l g.kids c (is_child_law z.parents (nth p (size z) u) c k e))))
      (all_below (λ c. p c ≡ false → Done (run z (renamed (below (size z) p) ms)) c) (is_child z.parents (nth p (size z) u)) (size z)
      (λ c k e. apart tree x.0 x.1 u c l (is_child_law z.parents (nth p (size z) u) c k e)))
      (subst (λ cs. Balances fills choice (run z (renamed (below (size z) p) ms)) cs (renamed (below (size z) p) ns)) (sym (same_children ta tz w u l)) kids) in
      let both = good_append a ms ns g.good (balances_good fills choice choice_sound b tree (fills_steers (run a ms)) (fit_children a u ms g)).0 in
      let v = within_run a ta (ms ++ ns) both z tz w in
      let rest = balances_renamed r (good_tree a ta (ms ++ ns) both) (fit_run a ta (ms ++ ns) both us h.1) (run z (renamed (below (size z) p) (ms ++ ns))) v.0 v.1 in
      rw (renamed_append (below (size z) p) (ms ++ ns) ps, renamed_append (below (size z) p) ms ns)
      (Balances.next (settles_renamed s ta l h.0.1 z tz w) full (rw (renamed_append (below (size z) p) ms ns) at rest))

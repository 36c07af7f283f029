-- Planning a part by itself. Balancing may begin at the part's topmost node and pass over every child that lies outside the part, in the yard as
-- it then is: the marks of other parts are not read, as no pebble is due over the edges between. What comes out is the part's plan. The
-- call that plans part by part goes so.
use mathlib.Core.Path.{◌≡◌, refl, sym, ◌∙◌, subst}
use mathlib.Core.Logic.{◌≢◌}
use mathlib.Core.Bool.{Bool, true, false, cond, ◌&&◌}
use mathlib.Core.List.{List, [], ◌∷◌, ◌++◌, append-nil}
use Prim.Native.Nat.{ℕ, zero, suc, ◌≤◌, ◌<◌}
use native.Mathlib.Omega.{arith}
use native.Mathlib.Decide.{ℕ_discrete, dec_lt}
use lib.Dec.{ltb}
use borrow.Author.Tests.{le-ltb}
use Rattle.model.specs.Yard.{Yard, yard_of, size, parent, below, is_child, children, inside, root, imbalance, Matched}
use Rattle.model.specs.Judge.{Tree}
use Rattle.model.specs.Push.{Move, after, run}
use Rattle.model.specs.Plan.{needy, enough, plan, choice, fills}
use Rattle.laws.proofs.Basics.{All, all_map, all_both, all_append, all_below, below_all, none_below}
use Rattle.laws.specs.Choice.{Child}
use Rattle.laws.proofs.Trees.{is_child_law, child_is, down_ind, inside_self, inside_of_child, child_above, siblings_apart}
use Rattle.laws.proofs.Judged.{wood}
use Rattle.laws.proofs.Demands.{weight, weight_child, weight_pos, weight_le}
use Rattle.laws.proofs.Shortest.{Good, good_nil, good_append, good_tree, keeps}
use Rattle.laws.proofs.Struck.{Struck, Closed, struck_tree, struck_imbalance, child_imbalance, struck_run}
use Rattle.laws.proofs.Striking.{Sided, sided_one, sided_kept, settles_struck, closed_run}
use Rattle.laws.proofs.Choice.{choice_sound}
use Rattle.laws.specs.Algorithms.{Settles, settled, Balances}
use Rattle.laws.proofs.Balance.{Even, settles_good, Done, Fit, fit_children, fit_run, balances_good, balance_balances, fills_steers, plan_only}

-- no number twice
abbrev pub Distinct : List ℕ → Type 0
Distinct [] = Unit {0}
Distinct (s ∷ ss) = All (λ r. s ≢ r) ss × Distinct ss

distinct_last : (ss : List ℕ) (n : ℕ) → Distinct ss → All (λ r. r < n) ss → Distinct (ss ++ (n ∷ []))
distinct_last [] n d a = (tt, tt)
distinct_last (s ∷ ss) n d a = (all_append (λ r. s ≢ r) ss (n ∷ []) d.0 (omega (arith, a.0), tt), distinct_last ss n d.1 a.1)

pub distinct_below : (n : ℕ) (p : ℕ → Bool) → Distinct (below n p)
unfolding below
distinct_below zero p = tt
distinct_below (suc n) p = go (p n) (distinct_below n p)
  where
    go : (b : Bool) → Distinct (below n p) → Distinct (below n p ++ cond b (n ∷ []) [])
    go true d = distinct_last (below n p) n d (all_below (λ r. r < n) p n (λ v l _. l))
    go false d = rw (append-nil (below n p)) d

-- balancing one node, and then those behind it
pub balances_cons : {y : Yard} {c : ℕ} {cs : List ℕ} {ms ns : List Move} → Balances fills choice y (c ∷ []) ms → Balances fills choice (run y ms) cs ns → Balances fills choice y (c ∷ cs) (ms ++ ns)
balances_cons (Balances.next {ms = ms} {ns = ns} s b Balances.none) r = rw (append-nil (ms ++ ns)) (Balances.next s b (rw (append-nil (ms ++ ns)) at r))

pub balances_first : {y : Yard} {c : ℕ} {cs : List ℕ} {ms : List Move} → Balances fills choice y (c ∷ cs) ms
    → (ks : List Move) × (ls : List Move) × Balances fills choice y (c ∷ []) ks × Balances fills choice (run y ks) cs ls × (ms ≡ ks ++ ls)
balances_first {y} {c} (Balances.next {ms = ms} {ns = ns} {ps = ps} s b r) = (ms ++ ns, ps, subst (Balances fills choice y (c ∷ [])) (append-nil (ms ++ ns)) (Balances.next s b Balances.none), r, refl)

-- where all is even, balancing moves nothing
pub settles_still : (y : Yard) (u : ℕ) → ((c : ℕ) → Child y.parents u c → Even y c) → Settles fills choice y u []
unfolding needy
settles_still y u h = settled (none_below (size y) _ (λ c l. go c l (is_child y.parents u c) refl))
  where
    go : (c : ℕ) → c < size y → (b : Bool) → is_child y.parents u c ≡ b → (b && ltb 0 (imbalance y c)) ≡ false
    go c l true e = le-ltb 0 (imbalance y c) (omega (arith, h c (is_child_law y.parents u c l e)))
    go c l false e = refl

module _ (y : Yard) (t : Tree y) where
  done_child : (u c : ℕ) → Child y.parents u c → Done y u → Done y c
  done_child u c k d v l i = d v l (inside_of_child (wood y t) u c v k l i)

  done_children : (u : ℕ) → Done y u → All (Done y) (children y u)
  done_children u d = all_below (Done y) (is_child y.parents u) (size y) (λ c l q. done_child u c (is_child_law y.parents u c l q) d)

  done_even : (u c : ℕ) → Child y.parents u c → Done y u → Even y c
  done_even u c k d = done_child u c k d c k.lt (inside_self (wood y t) c)

  abbrev Low : ℕ → ℕ → Type 0
  Low k c = (c < size y) × (weight y.parents c ≤ k)

  abbrev Still : ℕ → Type 0
  Still k = (us : List ℕ) → All (Low k) us → All (Done y) us → Balances fills choice y us []

  still_each : (k : ℕ) → Still k → Still (suc k)
  unfolding after
  still_each k ih [] w d = Balances.none
  still_each k ih (u ∷ us) w d = Balances.next {ms = []} {ns = []} {ps = []} (settles_still y u (λ c q. done_even u c q d.0))
      (ih (children y u) (all_below (Low k) (is_child y.parents u) (size y) (λ c l q. (l, omega (arith, w.0, weight_child (wood y t) u c w.0.0 (is_child_law y.parents u c l q))))) (done_children u d.0))
      (still_each k ih us w.1 d.1)

  still : (k : ℕ) → Still k
  still zero [] w d = Balances.none
  still zero (u ∷ us) w d = absurd (omega (arith, w.0, weight_pos (wood y t) u w.0.0))
  still (suc k) us w d = still_each k (still k) us w d

  pub balances_still : (us : List ℕ) → All (λ u. u < size y) us → All (Done y) us → Balances fills choice y us []
  balances_still us l d = still (size y) us (all_map (λ u. u < size y) (Low (size y)) us (λ u h. (h, weight_le y.parents u)) l) d

done_run : (y : Yard) → Tree y → (ms : List Move) → Good y ms → (u : ℕ) → Done y u → Done (run y ms) u
done_run y t ms g u d v l i = omega (arith, d v l i, keeps y t ms g v l)

-- Balancing may begin below: let no pebble be due but over edges strictly inside s.
module _ (y : Yard) (t : Tree y) where
  abbrev pub Only : ℕ → Type 0
  Only s = (v : ℕ) → v < size y → 0 < imbalance y v → (inside y.parents s v ≡ true) × (v ≢ s)

  -- among the children of a node
  among : (s : ℕ) (ms : List Move) → Balances fills choice y (s ∷ []) ms → Good y ms → (cs : List ℕ) → Distinct cs → All (λ c. c < size y) cs → All (λ c. s ≢ c → Done y c) cs
      → (All (λ c. s ≢ c) cs → ⊥) → Balances fills choice y cs ms
  unfolding after
  among s ms b g [] d l a n = absurd (n tt)
  among s ms b g (c ∷ cs) d l a n = go (ℕ_discrete s c) (among s ms b g cs d.1 l.1 a.1)
    where
      go : Dec (s ≡ c) → ((All (λ c. s ≢ c) cs → ⊥) → Balances fills choice y cs ms) → Balances fills choice y (c ∷ cs) ms
      go (yes q) ih =
          let others : All (Done (run y ms)) cs = all_map _ (Done (run y ms)) cs (λ r h. done_run y t ms g r (h.1 (λ x. h.0 (sym q ∙ x)))) (all_both (λ r. c ≢ r) (λ r. s ≢ r → Done y r) cs d.0 a.1) in
          subst (Balances fills choice y (c ∷ cs)) (append-nil ms) (balances_cons (subst (λ r. Balances fills choice y (r ∷ []) ms) q b) (balances_still (run y ms) (good_tree y t ms g) cs l.1 others))
      go (no q) ih = balances_cons (balances_still y t (c ∷ []) (l.0, tt) (a.0 q, tt)) (ih (λ h. n (q, h)))

  even_below : (s : ℕ) → s < size y → Only s → Even y s
  even_below s l o = go (dec_lt 0 (imbalance y s))
    where
      go : Dec (0 < imbalance y s) → Even y s
      go (yes n) = absurd ((o s l n).1 refl)
      go (no n) = omega arith

  -- and at the parent
  module _ (s : ℕ) (l : s < size y) (d : s ≢ root y) (o : Only s) where
    kid : Child y.parents (parent y s) s
    kid = record { lt = l; up = refl; other = λ e. d ((wood y t).root_only s l (sym e)) }

    only_up : Only (parent y s)
    only_up v k n = (inside_of_child (wood y t) (parent y s) s v kid k (o v k n).0, λ e. child_above (wood y t) (parent y s) s kid (rw e at (o v k n).0))

    quiet : Settles fills choice y (parent y s) []
    quiet = settles_still y (parent y s) (λ c q. go c q (dec_lt 0 (imbalance y c)))
      where
        go : (c : ℕ) → Child y.parents (parent y s) c → Dec (0 < imbalance y c) → Even y c
        go c q (yes n) = absurd ((o c q.lt n).1 (siblings_apart (wood y t) (parent y s) c s q kid c q.lt (inside_self (wood y t) c) (o c q.lt n).0))
        go c q (no n) = omega arith

    others : (c : ℕ) → Child y.parents (parent y s) c → s ≢ c → Done y c
    others c q n v k i = go (dec_lt 0 (imbalance y v))
      where
        go : Dec (0 < imbalance y v) → Even y v
        go (yes h) = absurd (n (siblings_apart (wood y t) (parent y s) s c kid q v k (o v k h).0 i))
        go (no h) = omega arith

    balances_up : (ms : List Move) → Balances fills choice y (s ∷ []) ms → Balances fills choice y (parent y s ∷ []) ms
    unfolding after
    balances_up ms b = subst (Balances fills choice y (parent y s ∷ [])) (append-nil ms) (Balances.next {ms = []} {ns = ms} {ps = []} quiet kids Balances.none)
      where
        p : ℕ → Bool
        p = is_child y.parents (parent y s)

        kids : Balances fills choice y (children y (parent y s)) ms
        kids = among s ms b (balances_good fills choice choice_sound b t (fills_steers y) ((l, even_below s l o), tt)).0 (children y (parent y s)) (distinct_below (size y) p)
            (all_below (λ c. c < size y) p (size y) (λ c k _. k))
            (all_below (λ c. s ≢ c → Done y c) p (size y) (λ c k e. others c (is_child_law y.parents (parent y s) c k e)))
            (λ a. below_all (λ c. s ≢ c) p (size y) a s l (child_is y.parents (parent y s) s kid) refl)

  balances_root : (ms : List Move) (s : ℕ) → s < size y → Only s → Balances fills choice y (s ∷ []) ms → Balances fills choice y (root y ∷ []) ms
  balances_root ms = down_ind (wood y t) (λ s. Only s → Balances fills choice y (s ∷ []) ms → Balances fills choice y (root y ∷ []) ms) (λ _ b. b) (λ s l d ih o b. ih (only_up s l d o) (balances_up s l d o ms b))

  module _ (m : Matched y) (s : ℕ) (l : s < size y) (o : Only s) where
    -- whatever balances s is the plan
    pub plan_below : (ms : List Move) → Balances fills choice y (s ∷ []) ms → ms ≡ plan y
    plan_below ms b = plan_only y t m ms (balances_root ms s l o b)

    -- and something does
    pub below_plan : Balances fills choice y (s ∷ []) (plan y)
    below_plan =
        let b = balance_balances fills choice choice_sound (enough y) (enough y) (s ∷ []) y t (fills_steers y) (omega arith) ((l, even_below s l o), tt) (omega (arith, weight_le y.parents s), tt) in
        subst (Balances fills choice y (s ∷ [])) (plan_below _ b) b

-- the nodes of a list that pass a test
unfoldable pub sifted : (ℕ → Bool) → List ℕ → List ℕ
sifted p [] = []
sifted p (c ∷ cs) = cond (p c) (c ∷ sifted p cs) (sifted p cs)

module _ (p : ℕ → Bool) (Q : ℕ → Type 0) where
  all_sifted : (cs : List ℕ) → All Q cs → All Q (sifted p cs)
  unfolding sifted
  all_sifted [] a = tt
  all_sifted (c ∷ cs) a = go (p c) (all_sifted cs a.1)
    where
      go : (b : Bool) → All Q (sifted p cs) → All Q (cond b (c ∷ sifted p cs) (sifted p cs))
      go true h = (a.0, h)
      go false h = h

sifted_pass : (p : ℕ → Bool) (cs : List ℕ) → All (λ c. p c ≡ true) (sifted p cs)
unfolding sifted
sifted_pass p [] = tt
sifted_pass p (c ∷ cs) = go (p c) refl (sifted_pass p cs)
  where
    go : (b : Bool) → p c ≡ b → All (λ c. p c ≡ true) (sifted p cs) → All (λ c. p c ≡ true) (cond b (c ∷ sifted p cs) (sifted p cs))
    go true e h = (e, h)
    go false e h = h

-- balancing that passes over the children that fail a test
pub data BalancesIn (p : ℕ → Bool) : Yard → List ℕ → List Move → Type 0 where
  none : {y : Yard} → BalancesIn p y [] []
  next : {y : Yard} {u : ℕ} {us : List ℕ} {ms ns ps : List Move} → Settles fills choice y u ms → BalancesIn p (run y ms) (sifted p (children y u)) ns
      → BalancesIn p (run y (ms ++ ns)) us ps → BalancesIn p y (u ∷ us) (ms ++ ns ++ ps)

pub balances_in_cons : {p : ℕ → Bool} {y : Yard} {c : ℕ} {cs : List ℕ} {ms ns : List Move} → BalancesIn p y (c ∷ []) ms → BalancesIn p (run y ms) cs ns → BalancesIn p y (c ∷ cs) (ms ++ ns)
balances_in_cons (BalancesIn.next {ms = ms} {ns = ns} s b BalancesIn.none) r = rw (append-nil (ms ++ ns)) (BalancesIn.next s b (rw (append-nil (ms ++ ns)) at r))

-- by another test that agrees on the children of the nodes that pass
sifted_same : (p q : ℕ → Bool) (cs : List ℕ) → All (λ c. p c ≡ q c) cs → sifted p cs ≡ sifted q cs
unfolding sifted
sifted_same p q [] a = refl
sifted_same p q (c ∷ cs) a = rw (a.0, sifted_same p q cs a.1)

pub balances_in_same : {p q : ℕ → Bool} {x : Yard} {us : List ℕ} {ms : List Move} → BalancesIn p x us ms → ((u c : ℕ) → Child x.parents u c → q u ≡ true → p c ≡ q c) → All (λ u. q u ≡ true) us
    → BalancesIn q x us ms
balances_in_same BalancesIn.none h a = BalancesIn.none
balances_in_same {p} {q} {x} (BalancesIn.next {u = u} {us = us} {ms = ms} {ns = ns} {ps = ps} s b r) h a =
    let e : sifted p (children x u) ≡ sifted q (children x u) = sifted_same p q (children x u) (all_below (λ c. p c ≡ q c) (is_child x.parents u) (size x) (λ c l k. h u c (is_child_law x.parents u c l k) a.0)) in
    BalancesIn.next {ms = ms} {ns = ns} {ps = ps} s
    (subst (λ cs. BalancesIn q (run x ms) cs ns) e (balances_in_same b h (subst (All (λ u. q u ≡ true)) (sym e) (sifted_pass q (children x u)))))
    (balances_in_same r h a.1)

-- where all children pass, none is passed over
sifted_all : (p : ℕ → Bool) (cs : List ℕ) → All (λ c. p c ≡ true) cs → sifted p cs ≡ cs
unfolding sifted
sifted_all p [] a = refl
sifted_all p (c ∷ cs) a = rw (a.0, sifted_all p cs a.1)

pub balances_in_all : {p : ℕ → Bool} {x : Yard} {us : List ℕ} {ms : List Move} → BalancesIn p x us ms → ((u c : ℕ) → Child x.parents u c → p c ≡ true) → Balances fills choice x us ms
balances_in_all BalancesIn.none h = Balances.none
balances_in_all {p} {x} (BalancesIn.next {u = u} {ms = ms} {ns = ns} {ps = ps} s b r) h =
    let e = sifted_all p (children x u) (all_below (λ c. p c ≡ true) (is_child x.parents u) (size x) (λ c l k. h u c (is_child_law x.parents u c l k))) in
    Balances.next {ms = ms} {ns = ns} {ps = ps} s (subst (λ cs. Balances fills choice (run x ms) cs ns) e (balances_in_all b h)) (balances_in_all r h)

module _ (p : ℕ → Bool) where
  pub balances_in_good : {x : Yard} {us : List ℕ} {ms : List Move} → BalancesIn p x us ms → Tree x → All (Fit x) us → Good x ms
  balances_in_good {x} BalancesIn.none t a = good_nil x
  balances_in_good {x} (BalancesIn.next {u = u} {us = us} {ms = ms} {ns = ns} {ps = ps} s b r) t a =
      let h = settles_good fills choice choice_sound s t (fills_steers x) a.0.0 a.0.1 in
      let g = good_append x ms ns h.good (balances_in_good b (good_tree x t ms h.good) (all_sifted p (Fit (run x ms)) (children x u) (fit_children x u ms h))) in
      good_append x (ms ++ ns) ps g (balances_in_good r (good_tree x t (ms ++ ns) g) (fit_run x t (ms ++ ns) g us a.1))

  -- children that fail the test, with nothing due inside, may be balanced too
  pub fill : (y : Yard) → Tree y → (cs : List ℕ) (ms : List Move) → All (Fit y) cs → All (λ c. p c ≡ false → Done y c) cs → Balances fills choice y (sifted p cs) ms → Balances fills choice y cs ms
  unfolding sifted after
  fill y t [] ms f a b = b
  fill y t (c ∷ cs) ms f a b = go (p c) refl b (λ z h ns. fill z h cs ns)
    where
      go : (e : Bool) → p c ≡ e → Balances fills choice y (cond e (c ∷ sifted p cs) (sifted p cs)) ms
          → ((z : Yard) → Tree z → (ns : List Move) → All (Fit z) cs → All (λ c. p c ≡ false → Done z c) cs → Balances fills choice z (sifted p cs) ns → Balances fills choice z cs ns) → Balances fills choice y (c ∷ cs) ms
      go true e h ih =
          let q = balances_first h in
          let g = (balances_good fills choice choice_sound q.2 t (fills_steers y) (f.0, tt)).0 in
          subst (Balances fills choice y (c ∷ cs)) (sym q.4) (balances_cons q.2 (ih (run y q.0) (good_tree y t q.0 g) q.1 (fit_run y t q.0 g cs f.1)
          (all_map (λ c. p c ≡ false → Done y c) (λ c. p c ≡ false → Done (run y q.0) c) cs (λ r k e. done_run y t q.0 g r (k e)) a.1) q.3))
      go false e h ih = balances_cons (balances_still y t (c ∷ []) (f.0.0, tt) (a.0 e, tt)) (ih y t ms f.1 a.1 h)

  -- no node inside a child that fails, of a node that passes, passes
  abbrev pub Whole : Yard → Type 0
  Whole x = (u c : ℕ) → Child x.parents u c → p u ≡ true → p c ≡ false → (v : ℕ) → v < size x → inside x.parents c v ≡ true → p v ≡ false

  module _ {x : Yard} {qs ts : List ℕ} (t : Tree x) (k : Struck p x qs ts) where
    struck_own : (ms : List Move) → Good x ms → All (Sided p true) ms → Struck p (run x ms) (after (yard_of x.parents qs ts x.depths) ms) ts
    struck_own ms g a = subst (λ ns. Struck p (run x ms) (after (yard_of x.parents qs ts x.depths) ns) ts) (sided_kept p true ms a) (struck_run p x t ms g.obeyed (sided_one p true ms a) qs ts k).1

    module _ (o : Closed p x) where
      outside_even : (v : ℕ) → v < size x → p v ≡ false → Even (yard_of x.parents qs ts x.depths) v
      outside_even v l e = rw e at (struck_imbalance t k o v l)

      child_fit : (u c : ℕ) → Child x.parents u c → Even x c → Fit (yard_of x.parents qs ts x.depths) c
      child_fit u c q e = (q.lt, child_imbalance t k o u c q ∙ go (p u))
        where
          go : (b : Bool) → cond b (imbalance x c) 0 ≡ 0
          go true = e
          go false = refl

  -- balancing so reads the marks of the nodes that pass alone: it balances the yard that has no others
  pub own_balances : {x : Yard} {us : List ℕ} {ms : List Move} → BalancesIn p x us ms → Tree x → All (Fit x) us → All (λ u. p u ≡ true) us → Closed p x → Whole x
      → (qs ts : List ℕ) → Struck p x qs ts → All (Sided p true) ms × Balances fills choice (yard_of x.parents qs ts x.depths) us ms
  own_balances BalancesIn.none t a i o w qs ts k = (tt, Balances.none)
  own_balances {x} (BalancesIn.next {u = u} {us = us} {ms = ms} {ns = ns} {ps = ps} s b r) t a i o w qs ts k =
      let z : Yard = yard_of x.parents qs ts x.depths in
      let h = settles_good fills choice choice_sound s t (fills_steers x) a.0.0 a.0.1 in
      let first = settles_struck p s t a.0.0 a.0.1 o qs ts k in
      let sides : All (Sided p true) ms = subst (λ e. All (Sided p e) ms) i.0 first.0 in
      let tree = good_tree x t ms h.good in
      let cuts = closed_run p x t ms h.good o in
      let mid = struck_own t k ms h.good sides in
      let fits = all_sifted p (Fit (run x ms)) (children x u) (fit_children x u ms h) in
      let kids = own_balances b tree fits (sifted_pass p (children x u)) cuts w (after z ms) ts mid in
      let full = fill (run z ms) (struck_tree tree mid) (children x u) ns
      (all_below (Fit (run z ms)) (is_child x.parents u) (size x) (λ c l e. let q = is_child_law x.parents u c l e in child_fit tree mid cuts u c q (h.kids c q)))
      (all_below (λ c. p c ≡ false → Done (run z ms) c) (is_child x.parents u) (size x) (λ c l e f v m j. outside_even tree mid cuts v m (w u c (is_child_law x.parents u c l e) i.0 f v m j)))
      kids.1 in
      let g = good_append x ms ns h.good (balances_in_good b tree fits) in
      let two = all_append (Sided p true) ms ns sides kids.0 in
      let rest = own_balances r (good_tree x t (ms ++ ns) g) (fit_run x t (ms ++ ns) g us a.1) i.1 (closed_run p x t (ms ++ ns) g o) w (after z (ms ++ ns)) ts (struck_own t k (ms ++ ns) g two) in
      (all_append (Sided p true) (ms ++ ns) ps two rest.0, Balances.next (subst (Settles fills choice z u) (sided_kept p true ms sides) first.1) full rest.1)

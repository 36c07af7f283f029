-- Listing the openings from a node to its children in rising number: between two children lies none but that to the parent. Each is written behind those before.
use mathlib.Core.Path.{◌≡◌, refl, sym, ap, ◌∙◌}
use mathlib.Core.Logic.{◌≢◌, ◌⊎◌, inl, inr}
use mathlib.Core.Bool.{Bool, true, false, cond, and-false, and-eq-true_iff, false≢true}
use mathlib.Core.List.{List, [], ◌∷◌, ◌++◌, append-nil, append_assoc, map, map-append}
use Prim.Native.Nat.{ℕ, zero, suc, ◌+◌, ◌-◌, ◌*◌, ◌≤◌, ◌<◌}
use native.Mathlib.Omega.{arith}
use native.Mathlib.Numerals.{add-one}
use native.Mathlib.Decide.{ℕ_discrete, dec_lt}
use lib.ListN.{length, get_or, set, take, length-set, length-append, length-map}
use lib.Dec.{eqb, leb}
use borrow.Author.Tests.{leb-true, le-leb, eq-eqb, ne_eqb}
use Rattle.model.specs.Yard.{Yard, size, parent, one, sum, below, is_child, Matched}
use Rattle.model.specs.Judge.{Tree}
use Rattle.model.specs.Push.{Move, push}
use Rattle.model.specs.Openings.{opening, openings_from, openings}
use Rattle.model.specs.Calls.Plans.{bytes}
use Rattle.laws.proofs.Basics.{not_so}
use Rattle.laws.proofs.Sums.{length_below, sum_split}
use Rattle.laws.proofs.Ranges.{collect, collect_none, collect_next}
use Rattle.laws.specs.Choice.{Child}
use Rattle.laws.proofs.Trees.{is_child_law, child_is, no_pair}
use Rattle.laws.proofs.Found.{found, missed, lowest_is, lowest_missing}
use Rattle.laws.proofs.Judged.{facts, wood}
use Rattle.laws.proofs.Step.{Step, ends}
use Rattle.laws.proofs.Listed.{length_collect}
use Rattle.laws.proofs.Openings.{opening_step, openings_few}
use Rattle.serve.proofs.Siblings.{ahead}
use Rattle.serve.proofs.Moving.{bytes_append}
use Rattle.openings.specs.declared.edges.Marks.{Marks}
use Rattle.std.specs.Prelude.{Some, None}
use Rattle.openings.specs.declared.edges.Way.TheVariants.{Up}
use Rattle.openings.specs.Ways.{way_of}
use Rattle.openings.specs.Listing.{down_to, down_from, Next, Sees, Holds, up_to, AskedChildren, ListedChildren, AskedFrom, ListedFrom, AskedAll, ListedAll}
use Rattle.openings.proofs.Marking.{marked_up, unmarked_up, next_same}

-- an opening from a goes to a child or to the parent
goes : (y : Yard) (a b : ℕ) → opening y (push a b) ≡ true → Child y.parents a b ⊎ (b ≡ parent y a)
goes y a b e = go s.away refl
  where
    s : Step y (push a b)
    s = (opening_step y (push a b) e).0

    from : (m : Move) → push a b ≡ m → (a ≡ m.from) × (b ≡ m.to)
    from m q = (ap (λ (m : Move). m.from) q, ap (λ (m : Move). m.to) q)

    go : (w : Bool) → s.away ≡ w → Child y.parents a b ⊎ (b ≡ parent y a)
    go true q = let r = from _ (rw q at s.is) in inl (record { lt = rw r.1 s.node_lt; up = ap (parent y) r.1 ∙ sym r.0; other = λ x. (ends y (push a b) s).2 (sym x) })
    go false q = let r = from _ (rw q at s.is) in inr (r.1 ∙ ap (parent y) (sym r.0))

-- numbers that pass a test, up to a higher number
below_skip : (p : ℕ → Bool) (i j : ℕ) → i ≤ j → ((b : ℕ) → i ≤ b → b < j → p b ≡ false) → below j p ≡ below i p
unfolding below
below_skip p i zero l h = let e : i ≡ 0 = omega arith in rw e
below_skip p i (suc j) l h = go (ℕ_discrete i (suc j)) (below_skip p i j)
  where
    go : Dec (i ≡ suc j) → (i ≤ j → ((b : ℕ) → i ≤ b → b < j → p b ≡ false) → below j p ≡ below i p) → below j p ++ cond (p j) (j ∷ []) [] ≡ below i p
    go (yes e) ih = rw e
    go (no d) ih = rw (h j (omega arith) (omega arith), ih (omega arith) (λ b k m. h b k (omega arith))) (append-nil (below i p))

-- no more than up to a higher number
sum_more : (f : ℕ → ℕ) (i n : ℕ) → i ≤ n → sum i f ≤ sum n f
sum_more f i n l = let e : n ≡ i + (n - i) = omega arith in omega (arith, ap (λ (k : ℕ). sum k f) e, sum_split i (n - i) f)

below_le : (p : ℕ → Bool) (i n : ℕ) → i ≤ n → length (below i p) ≤ length (below n p)
below_le p i n l = omega (arith, length_below i p, length_below n p, sum_more (λ v. one (p v)) i n l)

collect_le : {A : Type 0} (f : ℕ → List A) (a n : ℕ) → a ≤ n → length (collect a f) ≤ length (collect n f)
collect_le f a n l = omega (arith, length_collect f a, length_collect f n, sum_more (λ v. length (f v)) a n l)

module _ (y : Yard) (a : ℕ) where
  pub up_to_none : up_to y a 0 ≡ collect a (openings_from y)
  unfolding below
  up_to_none = append-nil (collect a (openings_from y))

  pub up_to_all : up_to y a (size y) ≡ collect (suc a) (openings_from y)
  up_to_all = sym (collect_next (openings_from y) a)

  up_to_skip : (i j : ℕ) → i ≤ j → ((b : ℕ) → i ≤ b → b < j → opening y (push a b) ≡ false) → up_to y a j ≡ up_to y a i
  up_to_skip i j l h = ap (λ (l : List ℕ). collect a (openings_from y) ++ map (push a) l) (below_skip (λ b. opening y (push a b)) i j l h)

  up_to_more : (c : ℕ) → opening y (push a c) ≡ true → up_to y a (c + 1) ≡ up_to y a c ++ (push a c ∷ [])
  unfolding below
  up_to_more c e =
      rw (add-one, e, map-append (push a) (below c (λ b. opening y (push a b))) (c ∷ []))
      (sym (append_assoc (collect a (openings_from y)) (map (push a) (below c (λ b. opening y (push a b)))) (push a c ∷ [])))

  -- so many are fewer than nodes
  few : Tree y → Matched y → a < size y → (i : ℕ) → i ≤ size y → length (up_to y a i) < 256
  unfolding openings
  few t m l i h = omega (
    arith,
    length-append (collect a (openings_from y)) (map (push a) (below i (λ b. opening y (push a b)))),
    length-map (below i (λ b. opening y (push a b))) (push a),
    below_le (λ b. opening y (push a b)) i (size y) h,
    length-map (below (size y) (λ b. opening y (push a b))) (push a),
    ap length (collect_next (openings_from y) a),
    length-append (collect a (openings_from y)) (openings_from y a),
    collect_le (openings_from y) (suc a) (size y) l,
    openings_few y t m,
    (facts y t).few,
  )

-- an entry written next to the front of a list
take_next : (n x : ℕ) (list : List ℕ) → n < length list → take (suc n) (set list n x) ≡ take n list ++ (x ∷ [])
take_next n x [] l = absurd (omega arith)
take_next zero x (z ∷ list) l = refl
take_next (suc n) x (z ∷ list) l = ap (λ (l : List ℕ). z ∷ l) (take_next n x list (omega arith))

-- a move written behind those that are listed
module _ {ms : List Move} {list : List ℕ} {k : ℕ} (h : Holds ms list k) (a b : ℕ) where
  still : length (set (set list (2 * k) a) (2 * k + 1) b) ≡ 512
  still = length-set (set list (2 * k) a) (2 * k + 1) b ∙ length-set list (2 * k) a ∙ h.room

  pub holds_more : k < 256 → Holds (ms ++ (push a b ∷ [])) (set (set list (2 * k) a) (2 * k + 1) b) (k + 1)
  unfolding bytes
  holds_more l = record {
    room = still;
    front =
        let e : 2 * (k + 1) ≡ suc (2 * k + 1) = omega arith in
        let f : 2 * k + 1 ≡ suc (2 * k) = omega arith in
        ap (λ (n : ℕ). take n (set (set list (2 * k) a) (2 * k + 1) b)) e
        ∙ take_next (2 * k + 1) b (set list (2 * k) a) (omega (arith, h.room, length-set list (2 * k) a))
        ∙ ap (λ (l : List ℕ). l ++ (b ∷ [])) (ap (λ (n : ℕ). take n (set list (2 * k) a)) f ∙ take_next (2 * k) a list (omega (arith, h.room)) ∙ ap (λ (l : List ℕ). l ++ (a ∷ [])) h.front)
        ∙ append_assoc (bytes ms) (a ∷ []) (b ∷ [])
        ∙ sym (bytes_append ms (push a b ∷ []));
    counted = rw (h.counted, length-append ms (push a b ∷ []));
  }

-- what falls from child to child
pub falls : {y : Yard} {a c n : ℕ} → c ≢ a → c < 256 → Next y a (c + 1) n → ahead a n < ahead a c
falls {y} {a} {c} {n} d l e = rw (ne_eqb c a d) (go (ℕ_discrete n a))
  where
    go : Dec (n ≡ a) → ahead a n < 256 - c
    go (yes q) = rw (eq-eqb n a q) (omega arith)
    go (no q) =
        let f = lowest_is (size y) a n (down_from y a (c + 1)) e.is q in
        rw (ne_eqb n a q) (omega (arith, leb-true (c + 1) n ((and-eq-true_iff (leb (c + 1) n) (down_to y a n)).0 f.1).0))

-- the walk over the children: c is the lowest from some number on to which an opening goes, and the openings to the nodes below it are listed
pub record Walking (y : Yard) (list : List ℕ) (a c end k : ℕ) : Type 0 where
  pub at : ℕ
  pub at_le : at ≤ end
  pub lowest : Next y a at c
  pub only : (b : ℕ) → at ≤ b → b < end → opening y (push a b) ≡ true → Child y.parents a b
  pub holds : Holds (up_to y a at) list k

pub walk_first : {y : Yard} {t : Marks} {list : List ℕ} {a i c end k : ℕ} → AskedChildren y t list a i c end k
    → Walking y list a c end k
walk_first {i = i} h = record { at = i; at_le = h.low; lowest = h.at; only = h.only; holds = h.holds }

module _ {y : Yard} {list : List ℕ} {a c end k : ℕ} (w : Walking y list a c end k) where
  -- a child to which an opening goes
  goes_down : {b i : ℕ} → Child y.parents a b → opening y (push a b) ≡ true → i ≤ b → down_from y a i b ≡ true
  goes_down {b} {i} r o l = rw (le-leb i b l, child_is y.parents a b r, o)

  down_told : (b i : ℕ) → down_from y a i b ≡ true → (i ≤ b) × (is_child y.parents a b ≡ true) × (opening y (push a b) ≡ true)
  down_told b i e =
      let p = (and-eq-true_iff (leb i b) (down_to y a b)).0 e in
      let q = (and-eq-true_iff (is_child y.parents a b) (opening y (push a b))).0 p.1 in
      (leb-true i b p.0, q.0, q.1)

  -- none lies between
  between : (j : ℕ) → ((b : ℕ) → down_from y a w.at b ≡ true → j ≤ b) → w.at ≤ j → j ≤ end → Holds (up_to y a j) list k
  between j h l m = rw (up_to_skip y a w.at j l (λ b p q. not_so _ (λ e. let r = h b (goes_down (w.only b p (omega arith) e) e p) in omega (arith, r)))) w.holds

  -- behind the last child
  module _ (e : c ≡ a) where
    none_left : (b : ℕ) → down_from y a w.at b ≡ true → b < size y → ⊥
    none_left b o l = false≢true (sym (lowest_missing (size y) a (down_from y a w.at) (sym e ∙ w.lowest.is) own b l) ∙ o)
      where
        own : down_from y a w.at a ≡ false
        own = rw (eq-eqb a a refl, and-false (eqb (parent y a) a)) (and-false (leb w.at a))

    pub walk_end : end ≤ size y → ListedChildren y list a a end k
    walk_end h = record {
      at = record {
        is = missed (size y) a (down_from y a end) (λ v l. not_so _ (λ q.
            let r = down_told v end q in
            none_left v (rw (le-leb w.at v (omega (arith, r.0, w.at_le)), r.1, r.2)) l));
      };
      holds = rw (up_to_skip y a w.at end w.at_le (λ b p q. not_so _ (λ o. none_left b (goes_down (w.only b p q o) o p) (omega arith)))) w.holds;
    }

  module _ (d : c ≢ a) where
    it : (c < size y) × (down_from y a w.at c ≡ true) × ((v : ℕ) → v < c → down_from y a w.at v ≡ false)
    it = lowest_is (size y) a c (down_from y a w.at) w.lowest.is d

    pub walk_child : Child y.parents a c
    walk_child = is_child_law y.parents a c it.0 (down_told c w.at it.1).1

    opens : opening y (push a c) ≡ true
    opens = (down_told c w.at it.1).2

    past : w.at ≤ c
    past = (down_told c w.at it.1).0

    from_c : (b : ℕ) → down_from y a w.at b ≡ true → c ≤ b
    from_c b o = go (dec_lt b c)
      where
        go : Dec (b < c) → c ≤ b
        go (yes l) = absurd (false≢true (sym (it.2 b l) ∙ o))
        go (no l) = omega arith

    -- at a child with a higher number than the end
    pub walk_past : end ≤ c → ListedChildren y list a c end k
    walk_past l = record {
      at = record {
        is = found (size y) a c (down_from y a end) it.0 (λ v m. not_so _ (λ q.
            let r = down_told v end q in
            let s = from_c v (rw (le-leb w.at v (omega (arith, r.0, w.at_le)), r.1, r.2)) in
            omega (arith, m, s))) (rw (le-leb end c l, child_is y.parents a c walk_child, opens));
      };
      holds = between end (λ b o. omega (arith, l, from_c b o)) w.at_le (omega arith);
    }

    -- on to the next
    module _ {t : Marks} (s : Sees y t) (l : a < size y) (m : c < end) (n : end ≤ size y) where
      here : Holds (up_to y a c) list k
      here = between c from_c past (omega arith)

      pub walk_room : k < 256
      walk_room = omega (arith, here.counted, few y a s.tree s.matched l c (omega arith))

      pub next_child : Next y a (c + 1) (get_or t.down.next c 0)
      next_child = rw walk_child.up at (s.marked.next c it.0 (omega arith) (rw walk_child.up opens))

      pub walk_next : {new : List ℕ} → new ≡ set (set list (2 * k) a) (2 * k + 1) c → Walking y new a (get_or t.down.next c 0) end (k + 1)
      walk_next q = record {
        at = c + 1;
        at_le = omega arith;
        lowest = next_child;
        only = λ b p r o. w.only b (omega (arith, past)) r o;
        holds = rw (q, up_to_more y a c opens) (holds_more here a c walk_room);
      }

-- from one node: all children at once, or those below the parent, the parent and the others
module _ {y : Yard} {t : Marks} {parents list : List ℕ} {a n k : ℕ} (h : AskedFrom y t parents list a n k) where
  lt : a < size y
  lt = h.node

  mark_of : get_or t.ways a None ≡ way_of y a
  mark_of = h.sees.marked.way a lt (omega arith)

  start : (end : ℕ) → end ≤ size y → ((b : ℕ) → b < end → opening y (push a b) ≡ true → b ≢ parent y a) → AskedChildren y t list a 0 (get_or t.down.lowest a 0) end k
  start end l d = record {
    sees = h.sees;
    node = lt;
    at = h.sees.marked.first a lt;
    low = omega arith;
    high = l;
    only = λ b _ q o. child b (goes y a b o) (d b q o);
    holds = rw (up_to_none y a) h.holds;
  }
    where
      child : (b : ℕ) → Child y.parents a b ⊎ (b ≡ parent y a) → b ≢ parent y a → Child y.parents a b
      child b (inl r) d = r
      child b (inr q) d = absurd (d q)

  pub asked_all : get_or t.ways a None ≢ Some Up → AskedChildren y t list a 0 (get_or t.down.lowest a 0) n k
  asked_all d = rw h.all (start (size y) (omega arith) (λ b _ o q. false≢true (sym (unmarked_up y h.sees.tree h.sees.matched a lt mark_of d) ∙ rw q at o)))

  pub listed_all : {new : List ℕ} {c k' : ℕ} → ListedChildren y new a c n k' → ListedFrom y new a k'
  listed_all r = rw (← (up_to_all y a), ← h.all) r.holds

  -- an opening goes to the parent
  module _ (u : get_or t.ways a None ≡ Some Up) where
    above : get_or parents a 0 ≡ parent y a
    above = ap (λ (l : List ℕ). get_or l a 0) h.own

    above_lt : parent y a < size y
    above_lt = (wood y h.sees.tree).parent_lt a lt

    pub asked_lower : AskedChildren y t list a 0 (get_or t.down.lowest a 0) (get_or parents a 0) k
    asked_lower = rw above (start (parent y a) (omega (arith, above_lt)) (λ b l _ q. omega (arith, l, q)))

    opens_up : opening y (push a (parent y a)) ≡ true
    opens_up = marked_up y h.sees.tree h.sees.matched a lt mark_of u

    module _ {new : List ℕ} {c k' : ℕ} (r : ListedChildren y new a c (get_or parents a 0) k') where
      pub upper_room : k' < 256
      upper_room = omega (arith, r.holds.counted, few y a h.sees.tree h.sees.matched lt (get_or parents a 0) (omega (arith, above, above_lt)))

      -- the parent is no child
      not_below : down_to y a (get_or parents a 0) ≡ false
      not_below = not_so _ (λ q.
          let r = is_child_law y.parents a (get_or parents a 0) (omega (arith, above, above_lt)) ((and-eq-true_iff (is_child y.parents a (get_or parents a 0)) (opening y (push a (get_or parents a 0)))).0 q).0 in
          let w = wood y h.sees.tree in
          no_pair w a (get_or parents a 0) lt (λ e. r.other (above ∙ ap (parent y) e ∙ w.root_parent ∙ sym e)) (sym above) (sym r.up))

      pub asked_higher : {p : ℕ} {newer : List ℕ} → p ≡ get_or parents a 0 → newer ≡ set (set new (2 * k') a) (2 * k' + 1) p → AskedChildren y t newer a (get_or parents a 0 + 1) c n (k' + 1)
      asked_higher p-is is = rw h.all (record {
        sees = h.sees;
        node = lt;
        at = (next_same (get_or parents a 0) a not_below).1 r.at;
        low = omega (arith, above, above_lt);
        high = omega arith;
        only = λ b l q o. child b l (goes y a b o);
        holds = rw (is, p-is, up_to_more y a (get_or parents a 0) (rw above opens_up)) (holds_more r.holds a (get_or parents a 0) upper_room);
      })
        where
          child : (b : ℕ) → get_or parents a 0 + 1 ≤ b → Child y.parents a b ⊎ (b ≡ parent y a) → Child y.parents a b
          child b l (inl r) = r
          child b l (inr q) = absurd (omega (arith, l, q, above))

-- node by node
module _ {y : Yard} {t : Marks} {parents list : List ℕ} {n : ℕ} (h : AskedAll y t parents list n) where
  pub list_none : Holds (collect 0 (openings_from y)) list 0
  unfolding bytes
  list_none = rw (collect_none (openings_from y)) (record { room = h.long; front = refl; counted = refl })

  pub asked_from : {new : List ℕ} {a k : ℕ} → a < n → Holds (collect a (openings_from y)) new k → AskedFrom y t parents new a n k
  asked_from l s = record { own = h.own; sees = h.sees; node = omega (arith, h.all); all = h.all; holds = s }

  pub list_whole : {new : List ℕ} {a k : ℕ} → a ≡ n → Holds (collect a (openings_from y)) new k → ListedAll y new k
  unfolding openings
  list_whole q s = rw (q ∙ h.all) at s

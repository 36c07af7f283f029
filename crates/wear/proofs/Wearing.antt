-- Obeying and counting move by move: the first stretch grows by the edge of each move; from stretch to stretch one move comes in and one goes. Only the edge of the one that
-- comes in can be the worst (`wear_stays`, `wear_rises`).
use mathlib.Core.Path.{◌≡◌, refl, sym, ap, ◌∙◌}
use mathlib.Core.Logic.{◌≢◌}
use mathlib.Core.Bool.{true, false, cond, ◌&&◌, and-eq-true_iff}
use mathlib.Core.List.{List, [], ◌∷◌}
use mathlib.Core.Option.{Option, none, some}
use Prim.Native.Nat.{ℕ, zero, suc, ◌+◌, ◌-◌, ◌*◌, ◌≤◌, ◌<◌}
use native.Mathlib.Omega.{arith}
use native.Mathlib.Decide.{ℕ_discrete}
use lib.ListN.{length, take, get_or, set, replicate, length-set, length-replicate}
use lib.Seq.{get_or-set_same, get_or-set_other}
use lib.Dec.{eqb, leb, ltb}
use borrow.Author.Tests.{ltb-true, leb-true, lt-ltb, le-leb, eq-eqb, ne_eqb}
use Rattle.model.specs.Yard.{Yard, yard_of, size, up, one, lowest, most, head_or, holding}
use Rattle.model.specs.Judge.{Fault, row, first_of, Tree}
use Rattle.model.specs.Push.{push, count, move_fault, after}
use Rattle.model.specs.Push as Push
use Rattle.model.specs.Wear.{wear_at, Wear, wear_over, wear, stretches}
use Rattle.model.specs.Calls.Answers.{answer, answered, refused}
use Rattle.model.specs.Calls.Plans.{moves_of}
use Rattle.model.specs.Calls.Checks.{moves_fault, check_fault}
use Rattle.model.specs.Calls.Wear.{wear_fault, wear_answer}
use Rattle.laws.specs.Wear.{Worst}
use Rattle.laws.proofs.Found.{below_cong}
use Rattle.laws.proofs.Judged.{facts, wood}
use Rattle.laws.proofs.Calls.{moves_of_half, move_at}
use Rattle.laws.proofs.Step.{step}
use Rattle.laws.proofs.Moves.{move_fault_legal}
use Rattle.laws.proofs.Wear.{Crossed, step_crossed, edge_of, wear_at_le, wear_at_front, wear_at_more, wear_at_slides, wear_worst, wear_start, wear_stays, wear_rises, most_cong}
use Rattle.checker.proofs.Laws.{Left, left_none, left_refused, left_next}
use Rattle.wear.specs.Wearing.{move_in, edge_in, taken, added, obeyed_of, AskedWear, AskedShift}

-- the first i moves of a plan are obeyed, they have left the pebbles, and each crossed an edge
pub record Obeying (y : Yard) (plan : List ℕ) (i : ℕ) (qs : List ℕ) : Type 0 where
  pub left : Left y (moves_of plan) i qs
  pub crossed : (j : ℕ) → j < i → Crossed y (get_or (moves_of plan) j (push 0 0))

pub obeying_first : (y : Yard) (plan : List ℕ) → Tree y → Obeying y plan 0 y.pebbles
unfolding after
obeying_first y plan t = record { left = (t, refl, refl); crossed = λ j l. absurd (omega arith) }

module _ {y : Yard} {plan : List ℕ} {i : ℕ} {qs : List ℕ} (o : Obeying y plan i qs) where
  pub obeying_long : (length qs ≡ length y.parents) × (length y.depths ≡ length y.parents)
  obeying_long = let f = facts _ o.left.0 in (f.pebbles_size, f.depths_size)

  pub obeying_last : length (moves_of plan) ≡ i → (none ≡ moves_fault 0 y (moves_of plan)) × (qs ≡ after y (moves_of plan))
  obeying_last e = left_none y (moves_of plan) i qs o.left e

  module _ (l : i < length (moves_of plan)) where
    here : get_or (moves_of plan) i (push 0 0) ≡ move_in plan i
    here = move_at plan i (omega (arith, moves_of_half plan))

    pub obeying_lt : 2 * i + 1 < length plan
    obeying_lt = omega (arith, moves_of_half plan)

    pub obeying_refused : (f : Fault) → move_fault (yard_of y.parents qs [] y.depths) (move_in plan i) i ≡ some f → (some f ≡ moves_fault 0 y (moves_of plan)) × (qs ≡ after y (obeyed_of (some f) plan))
    obeying_refused f e = let r = left_refused y (moves_of plan) i qs o.left (move_in plan i) l here f i e refl in (r.0, o.left.2 ∙ ap (λ (i : ℕ). after y (take i (moves_of plan))) (sym r.1))

    module _ (e : move_fault (yard_of y.parents qs [] y.depths) (move_in plan i) i ≡ none) where
      crosses : Crossed y (get_or (moves_of plan) i (push 0 0))
      unfolding move_fault
      crosses =
          let z = holding y qs in
          let c = step_crossed z (move_in plan i) (step z (move_in plan i) ((move_fault_legal z o.left.0 (move_in plan i) i).0 e)) in
          rw here (record { from_lt = c.from_lt; edge_lt = c.edge_lt; off_root = c.off_root; once = c.once })

      pub obeying_next : {new : List ℕ} → new ≡ Push.shifted qs (move_in plan i) → Obeying y plan (i + 1) new
      obeying_next n = record { left = rw n (left_next y (moves_of plan) i qs o.left (move_in plan i) l here e); crossed = λ j k. go j k (ℕ_discrete j i) }
        where
          go : (j : ℕ) → j < i + 1 → Dec (j ≡ i) → Crossed y (get_or (moves_of plan) j (push 0 0))
          go j k (yes q) = rw q crosses
          go j k (no d) = o.crossed j (omega arith)

-- a move that was obeyed, and its edge
module _ {y : Yard} {plan qs : List ℕ} {k : ℕ} (o : Obeying y plan k qs) (i : ℕ) (l : i < k) (m : i < length (moves_of plan)) where
  that : get_or (moves_of plan) i (push 0 0) ≡ move_in plan i
  that = move_at plan i (omega (arith, moves_of_half plan))

  pub edge_asked : (2 * i + 1 < length plan) × (get_or plan (2 * i) 0 < length y.parents)
  edge_asked = (omega (arith, moves_of_half plan), rw that at (o.crossed i l).from_lt)

  pub edge_is : edge_in y.parents plan i ≡ edge_of y (get_or (moves_of plan) i (push 0 0))
  edge_is = rw that

  pub edge_lt : edge_in y.parents plan i < size y
  edge_lt = rw edge_is (o.crossed i l).edge_lt

  pub edge_small : edge_in y.parents plan i < 256
  edge_small = omega (arith, edge_lt, (facts _ o.left.0).few)

-- the crossings of each edge within the stretch of w moves from move i on
pub record Entries (y : Yard) (plan : List ℕ) (w i : ℕ) (counts : List ℕ) : Type 0 where
  pub long : length counts ≡ 256
  pub entries : (v : ℕ) → v < size y → get_or counts v 0 ≡ wear_at y w (moves_of plan) i v

pub entry_small : {y : Yard} {plan : List ℕ} {k i : ℕ} {counts : List ℕ} → length (moves_of plan) ≤ 131_072 → Entries y plan k i counts → (v : ℕ) → v < size y → get_or counts v 0 ≤ 262_144
entry_small {y} {plan} {k} {i} f e v l = omega (arith, e.entries v l, wear_at_le y k (moves_of plan) i v)

-- one more, and one less, at an entry
module _ (list : List ℕ) (u : ℕ) (l : u < length list) where
  one_more : (v : ℕ) → get_or (set list u (get_or list u 0 + 1)) v 0 ≡ get_or list v 0 + one (eqb v u)
  one_more v = go (ℕ_discrete v u)
    where
      go : Dec (v ≡ u) → get_or (set list u (get_or list u 0 + 1)) v 0 ≡ get_or list v 0 + one (eqb v u)
      go (yes e) = rw (e, get_or-set_same list u (get_or list u 0 + 1) 0 l, eq-eqb u u refl) (omega arith)
      go (no d) = rw (get_or-set_other list u v (get_or list u 0 + 1) 0 d, ne_eqb v u d) (omega arith)

  one_less : 0 < get_or list u 0 → (v : ℕ) → get_or (set list u (get_or list u 0 - 1)) v 0 + one (eqb v u) ≡ get_or list v 0
  one_less h v = go (ℕ_discrete v u)
    where
      go : Dec (v ≡ u) → get_or (set list u (get_or list u 0 - 1)) v 0 + one (eqb v u) ≡ get_or list v 0
      go (yes e) = rw (e, get_or-set_same list u (get_or list u 0 - 1) 0 l, eq-eqb u u refl) (omega arith)
      go (no d) = rw (get_or-set_other list u v (get_or list u 0 - 1) 0 d, ne_eqb v u d) (omega arith)

-- before the first move
pub count_none : (y : Yard) (plan : List ℕ) → Entries y plan 0 0 (replicate 256 0)
unfolding wear_at count
count_none y plan = record { long = length-replicate {A = ℕ} 256 0; entries = λ v l. get_d_zeros 256 v }
  where
    get_d_zeros : (n v : ℕ) → get_or {A = ℕ} (replicate n 0) v 0 ≡ 0
    get_d_zeros zero v = refl
    get_d_zeros (suc n) zero = refl
    get_d_zeros (suc n) (suc v) = get_d_zeros n v

-- the edge of a move, by whether it goes to the parent
module _ (parents plan : List ℕ) (i : ℕ) {f t u : ℕ} (p : f ≡ get_or plan (2 * i) 0) (q : t ≡ get_or plan (2 * i + 1) 0) (r : u ≡ get_or parents f 0) where
  parent_is : up parents (get_or plan (2 * i) 0) ≡ u
  parent_is = ap (up parents) (sym p) ∙ sym r

  pub edge_up : u ≡ t → f ≡ edge_in parents plan i
  edge_up e = rw (eq-eqb (up parents (get_or plan (2 * i) 0)) (get_or plan (2 * i + 1) 0) (parent_is ∙ e ∙ q)) p

  pub edge_down : u ≢ t → t ≡ edge_in parents plan i
  edge_down d = rw (ne_eqb (up parents (get_or plan (2 * i) 0)) (get_or plan (2 * i + 1) 0) (λ e. d (sym parent_is ∙ e ∙ sym q))) q

-- the first stretch, one move longer
pub count_more : {y : Yard} {plan qs counts : List ℕ} {k e : ℕ} → Obeying y plan (k + 1) qs → Entries y plan k 0 counts → k < length (moves_of plan) → e ≡ edge_in y.parents plan k
    → Entries y plan (k + 1) 0 (added counts e)
count_more {y} {plan} {counts = counts} {k} {e} o c l q = record {
  long = length-set counts e (get_or counts e 0 + 1) ∙ c.long;
  entries = λ v m. omega (
    arith,
    one_more counts e (omega (arith, q, edge_small o k (omega arith) l, c.long)) v,
    c.entries v m,
    ap (λ (n : ℕ). wear_at y n (moves_of plan) 0 v) (k_next k),
    wear_at_more y k (moves_of plan) (push 0 0) v l,
    (o.crossed k (omega arith)).once v,
    ap (λ (x : ℕ). one (eqb v x)) (q ∙ edge_is o k (omega arith) l),
  );
}
  where
    k_next : (k : ℕ) → k + 1 ≡ suc k
    k_next k = omega arith

-- the stretch from move i on is counted, and the worst so far is known
pub record Sliding (y : Yard) (plan : List ℕ) (w : ℕ) (qs counts : List ℕ) (crossings first edge i : ℕ) : Type 0 where
  pub few : i + w ≤ length (moves_of plan)
  pub obeying : Obeying y plan (i + w) qs
  pub entries : Entries y plan w i counts
  pub best : record { crossings = crossings; first = first; edge = edge } ≡ wear_over y w (moves_of plan) (suc i)

module _ {y : Yard} {plan qs counts : List ℕ} {w crossings edge : ℕ} (t : Tree y) (a : AskedWear plan w) (o : Obeying y plan w qs) (c : Entries y plan w 0 counts) (m : crossings ≡ most (size y) (λ v. get_or counts v 0))
    (b : edge ≡ lowest (size y) (λ v. eqb (get_or counts v 0) crossings)) where
  pub slide_first : Sliding y plan w qs counts crossings 0 edge 0
  slide_first = record {
    few = omega (arith, a.wide);
    obeying = let e : 0 + w ≡ w = omega arith in rw e o;
    entries = c;
    best =
        ap (λ (x : ℕ). record { crossings = x; first = 0; edge = edge }) (m ∙ same)
        ∙ ap (λ (x : ℕ). record { crossings = most (size y) g; first = 0; edge = x }) (b ∙ ap (head_or (size y)) (below_cong (size y) _ _ (λ v l. rw (c.entries v l, m, same))))
        ∙ sym (wear_start y w (moves_of plan) (push 0 0));
  }
    where
      g : ℕ → ℕ
      g = wear_at y w (moves_of plan) 0

      same : most (size y) (λ v. get_or counts v 0) ≡ most (size y) g
      same = most_cong (size y) (λ v. get_or counts v 0) g c.entries

-- the edge of the worst stretch so far: that of its last move, but for the first stretch
abbrev pub edge_since : (parents plan : List ℕ) (w worst first : ℕ) → ℕ
edge_since parents plan w worst first = cond (eqb first 0) worst (edge_in parents plan (first + w - 1))

-- what is known of the worst so far
module _ {y : Yard} {plan qs counts : List ℕ} {w crossings first edge i : ℕ} (t : Tree y) (s : Sliding y plan w qs counts crossings first edge i) where
  so : Worst y w (moves_of plan) (suc i) (wear_over y w (moves_of plan) (suc i))
  so = wear_worst y w (moves_of plan) (suc i) (omega arith) (omega (arith, (wood y t).root_lt))

  pub slide_past : first ≤ i
  slide_past = omega (arith, ap (λ (r : Wear). r.first) s.best, so.first_lt)

  -- two crossings for each move at most
  pub slide_small : length (moves_of plan) ≤ 131_072 → crossings ≤ 262_144
  slide_small f = let r = wear_over y w (moves_of plan) (suc i) in omega (arith, ap (λ (r : Wear). r.crossings) s.best, so.attained, wear_at_le y w (moves_of plan) r.first r.edge)

-- its edge, told at the end
module _ {y : Yard} {plan qs counts : List ℕ} {w crossings first i : ℕ} (worst : ℕ) (s : Sliding y plan w qs counts crossings first (edge_since y.parents plan w worst first) i) where
  pub edge_of_first : first ≡ 0 → Sliding y plan w qs counts crossings 0 worst i
  edge_of_first e = rw e at s

  pub edge_of_last : first ≢ 0 → {edge : ℕ} → edge ≡ edge_in y.parents plan (first + w - 1) → Sliding y plan w qs counts crossings first edge i
  edge_of_last d e = rw e (rw (ne_eqb first 0 d) at s)

-- the next stretch, once its last move is obeyed
module _ {y : Yard} {plan qs counts : List ℕ} {w i e g : ℕ} (t : Tree y) (a : AskedWear plan w) (o : Obeying y plan (i + w + 1) qs) (c : Entries y plan w i counts) (l : i + w < length (moves_of plan))
    (p : e ≡ edge_in y.parents plan (i + w)) (q : g ≡ edge_in y.parents plan i) where
  come_lt : e < size y
  come_lt = omega (arith, p, edge_lt o (i + w) (omega arith) l)

  gone_lt : g < size y
  gone_lt = omega (arith, q, edge_lt o i (omega arith) (omega arith))

  nodes : size y ≤ length counts
  nodes = omega (arith, (facts y t).few, c.long)

  come_is : e ≡ edge_of y (get_or (moves_of plan) (i + w) (push 0 0))
  come_is = p ∙ edge_is o (i + w) (omega arith) l

  gone_is : g ≡ edge_of y (get_or (moves_of plan) i (push 0 0))
  gone_is = q ∙ edge_is o i (omega arith) (omega arith)

  pub slides : (v : ℕ) → wear_at y w (moves_of plan) (suc i) v + one (eqb v g) ≡ wear_at y w (moves_of plan) i v + one (eqb v e)
  slides v = rw (gone_is, come_is) (wear_at_slides y t w (moves_of plan) (push 0 0) i l (o.crossed i (omega arith)) (o.crossed (i + w) (omega arith)) v)

  left : 0 < get_or counts g 0
  left = omega (
    arith,
    c.entries g gone_lt,
    wear_at_front y w (moves_of plan) (push 0 0) i g a.some (omega arith),
    (o.crossed i (omega arith)).once g,
    ap one (eq-eqb g (edge_of y (get_or (moves_of plan) i (push 0 0))) gone_is),
  )

  less : (v : ℕ) → get_or (taken counts g) v 0 + one (eqb v g) ≡ get_or counts v 0
  less = one_less counts g (omega (arith, gone_lt, nodes)) left

  more : (v : ℕ) → get_or (added (taken counts g) e) v 0 ≡ get_or (taken counts g) v 0 + one (eqb v e)
  more = one_more (taken counts g) e (omega (arith, come_lt, nodes, length-set counts g (get_or counts g 0 - 1)))

  pub shift_asked : AskedShift counts e g
  shift_asked = record {
    come_lt = omega (arith, come_lt, nodes, c.long);
    gone_lt = omega (arith, gone_lt, nodes, c.long);
    some = left;
    small = omega (arith, less e, entry_small a.few c e come_lt);
  }

  next : i + 1 ≡ suc i
  next = omega arith

  entries_next : Entries y plan w (i + 1) (added (taken counts g) e)
  entries_next = record {
    long = length-set (taken counts g) e _ ∙ length-set counts g _ ∙ c.long;
    entries = λ v m. omega (arith, more v, less v, slides v, c.entries v m, ap (λ (n : ℕ). wear_at y w (moves_of plan) n v) next);
  }

  module _ {new : List ℕ} {crossings first edge k : ℕ} (b : record { crossings = crossings; first = first; edge = edge } ≡ wear_over y w (moves_of plan) (suc i))
      (n : new ≡ added (taken counts g) e) (r : k ≡ get_or (taken counts g) e 0 + 1) where
    worst : ℕ
    worst = wear_at y w (moves_of plan) (suc i) (edge_of y (get_or (moves_of plan) (i + w) (push 0 0)))

    is_worst : k ≡ worst
    unfolding worst
    is_worst =
        let at : k ≡ get_or (added (taken counts g) e) e 0 = omega (arith, more e, ap one (eq-eqb e e refl)) in
        at
        ∙ entries_next.entries e come_lt
        ∙ ap (λ (n : ℕ). wear_at y w (moves_of plan) n e) next
        ∙ ap (wear_at y w (moves_of plan) (suc i)) come_is

    so_far : (wear_over y w (moves_of plan) (suc i)).crossings ≡ crossings
    so_far = sym (ap (λ (r : Wear). r.crossings) b)

    obeying_on : Obeying y plan (i + 1 + w) qs
    obeying_on = let e : i + 1 + w ≡ i + w + 1 = omega arith in rw e o

    pub slide_stays : k ≤ crossings → Sliding y plan w qs new crossings first edge (i + 1)
    unfolding worst
    slide_stays h = record {
      few = omega arith;
      obeying = obeying_on;
      entries = rw n entries_next;
      best =
          b
          ∙ sym (wear_stays y t w (moves_of plan) (push 0 0) i l (o.crossed i (omega arith)) (o.crossed (i + w) (omega arith)) (omega (arith, is_worst, so_far)))
          ∙ ap (λ (n : ℕ). wear_over y w (moves_of plan) (suc n)) (sym next);
    }

    came : (x : ℕ) → edge_since y.parents plan w x (i + 1) ≡ e
    came x = let s : i + 1 + w - 1 ≡ i + w = omega arith in rw (ne_eqb (i + 1) 0 (omega arith), s) (sym p)

    pub slide_rises : (x : ℕ) → crossings < k → Sliding y plan w qs new k (i + 1) (edge_since y.parents plan w x (i + 1)) (i + 1)
    unfolding worst
    slide_rises x h = record {
      few = omega arith;
      obeying = obeying_on;
      entries = rw n entries_next;
      best =
          ap (λ (v : ℕ). record { crossings = k; first = i + 1; edge = v }) (came x)
          ∙ ap (λ (c : ℕ). record { crossings = c; first = i + 1; edge = e }) is_worst
          ∙ ap (λ (n : ℕ). record { crossings = worst; first = n; edge = e }) next
          ∙ ap (λ (x : ℕ). record { crossings = worst; first = suc i; edge = x }) come_is
          ∙ sym (wear_rises y t w (moves_of plan) (push 0 0) i l (o.crossed i (omega arith)) (o.crossed (i + w) (omega arith)) (omega (arith, is_worst, so_far)))
          ∙ ap (λ (n : ℕ). wear_over y w (moves_of plan) (suc n)) (sym next);
    }

slide_last : {y : Yard} {plan qs counts : List ℕ} {w crossings first edge i : ℕ} → Sliding y plan w qs counts crossings first edge i → length (moves_of plan) ≤ i + w
    → (record { crossings = crossings; first = first; edge = edge } ≡ wear y w (moves_of plan)) × (none ≡ moves_fault 0 y (moves_of plan)) × (qs ≡ after y (moves_of plan))
slide_last {y} {plan} {w = w} {i = i} s l =
    let last : suc i ≡ stretches w (moves_of plan) = omega (arith, s.few) in
    let r = obeying_last s.obeying (omega (arith, s.few)) in
    (s.best ∙ ap (wear_over y w (moves_of plan)) last, r.0, r.1)

-- what obeying and counting answer, by a refused move or at the end
module _ (y : Yard) (plan : List ℕ) (w : ℕ) {qs : List ℕ} where
  pub worn_move : {f : Fault} {now : List ℕ} → (some f ≡ moves_fault 0 y (moves_of plan)) × (qs ≡ after y (obeyed_of (some f) plan)) → now ≡ qs
      → (refused f ≡ answer (moves_fault 0 y (moves_of plan)) (wear y w (moves_of plan))) × (now ≡ after y (obeyed_of (moves_fault 0 y (moves_of plan)) plan))
  worn_move e n = (rw (← e.0), n ∙ e.1 ∙ ap (λ (f : Option Fault). after y (obeyed_of f plan)) e.0)

  pub worn_end : {counts : List ℕ} {crossings first edge i : ℕ} → Sliding y plan w qs counts crossings first edge i → length (moves_of plan) ≤ i + w
      → (answered (record { crossings = crossings; first = first; edge = edge }) ≡ answer (moves_fault 0 y (moves_of plan)) (wear y w (moves_of plan)))
      × (qs ≡ after y (obeyed_of (moves_fault 0 y (moves_of plan)) plan))
  worn_end s l = let r = slide_last s l in (rw (← r.1) (ap answered r.0), r.2 ∙ ap (λ (f : Option Fault). after y (obeyed_of f plan)) r.1)

-- the call: what decides its answer
pub has_some : (bs : List ℕ) (w : ℕ) → (ltb 0 w) && (leb w (length (moves_of bs))) ≡ true → (0 < w) × (w ≤ length (moves_of bs))
has_some bs w e = let b = (and-eq-true_iff (ltb 0 w) (leb w (length (moves_of bs)))).0 e in (ltb-true 0 w b.0, leb-true w (length (moves_of bs)) b.1)

module _ (y : Yard) (bs : List ℕ) (w : ℕ) where
  pub worn_none : (ltb 0 w) && (leb w (length (moves_of bs))) ≡ false → check_fault y bs ≡ none → refused (row 28 0) ≡ wear_answer y bs w
  unfolding wear_fault
  worn_none b e = rw (e, b)

  pub worn_refused : (f : Fault) → check_fault y bs ≡ some f → refused f ≡ wear_answer y bs w
  unfolding wear_fault
  worn_refused f e = rw e

  pub worn_moves : 0 < w → w ≤ length (moves_of bs) → answer (check_fault y bs) (wear y w (moves_of bs)) ≡ wear_answer y bs w
  unfolding wear_fault
  worn_moves h l = rw (lt-ltb 0 w h, le-leb w (length (moves_of bs)) l) (go (check_fault y bs))
    where
      go : (f : Option Fault) → answer f (wear y w (moves_of bs)) ≡ answer (first_of (f ∷ none ∷ [])) (wear y w (moves_of bs))
      go none = refl
      go (some f) = refl

-- A yard, and the same yard with the marks of some nodes alone. Let no pebble be due over an edge between a node that passes and one that
-- does not. Then the demands of the second yard are those of the first at the nodes that pass, and 0 elsewhere.
use mathlib.Core.Path.{◌≡◌, refl, sym, ap, ◌∙◌}
use mathlib.Core.Logic.{◌≢◌}
use mathlib.Core.Bool.{Bool, true, false, cond, false≢true}
use mathlib.Core.List.{List, ◌∷◌}
use Prim.Native.Nat.{ℕ, zero, suc, ◌+◌, ◌≤◌, ◌<◌}
use native.Mathlib.Omega.{arith}
use native.Mathlib.Decide.{dec_lt}
use lib.ListN.{length, get_or, length-set}
use borrow.Author.Tests.{ne_eqb}
use Rattle.model.specs.Yard.{Yard, yard_of, size, parent, pebble, target, capacity, one, targets_in, pebbles_in, imbalance, root, Matched}
use Rattle.model.specs.Judge.{Tree}
use Rattle.model.specs.Push.{Move, shifted, moved, after, run, accepted}
use Rattle.model.specs.Parts.{masked}
use Rattle.laws.specs.Parts.{lies_in, kept}
use Rattle.laws.proofs.Basics.{All}
use Rattle.laws.proofs.Ranges.{length_range, get_d_listed}
use Rattle.laws.specs.Choice.{Child}
use Rattle.laws.proofs.Judged.{facts, wood, counted_tree}
use Rattle.laws.proofs.Demands.{over_cong, over_add, weight, weight_child, weight_pos, weight_le, subtotal_children, root_even, root_subtotal}
use Rattle.laws.specs.Algorithms.{need}
use Rattle.laws.proofs.Step.{Step, ends, moved_pebble, moved_tree}
use Rattle.laws.proofs.Runs.{Obeys, done, next}
use Rattle.laws.proofs.Moves.{obeys_accepted, accepted_obeys}

-- the marks of the nodes that pass, in two lists
pub record Struck (p : ℕ → Bool) (x : Yard) (qs ts : List ℕ) : Type 0 where
  pub pebbles_size : length qs ≡ size x
  pub targets_size : length ts ≡ size x
  pub pebbles : (v : ℕ) → v < size x → get_or qs v 0 ≡ cond (p v) (pebble x v) 0
  pub targets : (v : ℕ) → v < size x → get_or ts v 0 ≡ cond (p v) (target x v) 0

-- no pebble is due over an edge between a node that passes and one that does not
abbrev pub Closed : (ℕ → Bool) → Yard → Type 0
Closed p x = (c : ℕ) → c < size x → 0 < imbalance x c → p (parent x c) ≡ p c

-- masked
module _ (p : ℕ → Bool) (marks : List ℕ) where
  length_masked : length (masked p marks) ≡ length marks
  unfolding masked
  length_masked = length_range (λ v. cond (p v) (get_or marks v 0) 0) 0 (length marks)

  get_d_masked : (v : ℕ) → v < length marks → get_or (masked p marks) v 0 ≡ cond (p v) (get_or marks v 0) 0
  unfolding masked
  get_d_masked v l = get_d_listed (λ v. cond (p v) (get_or marks v 0) 0) 0 (length marks) v l

pub masked_struck : (p : ℕ → Bool) (y : Yard) → Tree y → Struck p y (masked p y.pebbles) (masked p y.targets)
masked_struck p y t =
    let f = facts y t in
    record {
      pebbles_size = length_masked p y.pebbles ∙ f.pebbles_size;
      targets_size = length_masked p y.targets ∙ f.targets_size;
      pebbles = λ v l. get_d_masked p y.pebbles v (omega arith);
      targets = λ v l. get_d_masked p y.targets v (omega arith);
    }

module _ {p : ℕ → Bool} {x : Yard} {qs ts : List ℕ} (t : Tree x) (k : Struck p x qs ts) where
  -- the second yard, on the same tree
  abbrev z : Yard
  z = yard_of x.parents qs ts x.depths

  cond_le : (b : Bool) (m n : ℕ) → m ≤ n → cond b m 0 ≤ n
  cond_le true m n l = l
  cond_le false m n l = omega arith

  pub struck_tree : Tree z
  struck_tree = counted_tree x t qs ts k.pebbles_size k.targets_size
      (λ v l. rw (k.pebbles v l) (cond_le (p v) (pebble x v) (capacity x v) ((facts x t).pebble_le v l)))
      (λ v l. rw (k.targets v l) (cond_le (p v) (target x v) (capacity x v) ((facts x t).target_le v l)))

  module _ (o : Closed p x) where
    -- an edge of demand 0 may be counted to either side
    either : (a b c d : ℕ) → c ≡ d → (e f : Bool) → a + cond e c 0 ≡ b + cond e d 0 → a + cond f c 0 ≡ b + cond f d 0
    either a b c d q true true h = h
    either a b c d q true false h = omega arith
    either a b c d q false true h = omega arith
    either a b c d q false false h = h

    -- the demand of v in both yards, with no number below 0: by equation 2, from the children to v
    abbrev Alike : Bool → ℕ → Type 0
    Alike b v = targets_in z v + cond b (pebbles_in x v) 0 ≡ pebbles_in z v + cond b (targets_in x v) 0

    from_child : (v c : ℕ) → Child x.parents v c → Alike (p c) c → Alike (p v) c
    from_child v c q h = go (dec_lt 0 (imbalance x c))
      where
        go : Dec (0 < imbalance x c) → Alike (p v) c
        go (yes n) = rw (← q.up, o c q.lt n) h
        go (no n) = either (targets_in z c) (pebbles_in z c) (pebbles_in x c) (targets_in x c) (omega arith) (p c) (p v) h

    alike : (n v : ℕ) → v < size x → weight x.parents v ≤ n → Alike (p v) v
    alike zero v l h = absurd (omega (arith, weight_pos (wood x t) v l))
    alike (suc n) v l h = go (p v) (k.pebbles v l) (k.targets v l) (λ c q. from_child v c q (alike n c q.lt (omega (arith, weight_child (wood x t) v c l q))))
      where
        go : (b : Bool) → pebble z v ≡ cond b (pebble x v) 0 → target z v ≡ cond b (target x v) 0 → ((c : ℕ) → Child x.parents v c → Alike b c) → Alike b v
        go true e f h = omega (
          arith,
          subtotal_children (wood x t) (target z) v l,
          subtotal_children (wood x t) (pebble z) v l,
          subtotal_children (wood x t) (target x) v l,
          subtotal_children (wood x t) (pebble x) v l,
          over_add x.parents (targets_in z) (pebbles_in x) v,
          over_add x.parents (pebbles_in z) (targets_in x) v,
          over_cong x.parents (λ c. targets_in z c + pebbles_in x c) (λ c. pebbles_in z c + targets_in x c) v h,
        )
        go false e f h = omega (
          arith,
          subtotal_children (wood x t) (target z) v l,
          subtotal_children (wood x t) (pebble z) v l,
          over_cong x.parents (targets_in z) (pebbles_in z) v (λ c q. omega (arith, h c q)),
        )

    alike_need : (e b : Bool) (v : ℕ) → Alike e v → need z b v ≡ cond e (need x b v) 0
    alike_need true true v h = omega arith
    alike_need true false v h = omega arith
    alike_need false true v h = omega arith
    alike_need false false v h = omega arith

    pub struck_need : (b : Bool) (v : ℕ) → v < size x → need z b v ≡ cond (p v) (need x b v) 0
    struck_need b v l = alike_need (p v) b v (alike (size x) v l (weight_le x.parents v))

    -- and at a child of v, by whether v passes
    pub struck_child : (b : Bool) (v c : ℕ) → Child x.parents v c → need z b c ≡ cond (p v) (need x b c) 0
    struck_child b v c q = alike_need (p v) b c (from_child v c q (alike (size x) c q.lt (weight_le x.parents c)))

    alike_imbalance : (e : Bool) (v : ℕ) → Alike e v → imbalance z v ≡ cond e (imbalance x v) 0
    alike_imbalance true v h = omega arith
    alike_imbalance false v h = omega arith

    pub struck_imbalance : (v : ℕ) → v < size x → imbalance z v ≡ cond (p v) (imbalance x v) 0
    struck_imbalance v l = alike_imbalance (p v) v (alike (size x) v l (weight_le x.parents v))

    pub child_imbalance : (v c : ℕ) → Child x.parents v c → imbalance z c ≡ cond (p v) (imbalance x c) 0
    child_imbalance v c q = alike_imbalance (p v) c (from_child v c q (alike (size x) c q.lt (weight_le x.parents c)))

    pub struck_matched : Matched x → Matched z
    struck_matched m = go (p (root x)) (struck_imbalance (root x) (wood x t).root_lt)
      where
        go : (b : Bool) → imbalance z (root x) ≡ cond b (imbalance x (root x)) 0 → Matched z
        go true e = omega (arith, root_even x t m, root_subtotal (wood x t) (pebble z), root_subtotal (wood x t) (target z))
        go false e = omega (arith, root_subtotal (wood x t) (pebble z), root_subtotal (wood x t) (target z))

-- one push, of which both nodes pass or neither
module _ {p : ℕ → Bool} {x : Yard} {qs ts : List ℕ} (t : Tree x) (k : Struck p x qs ts) (m : Move) where
  -- it is legal in the one yard exactly if in the other
  pub step_struck : Step x m → p m.from ≡ true → p m.to ≡ true → Step (yard_of x.parents qs ts x.depths) m
  step_struck s a b = record {
    tree = struck_tree t k;
    away = s.away;
    node = s.node;
    node_lt = s.node_lt;
    off_root = s.off_root;
    is = s.is;
    holds = rw (k.pebbles m.from (ends x m s).0, a) s.holds;
    room = rw (k.pebbles m.to (ends x m s).1, b) s.room;
  }

  pub struck_step : Step (yard_of x.parents qs ts x.depths) m → p m.from ≡ true → p m.to ≡ true → Step x m
  struck_step s a b = record {
    tree = t;
    away = s.away;
    node = s.node;
    node_lt = s.node_lt;
    off_root = s.off_root;
    is = s.is;
    holds = rw (k.pebbles m.from (ends (yard_of x.parents qs ts x.depths) m s).0, a) at s.holds;
    room = rw (k.pebbles m.to (ends (yard_of x.parents qs ts x.depths) m s).1, b) at s.room;
  }

  long : (b : Bool) → length (cond b (shifted qs m) qs) ≡ length qs
  unfolding shifted
  long true = simp length-set
  long false = refl

  -- and leaves the marks of the nodes that pass, if it is made in the second yard too or neither of its nodes passes
  pub struck_moved : Step x m → p m.from ≡ p m.to → Struck p (moved x m) (cond (p m.from) (shifted qs m) qs) ts
  struck_moved s e = record { pebbles_size = long (p m.from) ∙ k.pebbles_size; targets_size = k.targets_size; pebbles = λ v l. at v l (p m.from) refl (p v) refl; targets = k.targets }
    where
      apart : (v w : ℕ) → p v ≡ true → p w ≡ false → v ≢ w
      apart v w a b q = false≢true (sym b ∙ ap p (sym q) ∙ a)

      at : (v : ℕ) → v < size x → (b : Bool) → p m.from ≡ b → (c : Bool) → p v ≡ c → get_or (cond b (shifted qs m) qs) v 0 ≡ cond c (pebble (moved x m) v) 0
      at v l true a true c = omega (arith, moved_pebble x m s v, moved_pebble (yard_of x.parents qs ts x.depths) m (step_struck s a (sym e ∙ a)) v, rw c at (k.pebbles v l))
      at v l true a false c = omega (
        arith,
        moved_pebble (yard_of x.parents qs ts x.depths) m (step_struck s a (sym e ∙ a)) v,
        ap one (ne_eqb v m.from (λ q. apart m.from v a c (sym q))),
        ap one (ne_eqb v m.to (λ q. apart m.to v (sym e ∙ a) c (sym q))),
        rw c at (k.pebbles v l),
      )
      at v l false a true c = omega (
        arith,
        moved_pebble x m s v,
        ap one (ne_eqb v m.from (apart v m.from c a)),
        ap one (ne_eqb v m.to (apart v m.to c (sym e ∙ a))),
        rw c at (k.pebbles v l),
      )
      at v l false a false c = rw c at (k.pebbles v l)

-- both nodes of a move pass, or neither
abbrev pub OneSided : (ℕ → Bool) → Move → Type 0
OneSided p m = p m.from ≡ p m.to

-- a list of such pushes, obeyed in the one yard: those of nodes that pass are obeyed in the other, and leave the marks of the nodes that pass
pub struck_obeys : (p : ℕ → Bool) {x w : Yard} {ms : List Move} → Obeys x ms w → Tree x → All (OneSided p) ms → (qs ts : List ℕ) → Struck p x qs ts
    → (rs : List ℕ) × Obeys (yard_of x.parents qs ts x.depths) (kept (lies_in p) ms) (yard_of x.parents rs ts x.depths) × Struck p w rs ts
unfolding kept
struck_obeys p done t a qs ts k = (qs, done, k)
struck_obeys p {w = w} (next {y = x} {m = m} {ms = ms} s o) t a qs ts k = go (p m.from) refl (struck_obeys p o (moved_tree x m s) a.1 (cond (p m.from) (shifted qs m) qs) ts (struck_moved t k m s a.0))
  where
    go : (b : Bool) → p m.from ≡ b
        → (rs : List ℕ) × Obeys (yard_of x.parents (cond (p m.from) (shifted qs m) qs) ts x.depths) (kept (lies_in p) ms) (yard_of x.parents rs ts x.depths) × Struck p w rs ts
        → (rs : List ℕ) × Obeys (yard_of x.parents qs ts x.depths) (cond (lies_in p m) (m ∷ kept (lies_in p) ms) (kept (lies_in p) ms)) (yard_of x.parents rs ts x.depths) × Struck p w rs ts
    go true e r =
        let h = rw e at r in
        (h.0, rw (← a.0, e) (next (step_struck t k m s e (sym a.0 ∙ e)) h.1), h.2)
    go false e r = rw e (rw e at r)

pub struck_run : (p : ℕ → Bool) (x : Yard) → Tree x → (ms : List Move) → accepted x ms ≡ ms → All (OneSided p) ms → (qs ts : List ℕ) → Struck p x qs ts
    → (accepted (yard_of x.parents qs ts x.depths) (kept (lies_in p) ms) ≡ kept (lies_in p) ms) × Struck p (run x ms) (after (yard_of x.parents qs ts x.depths) (kept (lies_in p) ms)) ts
struck_run p x t ms e a qs ts k =
    let r = struck_obeys p (accepted_obeys x t ms e) t a qs ts k in
    let h = obeys_accepted r.1 in
    (h.0, rw h.1 r.2)

-- Yard states. The state of a tree holds that tree; a push of a state is the definition's push of its yard, and so are pushes one after another
-- (`pushes_run`, `pushes_accepted`); and refusal 2 is never given (`state_never_2`).
use mathlib.Core.Path.{◌≡◌, refl, ap, ◌∙◌}
use mathlib.Core.Bool.{Bool, true, false, not, cond, ◌&&◌}
use mathlib.Core.List.{List, [], ◌∷◌, ◌++◌, append_assoc}
use mathlib.Core.Option.{Option, none, some}
use Prim.Native.Nat.{ℕ, zero, suc, ◌≤◌, ◌<◌}
use native.Mathlib.Omega.{arith}
use lib.ListN.{length, take, drop, replicate, take-append-drop, length-set, length-take, length-append, length-replicate}
use lib.Seq.{length-take-le, take-append-le, take_at}
use lib.Dec.{leb, ltb}
use borrow.Author.Tests.{lt-ltb, lt-leb, eq-eqb}
use Rattle.model.specs.Yard.{Yard, yard_of, size, max_size, max_depth, parent, pebble, target, capacity, below, roots, root, climbs}
use Rattle.model.specs.Yard as Y
use Rattle.model.specs.Judge.{Fault, fault, length_fault, root_fault, tests, judge, Tree}
use Rattle.model.specs.Push.{Move, move_fault, push_fault, is_none, legal, shifted, pushed_pebbles, pushed, after, run, accepted}
use Rattle.model.specs.Calls.Checks.{moves_fault}
use Rattle.laws.proofs.Judged.{facts}
use Rattle.laws.proofs.Calls.{Other, other_none, other_fault, other_unless, other_lowest, other_first, other_moves}
use Rattle.yard.specs.State.{padded, yard_in, state_of, holding, state_after, state_after_all, answers, unrefused}
use Rattle.yard.specs.declared.state.Yard.{Yard as State}

-- padded: the list and zeros behind it, if there is room; its first entries, if there is not; as long as asked
zeros : (k m : ℕ) → k ≤ m → take k (replicate {A = ℕ} m 0) ≡ replicate k 0
zeros zero m h = refl
zeros (suc k) zero h = absurd (omega arith)
zeros (suc k) (suc m) h = ap (λ (l : List ℕ). 0 ∷ l) (zeros k m (omega arith))

room : (list : List ℕ) (k m : ℕ) → length list ≤ k → k ≤ m → take k (list ++ replicate m 0) ≡ list ++ drop (length list) (replicate k 0)
room [] k m h r = zeros k m r
room (x ∷ list) zero m h r = absurd (omega arith)
room (x ∷ list) (suc k) m h r = ap (λ (l : List ℕ). x ∷ l) (room list k m (omega arith) (omega arith))

pub padded_room : (n : ℕ) (list : List ℕ) → length list ≤ n → padded n list ≡ list ++ drop (length list) (replicate n 0)
unfolding padded
padded_room n list h = room list n n h (omega arith)

padded_cut : (n : ℕ) (list : List ℕ) → n ≤ length list → padded n list ≡ take n list
unfolding padded
padded_cut n list h = take-append-le n list (replicate n 0) h

length_padded : (n : ℕ) (list : List ℕ) → length (padded n list) ≡ n
unfolding padded
length_padded n list = simp (length-take, length-append, length-replicate) (omega arith)

padded_front : (n : ℕ) (qs rest : List ℕ) → length qs ≡ n → padded n (qs ++ rest) ≡ qs
unfolding padded
padded_front n qs rest e = rw append_assoc (take_at qs (rest ++ replicate n 0) n e)

-- padded to more than its length, and cut at that again
padded_back : (n : ℕ) (list : List ℕ) → length list ≡ n → n ≤ max_size → padded n (padded max_size list) ≡ list
padded_back n list e h = rw (padded_room max_size list (omega arith)) (padded_front n list _ e)

-- yard_in: the tree that a state was made of; refused, if the size is above 256; the first entries of the arrays, if they are so many
yard_in_of : (y : Yard) → Tree y → yard_in (state_of y) ≡ y
yard_in_of y t =
    let f = facts y t in
    rw (padded_back (size y) y.parents refl f.few.1, padded_back (size y) y.pebbles f.pebbles_size f.few.1, padded_back (size y) y.targets f.targets_size f.few.1, padded_back (size y) y.depths f.depths_size f.few.1)

pub made : (y : Yard) → Tree y → {ps qs ts ds : List ℕ} → ps ≡ padded max_size y.parents → qs ≡ padded max_size y.pebbles → ts ≡ padded max_size y.targets → ds ≡ padded max_size y.depths
    → (yard_in (record { parents = ps; pebbles = qs; targets = ts; depths = ds; size = size y }) ≡ y) × (record { parents = ps; pebbles = qs; targets = ts; depths = ds; size = size y } ≡ state_of y)
made y t p q r d = rw (p, q, r, d) (yard_in_of y t, refl)

pub yard_in_large : (s : State) → max_size < s.size → judge (yard_in s) ≡ fault 1 0
unfolding judge
yard_in_large s h = rw (length_padded s.size s.parents, lt-ltb 0 s.size (omega arith), lt-leb s.size max_size h)

abbrev pub Roomy : State → Type 0
Roomy s = (s.size ≤ length s.parents) × (s.size ≤ length s.pebbles) × (s.size ≤ length s.targets) × (s.size ≤ length s.depths)

abbrev pub front : State → Yard
front s = yard_of (take s.size s.parents) (take s.size s.pebbles) (take s.size s.targets) (take s.size s.depths)

pub yard_in_front : (s : State) → Roomy s → yard_in s ≡ front s
yard_in_front s h = rw (padded_cut s.size s.parents h.0, padded_cut s.size s.pebbles h.1, padded_cut s.size s.targets h.2, padded_cut s.size s.depths h.3)

-- state_after
length_shifted : (qs : List ℕ) (m : Move) → length (shifted qs m) ≡ length qs
unfolding shifted
length_shifted qs m = simp length-set

pub yard_in_after : (s : State) (m : Move) → yard_in (state_after s m) ≡ pushed (yard_in s) m
yard_in_after s m = go (legal (yard_in s) m)
  where
    qs : List ℕ
    qs = shifted (yard_in s).pebbles m

    go : (b : Bool) → yard_in (cond b (holding s qs) s) ≡ Y.holding (yard_in s) (cond b qs (yard_in s).pebbles)
    go true = rw (padded_front s.size qs (drop (length qs) s.pebbles) (length_shifted _ m ∙ length_padded s.size s.pebbles))
    go false = refl

-- what a push leaves in the first entries of the array, said of the state
pub front_pushed : (s : State) → Roomy s → (m : Move) (pebbles : List ℕ) → pebbles ≡ pushed_pebbles (front s) m
    → record { parents = s.parents; pebbles = pebbles ++ drop s.size s.pebbles; targets = s.targets; depths = s.depths; size = s.size } ≡ state_after s m
front_pushed s h m pebbles e = rw (e, yard_in_front s h, padded_cut s.size s.pebbles h.1) (go (legal (front s) m))
  where
    qs : List ℕ
    qs = take s.size s.pebbles

    go : (b : Bool) → record { parents = s.parents; pebbles = cond b (shifted qs m) qs ++ drop s.size s.pebbles; targets = s.targets; depths = s.depths; size = s.size } ≡ cond b (holding s (shifted qs m)) s
    go true = rw (length_shifted qs m, length-take-le s.size s.pebbles h.1)
    go false = rw (take-append-drop s.size s.pebbles)

-- pushes one by one: the yard at the end is that of the definition's list of pushes, and those answered with no refusal are its accepted ones
pub pushes_run : (s : State) (ms : List Move) → yard_in (state_after_all s ms) ≡ run (yard_in s) ms
unfolding state_after_all after
pushes_run s [] = refl
pushes_run s (m ∷ ms) = pushes_run (state_after s m) ms ∙ ap (λ (y : Yard). run y ms) (yard_in_after s m)

pub pushes_accepted : (s : State) (ms : List Move) → unrefused ms (answers s ms) ≡ accepted (yard_in s) ms
unfolding answers unrefused accepted legal
pushes_accepted s [] = refl
pushes_accepted s (m ∷ ms) = go (push_fault (yard_in s) m) _ _ (pushes_accepted (state_after s m) ms ∙ ap (λ (y : Yard). accepted y ms) (yard_in_after s m))
  where
    go : (f : Option Fault) (fs : List (Option Fault)) (ns : List Move) → unrefused ms fs ≡ ns → unrefused (m ∷ ms) (f ∷ fs) ≡ cond (is_none f) (m ∷ ns) ns
    go none fs ns e = ap (λ (l : List Move). m ∷ l) e
    go (some f) fs ns e = e

-- a tree's lists made a state, and that pushed one by one
pub tree_pushes : (y : Yard) → Tree y → (ms : List Move)
    → (yard_in (state_after_all (state_of y) ms) ≡ run y ms) × (unrefused ms (answers (state_of y) ms) ≡ accepted y ms)
tree_pushes y t ms =
    let e = yard_in_of y t in
    (pushes_run (state_of y) ms ∙ ap (λ (z : Yard). run z ms) e, pushes_accepted (state_of y) ms ∙ ap (λ (z : Yard). accepted z ms) e)

-- a yard state has one n, so no push of one is refused with number 2
root_other : (roots : List ℕ) → Other 2 (root_fault roots)
root_other [] = other_fault 2 5 0 (omega arith)
root_other (r ∷ []) = other_none 2
root_other (r ∷ s ∷ rs) = other_fault 2 5 s (omega arith)

judge_other : (y : Yard) → length_fault y ≡ none → Other 2 (judge y)
unfolding judge
judge_other y e = other_first 2 (tests y) (
  other_unless 2 1 0 (omega arith) ((ltb 0 (size y)) && (leb (size y) max_size)),
  (
    rw e (other_none 2),
    (
      other_lowest 2 26 (omega arith) (below (size y) (λ v. not ((ltb 0 (capacity y v)) && (leb (capacity y v) max_depth)))),
      (
        other_lowest 2 27 (omega arith) (below (size y) (λ v. ltb (capacity y v) (pebble y v))),
        (
          other_lowest 2 27 (omega arith) (below (size y) (λ v. ltb (capacity y v) (target y v))),
          (
            other_lowest 2 4 (omega arith) (below (size y) (λ v. leb (size y) (parent y v))),
            (root_other (roots y.parents), (other_lowest 2 6 (omega arith) (below (size y) (λ v. not (climbs (size y) y.parents v (root y)))), tt)),
          ),
        ),
      ),
    ),
  ),
)

pub state_never_2 : (s : State) (m : Move) → Other 2 (push_fault (yard_in s) m)
unfolding push_fault moves_fault
state_never_2 s m = other_first 2 (judge (yard_in s) ∷ move_fault (yard_in s) m 0 ∷ []) (
  judge_other (yard_in s) (rw (length_padded s.size s.parents, length_padded s.size s.pebbles, length_padded s.size s.targets, length_padded s.size s.depths, eq-eqb s.size s.size refl)),
  ((λ p e. other_moves 2 (omega arith) (m ∷ []) 0 (yard_in s) p (rw e)), tt),
)

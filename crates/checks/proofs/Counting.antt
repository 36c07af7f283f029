-- Counting crossings move by move: a move raises the counts of the edges that it crosses, and so many moves cross an edge at most so often.
use mathlib.Core.Path.{◌≡◌, refl, sym, ap, ◌∙◌}
use mathlib.Core.Bool.{Bool, true, false, ◌&&◌}
use mathlib.Core.List.{List, [], ◌∷◌, ◌++◌}
use Prim.Native.Nat.{ℕ, zero, suc, ◌+◌, ◌*◌, ◌/◌, ◌≤◌, ◌<◌}
use native.Mathlib.Numerals.{add-one}
use native.Mathlib.Omega.{arith}
use native.Mathlib.Decide.{ℕ_discrete}
use lib.ListN.{length, get_or, set, take, replicate, length-set, length-append, get_or-append}
use lib.Seq.{take-suc, length-take-le, get_or-set_same, get_or-set_other}
use lib.Dec.{eqb}
use borrow.Author.Tests.{eq-eqb, ne_eqb}
use Rattle.model.specs.Yard.{up, one}
use Rattle.model.specs.Push.{Move, push, is_up, is_down, count}
use Rattle.laws.proofs.Basics.{eqb_sym}
use Rattle.laws.proofs.Wear.{count_append, count_le}
use Rattle.model.specs.Calls.Plans.{moves_of}
use Rattle.laws.proofs.Calls.{moves_of_half}
use Rattle.checks.specs.Crossings.{raised, bare, InYard, CrossingsOf, Counted}

-- one more at v
pub length_raised : (v : ℕ) (b : Bool) (xs : List ℕ) → length (raised v b xs) ≡ length xs
length_raised v true xs = length-set xs v _
length_raised v false xs = refl

entry_raised : (v w : ℕ) (b : Bool) (xs : List ℕ) → v < length xs → get_or (raised v b xs) w 0 ≡ get_or xs w 0 + one (b && (eqb w v))
entry_raised v w false xs l = omega arith
entry_raised v w true xs l = go (ℕ_discrete w v)
  where
    go : Dec (w ≡ v) → get_or (set xs v (get_or xs v 0 + 1)) w 0 ≡ get_or xs w 0 + one (eqb w v)
    go (yes e) = rw (e, eq-eqb v v refl) (get_or-set_same xs v _ 0 l)
    go (no n) = rw (ne_eqb w v n) (get_or-set_other xs v w _ 0 n ∙ omega arith)

swap : (a b : Bool) → (a && b) ≡ (b && a)
swap true true = refl
swap true false = refl
swap false true = refl
swap false false = refl

module _ (ps : List ℕ) where
  -- at v, a test of the edge of a is one of the edge of v
  same_edge : (a v : ℕ) (p : ℕ → Bool) → ((p a) && (eqb v a)) ≡ ((p v) && (eqb v a))
  same_edge a v p = go (ℕ_discrete v a)
    where
      go : Dec (v ≡ a) → ((p a) && (eqb v a)) ≡ ((p v) && (eqb v a))
      go (yes e) = rw e
      go (no n) = rw (ne_eqb v a n) (swap (p a) false ∙ sym (swap (p v) false))

  up_is : (a b v : ℕ) → ((eqb (up ps a) b) && (eqb v a)) ≡ is_up (bare ps) v (push a b)
  up_is a b v = same_edge a v (λ u. eqb (up ps u) b) ∙ swap (eqb (up ps v) b) (eqb v a) ∙ rw (eqb_sym v a, eqb_sym (up ps v) b)

  down_is : (a b v : ℕ) → ((eqb (up ps b) a) && (eqb v b)) ≡ is_down (bare ps) v (push a b)
  down_is a b v = same_edge b v (λ u. eqb (up ps u) a) ∙ rw (eqb_sym v b, eqb_sym (up ps v) a)

  module _ (ms : List Move) (k : ℕ) (l : k < length ms) where
    next : (p : Move → Bool) → count p (take (k + 1) ms) ≡ count p (take k ms) + one (p (get_or ms k (push 0 0)))
    unfolding count
    next p =
        let m = get_or ms k (push 0 0) in
        rw (add-one k, take-suc ms k (push 0 0) l) (omega (arith, count_append p (take k ms) (m ∷ [])))

    pub crossed_next : (a b : ℕ) (us ds : List ℕ) → get_or ms k (push 0 0) ≡ push a b → a < length us → b < length ds
        → CrossingsOf ps (take k ms) us ds
        → CrossingsOf ps (take (k + 1) ms) (raised a (eqb (up ps a) b) us) (raised b (eqb (up ps b) a) ds)
    crossed_next a b us ds e la lb c v = (
      entry_raised a v (eqb (up ps a) b) us la ∙ rw (next (is_up (bare ps) v), e, up_is a b v, (c v).0),
      entry_raised b v (eqb (up ps b) a) ds lb ∙ rw (next (is_down (bare ps) v), e, down_is a b v, (c v).1),
    )

  pub crossed_few : (ms : List Move) (k : ℕ) (us ds : List ℕ) → k ≤ length ms → CrossingsOf ps (take k ms) us ds
      → (v : ℕ) → (get_or us v 0 ≤ k) × (get_or ds v 0 ≤ k)
  crossed_few ms k us ds l c v =
      let n = length-take-le k ms l in (
        omega (arith, (c v).0, count_le (is_up (bare ps) v) (take k ms), n),
        omega (arith, (c v).1, count_le (is_down (bare ps) v) (take k ms), n),
      )

-- a move of the plan: its two bytes, and its place among the moves
module _ {ps plan : List ℕ} (y : InYard ps plan) (k : ℕ) (l : k < length plan / 2) where
  pub turn : (2 * k + 1 < length plan) × (k < length (moves_of plan))
  turn = (omega (arith, l), omega (arith, l, moves_of_half plan))

-- an array of zeros
pub zero_entry : (n v : ℕ) → get_or (replicate {A = ℕ} n 0) v 0 ≡ 0
zero_entry zero v = refl
zero_entry (suc n) zero = refl
zero_entry (suc n) (suc v) = zero_entry n v

-- the moves behind the next are moves in the yard
in_yard_next : {ps : List ℕ} (pair left : List ℕ) → length pair ≡ 2 → InYard ps (pair ++ left) → InYard ps left
in_yard_next [] left two y = absurd (omega arith)
in_yard_next (a ∷ []) left two y = absurd (omega arith)
in_yard_next (a ∷ b ∷ []) left two y = record { few = y.few; short = omega (arith, y.short); node = λ i l. y.node (suc (suc i)) (omega arith) }
in_yard_next (a ∷ b ∷ d ∷ pair) left two y = absurd (omega arith)

-- the crossings counted, and those of the moves that are left, are those of the plan
abbrev AllCrossings : List ℕ → List Move → List Move → List ℕ → List ℕ → Type 0
AllCrossings ps ms left us ds = (v : ℕ)
    → (get_or us v 0 + count (is_up (bare ps) v) left ≡ count (is_up (bare ps) v) ms) × (get_or ds v 0 + count (is_down (bare ps) v) left ≡ count (is_down (bare ps) v) ms)

crossings_next : (ps us ds : List ℕ) (ms : List Move) (pair left : List ℕ) → length pair ≡ 2 → let a = get_or pair 0 0 in let b = get_or pair 1 0 in a < length us → b < length ds
    → AllCrossings ps ms (moves_of (pair ++ left)) us ds → AllCrossings ps ms (moves_of left) (raised a (eqb (up ps a) b) us) (raised b (eqb (up ps b) a) ds)
unfolding moves_of count
crossings_next ps us ds ms [] left two la lb e = absurd (omega arith)
crossings_next ps us ds ms (a ∷ []) left two la lb e = absurd (omega arith)
crossings_next ps us ds ms (a ∷ b ∷ []) left two la lb e = λ v. (
  omega (arith, (e v).0, entry_raised a v (eqb (up ps a) b) us la, ap one (up_is ps a b v)),
  omega (arith, (e v).1, entry_raised b v (eqb (up ps b) a) ds lb, ap one (down_is ps a b v)),
)
crossings_next ps us ds ms (a ∷ b ∷ d ∷ pair) left two la lb e = absurd (omega arith)

pub record Counting (ps plan left us ds : List ℕ) : Type 0 where
  pub in_yard : InYard ps left
  pub up_length : length us ≡ 256
  pub down_length : length ds ≡ 256
  pub are : AllCrossings ps (moves_of plan) (moves_of left) us ds

pub counting_none : {ps plan : List ℕ} → InYard ps plan → Counting ps plan plan (replicate 256 0) (replicate 256 0)
counting_none y = record { in_yard = y; up_length = refl; down_length = refl; are = λ v. (rw (zero_entry 256 v) (omega arith), rw (zero_entry 256 v) (omega arith)) }

module _ {ps plan left us ds : List ℕ} (c : Counting ps plan left us ds) where
  -- no count is large
  pub few : InYard ps plan → (v : ℕ) → (get_or us v 0 < 1_000_000) × (get_or ds v 0 < 1_000_000)
  few y v =
      let n = moves_of_half plan in
      let e = c.are v in
      (omega (arith, e.0, count_le (is_up (bare ps) v) (moves_of plan), n.0, y.short), omega (arith, e.1, count_le (is_down (bare ps) v) (moves_of plan), n.0, y.short))

  pub counting_end : length left < 2 → Counted ps plan us ds
  unfolding moves_of count
  counting_end h = record { up_length = c.up_length; down_length = c.down_length; are = go left h c.are }
    where
      go : (l : List ℕ) → length l < 2 → AllCrossings ps (moves_of plan) (moves_of l) us ds → CrossingsOf ps (moves_of plan) us ds
      go [] h e = λ v. (omega (arith, e v), omega (arith, e v))
      go (a ∷ []) h e = λ v. (omega (arith, e v), omega (arith, e v))
      go (a ∷ b ∷ l) h e = absurd (omega arith)

  -- the next move: its two nodes are of the yard
  module _ (pair left' : List ℕ) (q : left ≡ pair ++ left') (two : length pair ≡ 2) where
    pub nodes : (get_or pair 0 0 < length ps) × (get_or pair 1 0 < length ps) × (length ps ≤ 256)
    nodes =
        let n = rw q at c.in_yard.node in
        let l : length (pair ++ left') ≡ 2 + length left' = simp length-append (omega arith) in
        (rw (get_or-append pair left' 0 0 (omega arith)) at (n 0 (omega arith)), rw (get_or-append pair left' 0 1 (omega arith)) at (n 1 (omega arith)), c.in_yard.few)

    pub counting_next : Counting ps plan left' (raised (get_or pair 0 0) (eqb (up ps (get_or pair 0 0)) (get_or pair 1 0)) us)
        (raised (get_or pair 1 0) (eqb (up ps (get_or pair 1 0)) (get_or pair 0 0)) ds)
    counting_next = record {
      in_yard = in_yard_next pair left' two (rw q at c.in_yard);
      up_length = length_raised _ _ us ∙ c.up_length;
      down_length = length_raised _ _ ds ∙ c.down_length;
      are = let n = nodes in crossings_next ps us ds (moves_of plan) pair left' two (omega (arith, n, c.up_length)) (omega (arith, n, c.down_length)) (rw q at c.are);
    }

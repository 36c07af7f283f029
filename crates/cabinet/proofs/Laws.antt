-- The block's nine stores; the next move by its two bytes, and what a step is told of it; the tests
-- of a step, and what an accepted one leaves.
use mathlib.Core.Path.{◌≡◌, refl, sym, ap, subst, ◌∙◌}
use mathlib.Core.Logic.{◌≢◌}
use mathlib.Core.Bool.{Bool, not, ◌&&◌, ◌||◌}
use mathlib.Core.List.{List, [], ◌∷◌}
use mathlib.Core.Option.{Option, none, some}
use Prim.Native.Nat.{ℕ, zero, suc, ◌+◌, ◌-◌, ◌*◌, ◌/◌, ◌≤◌, ◌<◌}
use native.Mathlib.Omega.{arith}
use lib.ListN.{length, get_or, set, get_or-eq_default}
use lib.Dec.{leb, ltb, eqb}
use borrow.Author.Tests.{lt-ltb, ne_eqb}
use Rattle.model.specs.declared.Registers.{Registers}
use Rattle.model.specs.Yard.{Yard, yard_of}
use Rattle.model.specs.Judge.{Fault, row, first_of, judge}
use Rattle.model.specs.Push.{Move, push, move_fault}
use Rattle.model.specs.Calls.Plans.{moves_of}
use Rattle.model.specs.Calls.Checks.{bytes_fault}
use Rattle.model.specs.Calls.Answers.{Answer, answered, refused}
use Rattle.model.specs.Calls.Registers.{idle, block_length, block_of, registers_of, raised, whole_moves, next_number, next_move, next_tests, step_fault, pebbles_then, stepped}
use Rattle.laws.proofs.Basics.{single}
use Rattle.laws.proofs.Calls.{moves_of_half, moves_half, move_at}
use Rattle.laws.proofs.Sheets.{Bytes}
use Rattle.laws.proofs.Blocks.{registers_of_block_of, block_of_registers_of, registers_of_held, then_of, pebbles_of, stepped_refused, stepped_line, stepped_block, stepped_pebbles, stepped_registers}
use Rattle.laws.proofs.Cabinet.{then_held}
use Rattle.cabinet.specs.declared.registers.Told.{Told}
use Rattle.cabinet.specs.Step.{told_of, next_of}

-- nine stores into a list of nine leave the nine values
pub nine : (xs : List ℕ) (a b c d e f g h i : ℕ) → length xs ≡ 9
    → set (set (set (set (set (set (set (set (set xs 0 a) 1 b) 2 c) 3 d) 4 e) 5 f) 6 g) 7 h) 8 i ≡ a ∷ b ∷ c ∷ d ∷ e ∷ f ∷ g ∷ h ∷ i ∷ []
nine (_ ∷ _ ∷ _ ∷ _ ∷ _ ∷ _ ∷ _ ∷ _ ∷ _ ∷ []) a b c d e f g h i l = refl
nine (_ ∷ _ ∷ _ ∷ _ ∷ _ ∷ _ ∷ _ ∷ _ ∷ _ ∷ _ ∷ xs) a b c d e f g h i l = absurd (omega (arith, l))
nine [] a b c d e f g h i l = absurd (omega (arith, l))
nine (_ ∷ []) a b c d e f g h i l = absurd (omega (arith, l))
nine (_ ∷ _ ∷ []) a b c d e f g h i l = absurd (omega (arith, l))
nine (_ ∷ _ ∷ _ ∷ []) a b c d e f g h i l = absurd (omega (arith, l))
nine (_ ∷ _ ∷ _ ∷ _ ∷ []) a b c d e f g h i l = absurd (omega (arith, l))
nine (_ ∷ _ ∷ _ ∷ _ ∷ _ ∷ []) a b c d e f g h i l = absurd (omega (arith, l))
nine (_ ∷ _ ∷ _ ∷ _ ∷ _ ∷ _ ∷ []) a b c d e f g h i l = absurd (omega (arith, l))
nine (_ ∷ _ ∷ _ ∷ _ ∷ _ ∷ _ ∷ _ ∷ []) a b c d e f g h i l = absurd (omega (arith, l))
nine (_ ∷ _ ∷ _ ∷ _ ∷ _ ∷ _ ∷ _ ∷ _ ∷ []) a b c d e f g h i l = absurd (omega (arith, l))

-- the next move
module _ (bs : List ℕ) (r : Registers) where
  pub number : length bs / 2 - r.left ≡ next_number bs r
  number = ap (λ (n : ℕ). n - r.left) (moves_half bs)

  pub next_lt : 0 < r.left → r.left ≤ whole_moves bs → 2 * (length bs / 2 - r.left) + 1 < length bs
  next_lt h l = omega (arith, moves_half bs, moves_of_half bs)

  pub next_is : 0 < r.left → r.left ≤ whole_moves bs → push (get_or bs (2 * (length bs / 2 - r.left)) 0) (get_or bs (2 * (length bs / 2 - r.left) + 1) 0) ≡ next_move bs r
  next_is h l = sym (move_at bs (length bs / 2 - r.left) (next_lt h l)) ∙ ap (λ (i : ℕ). get_or (moves_of bs) i (push 0 0)) number

  no_next : r.left ≡ 0 → push 0 0 ≡ next_move bs r
  no_next z = sym (get_or-eq_default (moves_of bs) (push 0 0) (omega (arith, z)))

  -- what a step is told
  abbrev told : ℕ → Move → Bool → Told
  told n m failed = record { moves = n; from = m.from; to = m.to; failed = failed }

  module _ (failed : Bool) where
    by_move : (m : Move) → m ≡ next_move bs r → told (length bs / 2) m failed ≡ told_of bs r failed
    by_move m e = ap (λ (n : ℕ). told n m failed) (moves_half bs) ∙ ap (λ (m : Move). told (whole_moves bs) m failed) e

    pub told_none : r.left ≡ 0 → told (length bs / 2) (push 0 0) failed ≡ told_of bs r failed
    told_none z = by_move (push 0 0) (no_next z)

    pub told_next : 0 < r.left → r.left ≤ whole_moves bs
        → told (length bs / 2) (push (get_or bs (2 * (length bs / 2 - r.left)) 0) (get_or bs (2 * (length bs / 2 - r.left) + 1) 0)) failed ≡ told_of bs r failed
    told_next h l = by_move _ (next_is h l)

-- none is left exactly if not one is
pub none_left : (n : ℕ) → eqb n 0 ≡ not (ltb 0 n)
none_left zero = refl
none_left (suc n) = rw (ne_eqb (suc n) 0 (λ e. omega (arith, e)), lt-ltb 0 (suc n) (omega arith))

-- the test of the moves left, as the definition has it
abbrev pub left_right : ℕ → Registers → Bool
left_right moves r = (leb r.left moves) && ((eqb r.status idle) || (ltb 0 r.left))

-- past 9, a running step with command 0 is refused as its move is
pub next_tests_law : (y : Yard) (bs : List ℕ) (r : Registers) (m : Move) (i : ℕ) {a : Option Fault} → bytes_fault bs ≡ none → m ≡ next_move bs r → i ≡ next_number bs r
    → a ≡ move_fault (yard_of y.parents y.pebbles [] y.depths) m i → a ≡ first_of (next_tests y bs r)
unfolding move_fault
next_tests_law y bs r m i p e n k =
    k ∙ ap (λ (m : Move). move_fault y m i) e ∙ ap (move_fault y (next_move bs r)) n ∙ sym (single (move_fault y (next_move bs r) (next_number bs r))) ∙ rw p

-- what a step of registers answers and leaves, refused and accepted
module _ (y : Yard) (bs : List ℕ) (failed : Bool) where
  abbrev Left : List ℕ → Answer Bool → Registers → List ℕ → Type 0
  Left block line next pebbles = (line ≡ (stepped y bs block failed).line) × ((next ≡ registers_of (stepped y bs block failed).block) × (pebbles ≡ (stepped y bs block failed).pebbles))

  pub left_refused : (r : Registers) {f : Fault} → step_fault y bs (block_of r) ≡ some f → Left (block_of r) (refused f) r y.pebbles
  left_refused r {f} e = rw (stepped_refused y bs (block_of r) failed f e) (refl, (sym (registers_of_block_of r), refl))

  pub left_accepted : (r : Registers) → step_fault y bs (block_of r) ≡ none → (t : Told) (n : Registers) (l : Bool) {pebbles : List ℕ} → t ≡ told_of bs r failed → n ≡ next_of r t → l ≡ raised n
      → pebbles ≡ pebbles_then y (push t.from t.to) t.failed r → Left (block_of r) (answered l) n pebbles
  left_accepted r e t n l q p h k =
      let same = sym (registers_of_block_of r) in
      let all : n ≡ then_of bs failed (registers_of (block_of r)) = p ∙ ap (next_of r) q ∙ ap (then_of bs failed) same in (
        ap answered (h ∙ ap raised all) ∙ sym (stepped_line y bs (block_of r) failed e),
        (
          all ∙ sym (stepped_registers y bs (block_of r) failed e),
          k ∙ ap (λ (t : Told). pebbles_then y (push t.from t.to) t.failed r) q ∙ ap (pebbles_of y bs failed) same ∙ sym (stepped_pebbles y bs (block_of r) failed e),
        ),
      )

  -- and of registers in a block: the block that is written back, and the moves left in it fit three bytes
  module _ (block : List ℕ) (b : Bytes block) where
    pub left_block : length block ≡ block_length → (r : Registers) → r ≡ registers_of block → {line : Answer Bool} {next : Registers} {now pebbles : List ℕ} → Left (block_of r) line next pebbles → now ≡ block_of next
        → (line ≡ (stepped y bs block failed).line) × ((now ≡ (stepped y bs block failed).block) × (pebbles ≡ (stepped y bs block failed).pebbles))
    left_block long r p {line} {next} {now} {pebbles} h k =
        let l : Left block line next pebbles = subst (λ (block : List ℕ). Left block line next pebbles) (ap block_of p ∙ block_of_registers_of block long (b 4) (b 5)) h in
        (l.0, (k ∙ ap block_of l.1.0 ∙ back (step_fault y bs block) refl, l.1.1))
      where
        back : (f : Option Fault) → step_fault y bs block ≡ f → block_of (registers_of (stepped y bs block failed).block) ≡ (stepped y bs block failed).block
        back none e = rw (stepped_block y bs block failed e) (ap block_of (registers_of_block_of _))
        back (some f) e = rw (stepped_refused y bs block failed f e) (block_of_registers_of block long (b 4) (b 5))

    pub left_fits : Bytes bs → length block ≡ block_length → (r : Registers) → r ≡ registers_of block → {line : Answer Bool} {next : Registers} {pebbles : List ℕ} → Left (block_of r) line next pebbles → next.left < 16_777_216
    left_fits c long r p {line} {next} {pebbles} h =
        let l : Left block line next pebbles = subst (λ (block : List ℕ). Left block line next pebbles) (ap block_of p ∙ block_of_registers_of block long (b 4) (b 5)) h in
        rw l.1.0 (fits (step_fault y bs block) refl)
      where
        fits : (f : Option Fault) → step_fault y bs block ≡ f → (registers_of (stepped y bs block failed).block).left < 16_777_216
        fits none e = rw (stepped_registers y bs block failed e) (then_held y bs block failed e b c).2
        fits (some f) e = rw (stepped_refused y bs block failed f e) (registers_of_held block b).2

  -- a block of another length: refused by the yard, then by 2
  module _ (block : List ℕ) where
    abbrev Kept : Fault → Type 0
    Kept f = (refused f ≡ (stepped y bs block failed).line) × ((block ≡ (stepped y bs block failed).block) × (y.pebbles ≡ (stepped y bs block failed).pebbles))

    kept : (f : Fault) → step_fault y bs block ≡ some f → Kept f
    kept f e = rw (stepped_refused y bs block failed f e) (refl, (refl, refl))

    pub kept_yard : {f : Fault} → judge y ≡ some f → Kept f
    unfolding step_fault
    kept_yard {f} e = kept f (rw e)

    pub kept_long : judge y ≡ none → length block ≢ block_length → Kept (row 2 0)
    unfolding step_fault
    kept_long e n = kept (row 2 0) (rw (e, ne_eqb (length block) block_length n))

-- The cabinet's registers (requests 2.9 and 2.10): nine bytes and the registers that they hold, and the tests of a step. A step is accepted exactly if none of
-- its tests refuses (`step_fault_none`), and every answer is one that a number tells (`step_small`).
use mathlib.Core.Path.{◌≡◌, refl, sym}
use mathlib.Core.Logic.{◌≢◌, ◌↔◌, ◌⊎◌, inl, inr}
use mathlib.Core.Bool.{Bool, true, false, cond, ◌&&◌, ◌||◌, or-true, and-eq-true_iff}
use mathlib.Core.List.{List, []}
use mathlib.Core.Option.{none, some}
use Prim.Native.Nat.{ℕ, zero, suc, ◌+◌, ◌*◌, ◌/◌, ◌%◌, ◌<◌}
use native.Mathlib.Omega.{arith}
use lib.ListN.{length, get_or, drop}
use lib.Seq.{ext_get_or}
use lib.Dec.{leb, ltb, eqb}
use borrow.Author.Tests.{ltb-true, leb-true, eqb-true, lt-ltb, le-leb, eq-eqb, ne_eqb}
use Rattle.model.specs.Yard.{Yard, one}
use Rattle.model.specs.Judge.{Fault, first_of, Tree}
use Rattle.model.specs.Push.{move_fault}
use Rattle.model.specs.Calls.Answers.{Answer, answered, refused, mapAnswer, Small}
use Rattle.model.specs.Calls.Checks.{bytes_fault, check_fault}
use Rattle.model.specs.declared.Registers.{Registers}
use Rattle.model.specs.Calls.Registers.{line_in_c, line_told, no_command, start, acknowledge, idle, running, stalled, block_length, block_of, registers_of, max_flags, raised, whole_moves, next_number, next_move, obeying, register_tests, register_fault, start_tests, next_tests, task_fault, step_tests, step_fault, registers_then, pebbles_then, stepped}
use Rattle.laws.specs.Cabinet.{InRange}
use Rattle.laws.proofs.Basics.{one_le, none_all, all_none, unless_none}
use Rattle.laws.proofs.Calls.{answer_answered, answer_refused}
use Rattle.laws.proofs.Sheets.{Bytes}
use Rattle.laws.proofs.Places.{tells, first, all, once, judge_low, move_low, few_moves, bytes_low, check_low, Low, small, map_answer}

-- block_of, registers_of
pub registers_of_block_of : (r : Registers) → registers_of (block_of r) ≡ r
unfolding registers_of block_of
registers_of_block_of r =
    let e : r.left % 256 + 256 * (r.left / 256 % 256) + 65_536 * (r.left / 65_536) ≡ r.left = omega arith in
    rw e

pub length_block_of : (r : Registers) → length (block_of r) ≡ block_length
unfolding block_of
length_block_of r = refl

pub block_of_registers_of : (block : List ℕ) → length block ≡ block_length → get_or block 4 0 < 256 → get_or block 5 0 < 256 → block_of (registers_of block) ≡ block
unfolding registers_of block_of
block_of_registers_of block l low mid = ext_get_or 0 _ block (sym l) same
  where
    same : (i : ℕ) → i < 9 → get_or (block_of (registers_of block)) i 0 ≡ get_or block i 0
    same zero h = refl
    same (suc zero) h = refl
    same (suc (suc zero)) h = refl
    same (suc (suc (suc zero))) h = refl
    same (suc (suc (suc (suc zero)))) h = omega arith
    same (suc (suc (suc (suc (suc zero))))) h = omega arith
    same (suc (suc (suc (suc (suc (suc zero)))))) h = omega arith
    same (suc (suc (suc (suc (suc (suc (suc zero))))))) h = refl
    same (suc (suc (suc (suc (suc (suc (suc (suc zero)))))))) h = refl
    same (suc (suc (suc (suc (suc (suc (suc (suc (suc i))))))))) h = absurd (omega arith)

-- stepped
abbrev pub then_of : List ℕ → Bool → Registers → Registers
then_of bs failed r = registers_then (whole_moves bs) (next_move bs r) failed r

abbrev pub pebbles_of : Yard → List ℕ → Bool → Registers → List ℕ
pebbles_of y bs failed r = pebbles_then y (next_move bs r) failed r

module _ (y : Yard) (bs block : List ℕ) (failed : Bool) where
  pub line_answered : (l : Bool) → (stepped y bs block failed).line ≡ answered l → step_fault y bs block ≡ none
  unfolding stepped
  line_answered l a = (answer_answered (step_fault y bs block) _ l a).0

  pub line_refused : (f : Fault) → (stepped y bs block failed).line ≡ refused f → step_fault y bs block ≡ some f
  unfolding stepped
  line_refused f a = answer_refused (step_fault y bs block) _ f a

  pub stepped_refused : (f : Fault) → step_fault y bs block ≡ some f → stepped y bs block failed ≡ record { line = refused f; block = block; pebbles = y.pebbles }
  unfolding stepped
  stepped_refused f e = rw e

  module _ (e : step_fault y bs block ≡ none) where
    pub stepped_line : (stepped y bs block failed).line ≡ answered (raised (then_of bs failed (registers_of block)))
    unfolding stepped
    stepped_line = rw e

    pub stepped_block : (stepped y bs block failed).block ≡ block_of (then_of bs failed (registers_of block))
    unfolding stepped
    stepped_block = rw e

    pub stepped_pebbles : (stepped y bs block failed).pebbles ≡ pebbles_of y bs failed (registers_of block)
    unfolding stepped
    stepped_pebbles = rw e

    pub stepped_registers : registers_of (stepped y bs block failed).block ≡ then_of bs failed (registers_of block)
    stepped_registers = rw stepped_block (registers_of_block_of _)

-- step_fault: what each test asks
pub running_left : {moves : ℕ} {r : Registers} → InRange moves r → r.status ≡ running → 0 < r.left
running_left {r = r} h s = go h.left_pos
  where
    go : (r.status ≡ idle) ⊎ (0 < r.left) → 0 < r.left
    go (inl e) = absurd (omega arith)
    go (inr l) = l

pub register_fault_none : (moves : ℕ) (r : Registers) → (register_fault moves r ≡ none) ↔ InRange moves r
unfolding register_fault
register_fault_none moves r = (
  (λ e.
      let a = none_all (register_tests moves r) e in
      let l = (and-eq-true_iff (leb r.left moves) _).0 (unless_none _ 24 4 a.1.1.0) in
      record {
        command_le = leb-true r.command acknowledge (unless_none _ 24 0 a.0);
        status_le = leb-true r.status stalled (unless_none _ 24 1 a.1.0);
        left_le = leb-true r.left moves l.0;
        left_pos = either (eqb r.status idle) refl l.1;
        flags_le = leb-true r.flags max_flags (unless_none _ 24 8 a.1.1.1.0);
      }),
  λ h. all_none (register_tests moves r) (
    rw (le-leb r.command acknowledge h.command_le),
    (rw (le-leb r.status stalled h.status_le), (rw (le-leb r.left moves h.left_le, pos h.left_pos), (rw (le-leb r.flags max_flags h.flags_le), tt))),
  ),
)
  where
    either : (b : Bool) → eqb r.status idle ≡ b → (b || (ltb 0 r.left)) ≡ true → (r.status ≡ idle) ⊎ (0 < r.left)
    either true e _ = inl (eqb-true r.status idle e)
    either false _ e = inr (ltb-true 0 r.left e)

    pos : (r.status ≡ idle) ⊎ (0 < r.left) → ((eqb r.status idle) || (ltb 0 r.left)) ≡ true
    pos (inl e) = rw e
    pos (inr l) = rw (lt-ltb 0 r.left l) (or-true (eqb r.status idle))

-- such registers are held by nine bytes if the others are no larger
abbrev pub Held : Registers → Type 0
Held r = (r.from < 256) × (r.to < 256) × (r.left < 16_777_216) × (r.mask < 256)

pub block_of_bytes : (moves : ℕ) (r : Registers) → InRange moves r → Held r → Bytes (block_of r)
unfolding block_of
block_of_bytes moves r k h = each
  where
    each : (i : ℕ) → get_or (block_of r) i 0 < 256
    each zero = omega (arith, k.command_le)
    each (suc zero) = omega (arith, k.status_le)
    each (suc (suc zero)) = h.0
    each (suc (suc (suc zero))) = h.1
    each (suc (suc (suc (suc zero)))) = omega arith
    each (suc (suc (suc (suc (suc zero))))) = omega arith
    each (suc (suc (suc (suc (suc (suc zero)))))) = omega (arith, h.2)
    each (suc (suc (suc (suc (suc (suc (suc zero))))))) = h.3
    each (suc (suc (suc (suc (suc (suc (suc (suc zero)))))))) = omega (arith, k.flags_le)
    each (suc (suc (suc (suc (suc (suc (suc (suc (suc i))))))))) = omega arith

pub registers_of_held : (block : List ℕ) → Bytes block → Held (registers_of block)
unfolding registers_of
registers_of_held block b = (b 2, b 3, omega (arith, b 4, b 5, b 6), b 7)

pub step_fault_none : (y : Yard) (bs block : List ℕ) → (step_fault y bs block ≡ none)
    ↔ (Tree y × (length block ≡ block_length) × InRange (whole_moves bs) (registers_of block) × (task_fault y bs (registers_of block) ≡ none))
unfolding step_fault
step_fault_none y bs block =
    let registers = register_fault_none (whole_moves bs) (registers_of block) in (
      (λ e. let a = none_all (step_tests y bs block) e in (a.0, eqb-true (length block) block_length (unless_none _ 2 0 a.1.0), registers.0 a.1.1.0, a.1.1.1.0)),
      λ h. all_none (step_tests y bs block) (h.0, (rw (eq-eqb (length block) block_length h.1), (registers.1 h.2, (h.3, tt)))),
    )

module _ (y : Yard) (bs : List ℕ) (r : Registers) where
  pub task_fault_start : r.command ≡ start → (task_fault y bs r ≡ none) ↔ ((r.status ≡ idle) × (check_fault y bs ≡ none))
  unfolding task_fault
  task_fault_start c = rw c (
    (λ e. let a = none_all (start_tests y bs r) e in (eqb-true r.status idle (unless_none _ 25 0 a.0), a.1.0)),
    λ h. all_none (start_tests y bs r) (rw h.0, (h.1, tt)),
  )

  pub task_fault_obey : r.command ≡ no_command → r.status ≡ running → (task_fault y bs r ≡ none) ↔ ((bytes_fault bs ≡ none) × (move_fault y (next_move bs r) (next_number bs r) ≡ none))
  unfolding task_fault
  task_fault_obey c s = rw (c, s) (
    (λ e. let a = none_all (next_tests y bs r) e in (a.0, a.1.0)),
    λ h. all_none (next_tests y bs r) (h.0, (h.1, tt)),
  )

  pub task_fault_other : r.command ≢ start → obeying r ≡ false → task_fault y bs r ≡ none
  unfolding task_fault
  task_fault_other c o = rw (ne_eqb r.command start c, o)

-- the answer is one that a number tells
registers_low : (moves : ℕ) (r : Registers) → Low (register_fault moves r)
unfolding register_fault
registers_low moves r = all (register_tests moves r) (
  once (leb r.command acknowledge) 24 0 (omega arith) (omega arith),
  (
    once (leb r.status stalled) 24 1 (omega arith) (omega arith),
    (once ((leb r.left moves) && ((eqb r.status idle) || (ltb 0 r.left))) 24 4 (omega arith) (omega arith), (once (leb r.flags max_flags) 24 8 (omega arith) (omega arith), tt)),
  ),
)

task_low : (y : Yard) (bs : List ℕ) (r : Registers) → Low (task_fault y bs r)
unfolding task_fault
task_low y bs r = go (eqb r.command start) (obeying r)
  where
    go : (a b : Bool) → Low (first_of (cond a (start_tests y bs r) (cond b (next_tests y bs r) [])))
    go true b = all (start_tests y bs r) (once (eqb r.status idle) 25 0 (omega arith) (omega arith), (check_low y bs, tt))
    go false true = first (drop 1 (next_tests y bs r)) (bytes_low y bs) (λ f. all (drop 1 (next_tests y bs r)) (move_low y (next_move bs r) (next_number bs r) (omega (arith, few_moves bs f)), tt))
    go false false = Low.passes

step_low : (y : Yard) (bs block : List ℕ) → Low (step_fault y bs block)
unfolding step_fault
step_low y bs block = first (drop 1 (step_tests y bs block)) (judge_low y) (λ t.
    first (drop 2 (step_tests y bs block)) (once (eqb (length block) block_length) 2 0 (omega arith) (omega arith)) (λ _.
    all (drop 2 (step_tests y bs block)) (registers_low (whole_moves bs) (registers_of block), (task_low y bs (registers_of block), tt))))

pub step_small : (y : Yard) (bs block : List ℕ) (failed : Bool) → Small (mapAnswer one (stepped y bs block failed).line)
unfolding stepped
step_small y bs block failed = rw map_answer (small _ (step_low y bs block) (λ _. omega (arith, one_le (raised (then_of bs failed (registers_of block))))))

-- and so does the number of a line
pub line_tells : (a : Answer Bool) → Small (mapAnswer one a) → line_told (line_in_c a) ≡ a
line_tells (answered true) h = refl
line_tells (answered false) h = refl
line_tells (refused f) h = rw (tells (refused f) h)

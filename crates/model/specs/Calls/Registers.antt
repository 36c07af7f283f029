-- The cabinet's step (requests 2.9 and 2.10). The pusher cabinet is driven through a block of nine bytes. It lends the block to each step, together with the yard and
-- the plan, and may tell the step that the pebble did not arrive (`failed`). One step is one function of these: `stepped`.
use Rattle.std.specs.Prelude.{Bool, not, cond, ◌&&◌, ◌||◌, List, [], ◌∷◌, ℕ, zero, suc, ◌+◌, ◌-◌, ◌*◌, ◌/◌, ◌%◌, length, get_or, leb, ltb, eqb}
use Rattle.std.proofs.Math.Option.{Option}
use Rattle.model.specs.Yard.{Yard, one}
use Rattle.model.specs.Judge.{Fault, fault, first_of, unless, judge}
use Rattle.model.specs.Push.{Move, push, move_fault, pushed_pebbles}
use Rattle.model.specs.declared.Registers.{Registers}
use Rattle.model.specs.Calls.Answers.{Answer, answer, mapAnswer, in_c, told, lent}
use Rattle.model.specs.Calls.Plans.{moves_of}
use Rattle.model.specs.Calls.Checks.{bytes_fault, check_fault}

-- what the command register can say
abbrev pub no_command : ℕ
no_command = 0

abbrev pub start : ℕ
start = 1

abbrev pub stop : ℕ
stop = 2

abbrev pub acknowledge : ℕ
acknowledge = 3

-- and the status register
abbrev pub idle : ℕ
idle = 0

abbrev pub running : ℕ
running = 1

abbrev pub stalled : ℕ
stalled = 2

-- the block, a byte for each register but for the moves left, which have three (request 2.10), the lowest one first
abbrev pub block_length : ℕ
block_length = 9

unfoldable pub block_of : Registers → List ℕ
block_of r = r.command ∷ r.status ∷ r.from ∷ r.to ∷ r.left % 256 ∷ r.left / 256 % 256 ∷ r.left / 65_536 ∷ r.mask ∷ r.flags ∷ []

unfoldable pub registers_of : List ℕ → Registers
registers_of block = record {
  command = get_or block 0 0;
  status = get_or block 1 0;
  from = get_or block 2 0;
  to = get_or block 3 0;
  left = get_or block 4 0 + 256 * get_or block 5 0 + 65_536 * get_or block 6 0;
  mask = get_or block 7 0;
  flags = get_or block 8 0;
}

-- bit k of a number, and the number with bit k set
unfoldable pub bit : ℕ → ℕ → Bool
bit zero n = eqb (n % 2) 1
bit (suc k) n = bit k (n / 2)

unfoldable pub set_bit : ℕ → ℕ → ℕ
set_bit zero n = 1 + 2 * (n / 2)
set_bit (suc k) n = n % 2 + 2 * set_bit k (n / 2)

-- the two flags, by their bits, and both together
abbrev pub finished_bit : ℕ
finished_bit = 0

abbrev pub stalled_bit : ℕ
stalled_bit = 1

abbrev pub max_flags : ℕ
max_flags = 3

-- a bit is set in the flags and in the mask; the interrupt line is up if this is so of one of the flags
abbrev pub shares : ℕ → Registers → Bool
shares k r = (bit k r.flags) && (bit k r.mask)

unfoldable pub raised : Registers → Bool
raised r = (shares finished_bit r) || (shares stalled_bit r)

-- a byte at the end that is half a move does not count; the next move has as many before it as are not left any more
abbrev pub whole_moves : List ℕ → ℕ
whole_moves bs = length (moves_of bs)

abbrev pub next_number : List ℕ → Registers → ℕ
next_number bs r = whole_moves bs - r.left

abbrev pub next_move : List ℕ → Registers → Move
next_move bs r = get_or (moves_of bs) (next_number bs r) (push 0 0)

-- a running step with command 0
abbrev pub obeying : Registers → Bool
obeying r = (eqb r.command no_command) && (eqb r.status running)

-- 24, at the lowest register that cannot hold what it holds: no such command or status; more moves left than the plan has, or none although it is at work; a
-- bit beyond the flags. The mask may be anything
abbrev pub register_tests : ℕ → Registers → List (Option Fault)
register_tests moves r =
    unless (leb r.command acknowledge) (fault 24 0)
    ∷ unless (leb r.status stalled) (fault 24 1)
    ∷ unless ((leb r.left moves) && ((eqb r.status idle) || (ltb 0 r.left))) (fault 24 4)
    ∷ unless (leb r.flags max_flags) (fault 24 8)
    ∷ []

unfoldable pub register_fault : ℕ → Registers → Option Fault
register_fault moves r = first_of (register_tests moves r)

-- what is tested for its task: a start, that it is idle (25) and what the checker tests; where a move is to be obeyed, the plan's length (9) and that move (10 to
-- 13), with its number in the plan; else nothing
abbrev pub start_tests : Yard → List ℕ → Registers → List (Option Fault)
start_tests y bs r = unless (eqb r.status idle) (fault 25 0) ∷ check_fault y bs ∷ []

abbrev pub next_tests : Yard → List ℕ → Registers → List (Option Fault)
next_tests y bs r = bytes_fault bs ∷ move_fault y (next_move bs r) (next_number bs r) ∷ []

unfoldable pub task_fault : Yard → List ℕ → Registers → Option Fault
task_fault y bs r = first_of (cond (eqb r.command start) (start_tests y bs r) (cond (obeying r) (next_tests y bs r) []))

-- all tests in their order; 2 is for the length of the block
abbrev pub step_tests : Yard → List ℕ → List ℕ → List (Option Fault)
step_tests y bs block =
    judge y
    ∷ unless (eqb (length block) block_length) (fault 2 0)
    ∷ register_fault (whole_moves bs) (registers_of block)
    ∷ task_fault y bs (registers_of block)
    ∷ []

unfoldable pub step_fault : Yard → List ℕ → List ℕ → Option Fault
step_fault y bs block = first_of (step_tests y bs block)

-- with n moves left it runs; with none it is done, which a flag tells
abbrev pub counted : ℕ → Registers → Registers
counted n r = record {
  command = no_command;
  status = cond (eqb n 0) idle running;
  from = r.from;
  to = r.to;
  left = n;
  mask = r.mask;
  flags = cond (eqb n 0) (set_bit finished_bit r.flags) r.flags;
}

-- a start has all moves left, so that of a plan without moves it is done at once
abbrev pub started : ℕ → Registers → Registers
started moves r = counted moves r

-- a stop forgets the moves left, and tells nothing by a flag
abbrev pub stopped : Registers → Registers
stopped r = record { command = no_command; status = idle; from = r.from; to = r.to; left = 0; mask = r.mask; flags = r.flags }

-- an acknowledgement takes the flags back, and ends a stall
abbrev pub acknowledged : Registers → Registers
acknowledged r = record {
  command = no_command;
  status = cond (eqb r.status stalled) running r.status;
  from = r.from;
  to = r.to;
  left = r.left;
  mask = r.mask;
  flags = 0;
}

-- where the pebble did not arrive: a stall, with its flag
abbrev pub jammed : Registers → Registers
jammed r = record { command = r.command; status = stalled; from = r.from; to = r.to; left = r.left; mask = r.mask; flags = set_bit stalled_bit r.flags }

-- where it did: the move is shown, and one less is left
abbrev pub showing : Move → Registers → Registers
showing m r = record { command = r.command; status = r.status; from = m.from; to = m.to; left = r.left; mask = r.mask; flags = r.flags }

abbrev pub advanced : Move → Registers → Registers
advanced next r = counted (r.left - 1) (showing next r)

-- the registers after an accepted step, by the plan's whole moves and its next one: as the command wants; without one as the move went, if it runs; else as they were
unfoldable pub registers_then : ℕ → Move → Bool → Registers → Registers
registers_then moves next failed r =
    cond (eqb r.command start) (started moves r)
    (cond (eqb r.command stop) (stopped r)
    (cond (eqb r.command acknowledge) (acknowledged r)
    (cond (obeying r) (cond failed (jammed r) (advanced next r))
    r)))

-- and the pebbles: one is pushed only where a move is obeyed and none failed to arrive
unfoldable pub pebbles_then : Yard → Move → Bool → Registers → List ℕ
pebbles_then y next failed r = cond ((obeying r) && (not failed)) (pushed_pebbles y next) y.pebbles

-- The step: the line or the refusal, and the block and the pebbles then, which a refusal leaves as they were (demand 1)
pub record Stepped : Type 0 where
  pub line : Answer Bool
  pub block : List ℕ
  pub pebbles : List ℕ

unfoldable pub stepped : Yard → List ℕ → List ℕ → Bool → Stepped
stepped y bs block failed =
    let refusal = step_fault y bs block in
    let r = registers_of block in
    let then = registers_then (whole_moves bs) (next_move bs r) failed r in
    record {
      line = answer refusal (raised then);
      block = lent refusal (block_of then) block;
      pebbles = lent refusal (pebbles_then y (next_move bs r) failed r) y.pebbles;
    }

-- in C the step answers 1 if the line is raised, else 0
abbrev pub line_in_c : Answer Bool → ℕ
line_in_c a = in_c (mapAnswer one a)

-- the answer that such a number tells
abbrev pub line_told : ℕ → Answer Bool
line_told r = mapAnswer (ltb 0) (told r)

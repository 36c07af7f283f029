-- What the cabinet relies on (request 2.9): when a step is accepted and what it then leaves, sentence by sentence; the whole run after an accepted start; and a stall
-- that is acknowledged.
use Rattle.std.specs.Prelude.{◌≡◌, ◌≢◌, ◌↔◌, ◌⊎◌, Bool, true, false, cond, List, ℕ, suc, ◌-◌, ◌≤◌, ◌<◌, length, get_or, take, set, ltb}
use Rattle.model.specs.Yard.{Yard, holding, pebbleCount}
use Rattle.model.specs.Judge.{Fault, Tree}
use Rattle.model.specs.Push.{push, legal, shifted, run, Solved}
use Rattle.model.specs.declared.Registers.{Registers}
use Rattle.model.specs.Calls.Answers.{Answer, answered, refused}
use Rattle.model.specs.Calls.Plans.{moves_of}
use Rattle.model.specs.Calls.Checks.{check_answer}
use Rattle.model.specs.Calls.Registers.{no_command, start, stop, acknowledge, idle, running, stalled, registers_of, bit, set_bit, finished_bit, stalled_bit, max_flags, whole_moves, next_move, Stepped, stepped}
use Rattle.model.specs.Cabinet.{steps}
use Rattle.laws.specs.Demand2.{Accepts}
use Rattle.laws.specs.Limits.{WholePlan}

-- registers that can hold what they hold (24), where the plan has so many whole moves; the mask may be anything
pub record InRange (moves : ℕ) (r : Registers) : Type 0 where
  pub command_le : r.command ≤ acknowledge
  pub status_le : r.status ≤ stalled
  pub left_le : r.left ≤ moves
  pub left_pos : (r.status ≡ idle) ⊎ (0 < r.left)
  pub flags_le : r.flags ≤ max_flags

-- when a step is accepted, whatever it is told of a failure
pub record Acceptable (y : Yard) (bs block : List ℕ) (r : Registers) : Type 0 where
  -- the yard is a tree (1 to 6), the block has nine bytes (2), the registers are in range (24)
  pub tree : Tree y
  pub nine : length block ≡ 9
  pub ranges : InRange (whole_moves bs) r
  -- a start finds it idle (25), and the checker accepts the plan
  pub starts : r.command ≡ start → (r.status ≡ idle) × Accepts (check_answer y bs)
  -- without a command, running: the plan is whole and not too long (9), and its next move is legal (10 to 13)
  pub obeys : r.command ≡ no_command → r.status ≡ running → WholePlan bs × (legal y (next_move bs r) ≡ true)

-- from the registers before an accepted step of the yard y to the registers and pebbles then, where l says whether the line is raised
pub record Leaves (y : Yard) (bs : List ℕ) (failed l : Bool) (before now : Registers) (pebbles : List ℕ) : Type 0 where
  -- the line is up if some bit, whichever, is set in flags and mask, and not otherwise
  pub line : (l ≡ true) ↔ ((k : ℕ) × (bit k now.flags ≡ true) × (bit k now.mask ≡ true))
  -- a command is taken out of the block; no pebble moves, and what shows the last move and the mask stay
  pub takes : 0 < before.command
      → (now.command ≡ no_command) × (pebbles ≡ y.pebbles) × (now.from ≡ before.from) × (now.to ≡ before.to) × (now.mask ≡ before.mask)
  -- a start was idle, with a plan that the checker accepts, all moves of which are left then; it runs with the flags as they were, or without moves is done
  pub starts : before.command ≡ start
      → (before.status ≡ idle) × Accepts (check_answer y bs) × (now.left ≡ whole_moves bs)
      × (0 < whole_moves bs → (now.status ≡ running) × (now.flags ≡ before.flags))
      × (whole_moves bs ≡ 0 → (now.status ≡ idle) × (now.flags ≡ set_bit finished_bit before.flags))
  -- after a stop it is idle, nothing is left, and the flags are as they were
  pub stops : before.command ≡ stop → (now.status ≡ idle) × (now.left ≡ 0) × (now.flags ≡ before.flags)
  -- after an acknowledgement no flag is up; what is left stays, and so does the status but for a stall, which is over
  pub acknowledges : before.command ≡ acknowledge
      → (now.flags ≡ 0) × (now.left ≡ before.left)
      × (before.status ≡ stalled → now.status ≡ running) × (before.status ≢ stalled → now.status ≡ before.status)
  -- without a command, running: the next move is legal, is made and shown, and one less is left; with the last one it is done
  pub obeys : before.command ≡ no_command → before.status ≡ running → failed ≡ false
      → (legal y (next_move bs before) ≡ true) × (pebbles ≡ shifted y.pebbles (next_move bs before)) × (push now.from now.to ≡ next_move bs before) × (now.left ≡ before.left - 1)
      × (now.command ≡ no_command) × (now.mask ≡ before.mask)
      × (1 < before.left → (now.status ≡ running) × (now.flags ≡ before.flags))
      × (before.left ≡ 1 → (now.status ≡ idle) × (now.flags ≡ set_bit finished_bit before.flags))
  -- the same where the pebble failed to arrive: all stays but for the status and the flag of a stall
  pub stalls : before.command ≡ no_command → before.status ≡ running → failed ≡ true
      → (pebbles ≡ y.pebbles) × (now.from ≡ before.from) × (now.to ≡ before.to) × (now.left ≡ before.left)
      × (now.command ≡ no_command) × (now.mask ≡ before.mask) × (now.status ≡ stalled) × (now.flags ≡ set_bit stalled_bit before.flags)
  -- without a command, not running: nothing changes
  pub rests : before.command ≡ no_command → before.status ≢ running → (now ≡ before) × (pebbles ≡ y.pebbles)

-- what a step gave: its answer, and the block and the pebbles then
abbrev pub stepped_to : Answer Bool → List ℕ → List ℕ → Stepped
stepped_to line block pebbles = record { line = line; block = block; pebbles = pebbles }

-- of every step, which gave s: it is accepted exactly then; accepted, it leaves that; refused, it alters nothing; and it brings no pebble in or out
pub record EachStep (y : Yard) (bs block : List ℕ) (failed : Bool) (s : Stepped) : Type 0 where
  pub accepts : ((l : Bool) × (s.line ≡ answered l)) ↔ Acceptable y bs block (registers_of block)
  pub accepted : (l : Bool) → s.line ≡ answered l → Leaves y bs failed l (registers_of block) (registers_of s.block) s.pebbles
  pub refusal : (f : Fault) → s.line ≡ refused f → (s.block ≡ block) × (s.pebbles ≡ y.pebbles)
  pub constant : pebbleCount (holding y s.pebbles) ≡ pebbleCount y

-- The yard and the registers after a first step and k more
abbrev pub yard_after : ℕ → Yard → List ℕ → List ℕ → Bool → Yard
yard_after k y bs block failed = holding y (steps k y bs block failed).pebbles

abbrev pub registers_after : ℕ → Yard → List ℕ → List ℕ → Bool → Registers
registers_after k y bs block failed = registers_of (steps k y bs block failed).block

-- After an accepted start of m moves, the start being step 0, whatever it was told of a failure:
pub record WholeRun (y : Yard) (bs block : List ℕ) (failed : Bool) (m : ℕ) : Type 0 where
  -- every step is accepted and leaves command 0
  pub accepted : (k : ℕ) → (l : Bool) × ((steps k y bs block failed).line ≡ answered l)
  pub taken : (k : ℕ) → (registers_after k y bs block failed).command ≡ no_command
  -- the m-th leaves the pebbles on exactly the targets
  pub solves : Solved (yard_after m y bs block failed)
  -- and is the first to go idle
  pub first : (k : ℕ) → ((registers_after k y bs block failed).status ≡ idle) ↔ (m ≤ k)
  pub runs : (k : ℕ) → k < m → (registers_after k y bs block failed).status ≡ running
  -- the number of pebbles is constant throughout
  pub constant : (k : ℕ) → pebbleCount (yard_after k y bs block failed) ≡ pebbleCount y
  -- each step up to the m-th obeys the next move, shows it and counts down
  pub obeyed : (k : ℕ) → yard_after k y bs block failed ≡ run y (take k (moves_of bs))
  pub shows : (k : ℕ) → k < m → push (registers_after (suc k) y bs block failed).from (registers_after (suc k) y bs block failed).to ≡ get_or (moves_of bs) k (push 0 0)
  pub counts : (k : ℕ) → (registers_after k y bs block failed).left ≡ m - k
  -- and only the m-th sets a flag, bit 0
  pub flags : (k : ℕ) → (registers_after k y bs block failed).flags ≡ cond (ltb k m) (registers_of block).flags (set_bit finished_bit (registers_of block).flags)

-- the cabinet writes a command into the block that came back
abbrev pub commanded : ℕ → List ℕ → List ℕ
commanded c block = set block 0 c

-- the registers with other flags; two steps that leave the same but for the flags, or refuse alike
abbrev pub flagged : ℕ → Registers → Registers
flagged f r = record { command = r.command; status = r.status; from = r.from; to = r.to; left = r.left; mask = r.mask; flags = f }

abbrev pub ButForFlags : Stepped → Stepped → Type 0
ButForFlags s t =
    (s.pebbles ≡ t.pebbles) × (flagged 0 (registers_of s.block) ≡ flagged 0 (registers_of t.block))
    × ((f : Fault) → (s.line ≡ refused f) ↔ (t.line ≡ refused f))

-- A running step with command 0 stalls, and the block comes back with the command acknowledge:
abbrev pub stall : Yard → List ℕ → List ℕ → Stepped
stall y bs block = stepped y bs block true

abbrev pub resumed : Yard → List ℕ → List ℕ → Bool → Stepped
resumed y bs block failed = let s = stall y bs block in stepped (holding y s.pebbles) bs (commanded acknowledge s.block) failed

pub record Resumes (y : Yard) (bs block : List ℕ) (failed : Bool) : Type 0 where
  -- both steps are accepted
  pub stalls : (l : Bool) × ((stall y bs block).line ≡ answered l)
  pub accepted : (l : Bool) × ((resumed y bs block failed).line ≡ answered l)
  -- the state is that before the stall, but for the flags, which are cleared
  pub pebbles : (resumed y bs block failed).pebbles ≡ y.pebbles
  pub registers : registers_of (resumed y bs block failed).block ≡ flagged 0 (registers_of block)
  -- and so the run goes on as if it had not stalled
  pub goes_on : (k : ℕ) → ButForFlags (steps k y bs (resumed y bs block failed).block false) (steps k y bs block false)

-- A run in which pushes fail: after the start, each step obeys a move, or it stalls and is acknowledged. k counts the moves.
pub data Drives (y : Yard) (bs block : List ℕ) : ℕ → Stepped → Type 0 where
  begun : (failed : Bool) → Drives y bs block 0 (stepped y bs block failed)
  moved : {k : ℕ} {s : Stepped} → Drives y bs block k s → Drives y bs block (suc k) (stepped (holding y s.pebbles) bs s.block false)
  stuck : {k : ℕ} {s : Stepped} → Drives y bs block k s → k < whole_moves bs → (failed : Bool) → Drives y bs block k (resumed (holding y s.pebbles) bs s.block failed)

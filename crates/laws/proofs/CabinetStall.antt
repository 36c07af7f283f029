-- A stall, acknowledged (request 2.9). Flags have no say in where a step leads, and the acknowledged block is the one before the stall but for its flags:
-- so the run goes on as if it had not stalled (`resumes`), however often (`drives_steps`, `drives_solves`).
use mathlib.Core.Path.{◌≡◌, refl, sym, ap, ◌∙◌}
use mathlib.Core.Logic.{◌↔◌}
use mathlib.Core.Bool.{Bool, true, false, cond}
use mathlib.Core.List.{List}
use mathlib.Core.Option.{Option, none, some}
use Prim.Native.Nat.{ℕ, zero, suc, ◌≤◌}
use native.Mathlib.Omega.{arith}
use lib.ListN.{length}
use borrow.Author.Tests.{le-leb}
use Rattle.model.specs.Yard.{Yard, holding}
use Rattle.model.specs.Judge.{Fault}
use Rattle.model.specs.Push.{Solved}
use Rattle.model.specs.Calls.Answers.{answered, refused}
use Rattle.model.specs.declared.Registers.{Registers}
use Rattle.model.specs.Calls.Registers.{no_command, start, running, block_of, registers_of, max_flags, acknowledge, whole_moves, next_move, step_fault, register_fault, task_fault, jammed, advanced, pebbles_then, Stepped, stepped}
use Rattle.model.specs.Cabinet.{steps}
use Rattle.laws.specs.Cabinet.{yard_after, registers_after, WholeRun, commanded, flagged, stall, resumed, Resumes, Drives}
use Rattle.laws.proofs.Blocks.{then_of, pebbles_of, registers_of_block_of, length_block_of, line_answered, line_refused, stepped_refused, stepped_line, stepped_block, stepped_pebbles, stepped_registers, step_fault_none, task_fault_other}
use Rattle.laws.proofs.Cabinet.{then_cases, then_start, then_stop, then_acknowledge, then_obey, then_rest, then_in_range, now_in_range, failure_ignored, pebbles_obey, pebbles_rest}
use Rattle.laws.proofs.CabinetRun.{whole_run}

-- flags have no say in where a step leads
record Alike (b c : List ℕ) : Type 0 where
  lengths : length b ≡ length c
  registers : flagged 0 (registers_of b) ≡ flagged 0 (registers_of c)
  left_flags : (registers_of b).flags ≤ max_flags
  right_flags : (registers_of c).flags ≤ max_flags

register_fault_flags : (moves f : ℕ) (r : Registers) → f ≤ max_flags → r.flags ≤ max_flags → register_fault moves (flagged f r) ≡ register_fault moves r
unfolding register_fault
register_fault_flags moves f r l h = rw (le-leb f max_flags l, le-leb r.flags max_flags h)

task_fault_flags : (y : Yard) (bs : List ℕ) (f : ℕ) (r : Registers) → task_fault y bs (flagged f r) ≡ task_fault y bs r
unfolding task_fault
task_fault_flags y bs f r = refl

pebbles_then_flags : (y : Yard) (bs : List ℕ) (failed : Bool) (f : ℕ) (r : Registers) → pebbles_of y bs failed (flagged f r) ≡ pebbles_of y bs failed r
unfolding pebbles_then
pebbles_then_flags y bs failed f r = refl

registers_then_flags : (bs : List ℕ) (failed : Bool) (f : ℕ) (r : Registers) → r.command ≤ acknowledge → flagged 0 (then_of bs failed (flagged f r)) ≡ flagged 0 (then_of bs failed r)
registers_then_flags bs failed f r l = then_cases (λ x. flagged 0 (then_of bs failed (flagged f r)) ≡ flagged 0 x) bs failed r l
    (λ c. rw (then_start bs failed (flagged f r) c))
    (λ c. rw (then_stop bs failed (flagged f r) c))
    (λ c. rw (then_acknowledge bs failed (flagged f r) c))
    (λ c s. rw (then_obey bs failed (flagged f r) c s) (told failed))
    (λ c s. rw (then_rest bs failed (flagged f r) c s))
  where
    told : (b : Bool) → flagged 0 (cond b (jammed (flagged f r)) (advanced (next_move bs r) (flagged f r))) ≡ flagged 0 (cond b (jammed r) (advanced (next_move bs r) r))
    told true = refl
    told false = refl

abbrev Together : Stepped → Stepped → Type 0
Together s t = Alike s.block t.block × (s.pebbles ≡ t.pebbles)

module _ (y : Yard) (bs b c : List ℕ) (a : Alike b c) where
  other_flags : registers_of b ≡ flagged (registers_of b).flags (registers_of c)
  other_flags = ap (flagged (registers_of b).flags) a.registers

  alike_fault : step_fault y bs b ≡ step_fault y bs c
  unfolding step_fault
  alike_fault = rw (a.lengths, other_flags, task_fault_flags, register_fault_flags (whole_moves bs) (registers_of b).flags (registers_of c) a.left_flags a.right_flags)

  alike_passed : (failed : Bool) → step_fault y bs c ≡ none → Together (stepped y bs b failed) (stepped y bs c failed)
  alike_passed failed e =
      let d = alike_fault ∙ e in
      let flags = registers_then_flags bs failed (registers_of b).flags (registers_of c) ((step_fault_none y bs c).0 e).2.command_le in (
        record {
          lengths = rw (stepped_block y bs b failed d, stepped_block y bs c failed e) (length_block_of _ ∙ sym (length_block_of _));
          registers = rw (stepped_registers y bs b failed d, stepped_registers y bs c failed e) (ap (λ (r : Registers). flagged 0 (then_of bs failed r)) other_flags ∙ flags);
          left_flags = (now_in_range y bs b failed d).flags_le;
          right_flags = (now_in_range y bs c failed e).flags_le;
        },
        stepped_pebbles y bs b failed d ∙ ap (pebbles_of y bs failed) other_flags ∙ pebbles_then_flags y bs failed _ _ ∙ sym (stepped_pebbles y bs c failed e),
      )

  alike_step : (failed : Bool) → Together (stepped y bs b failed) (stepped y bs c failed)
  alike_step failed = go (step_fault y bs c) refl
    where
      go : (f : Option Fault) → step_fault y bs c ≡ f → Together (stepped y bs b failed) (stepped y bs c failed)
      go (some f) e = rw (stepped_refused y bs b failed f (alike_fault ∙ e), stepped_refused y bs c failed f e) (a, refl)
      go none e = alike_passed failed e

  alike_refused : (failed : Bool) (f : Fault) → ((stepped y bs b failed).line ≡ refused f) ↔ ((stepped y bs c failed).line ≡ refused f)
  alike_refused failed f = (
    (λ h. ap (λ (x : Stepped). x.line) (stepped_refused y bs c failed f (sym alike_fault ∙ line_refused y bs b failed f h))),
    λ h. ap (λ (x : Stepped). x.line) (stepped_refused y bs b failed f (alike_fault ∙ line_refused y bs c failed f h)),
  )

module _ (y : Yard) (bs b c : List ℕ) (a : Alike b c) where
  alike_steps : (k : ℕ) → Together (steps k y bs b false) (steps k y bs c false)
  unfolding steps
  alike_steps zero = alike_step y bs b c a false
  alike_steps (suc k) =
      let h = alike_steps k in
      rw h.1 (alike_step (holding y (steps k y bs c false).pebbles) bs (steps k y bs b false).block (steps k y bs c false).block h.0 false)

  steps_refused : (k : ℕ) (f : Fault) → ((steps k y bs b false).line ≡ refused f) ↔ ((steps k y bs c false).line ≡ refused f)
  unfolding steps
  steps_refused zero = alike_refused y bs b c a false
  steps_refused (suc k) =
      let h = alike_steps k in
      rw h.1 (alike_refused (holding y (steps k y bs c false).pebbles) bs (steps k y bs b false).block (steps k y bs c false).block h.0 false)

-- a stall, acknowledged
module _ (y : Yard) (bs block : List ℕ) (l : Bool) (e : (stall y bs block).line ≡ answered l) (c : (registers_of block).command ≡ no_command) (s : (registers_of block).status ≡ running) where
  stall_passes : step_fault y bs block ≡ none
  stall_passes = line_answered y bs block true l e

  -- the block that comes back, with the command
  abbrev asked : Registers
  asked = let r = jammed (registers_of block) in record { command = acknowledge; status = r.status; from = r.from; to = r.to; left = r.left; mask = r.mask; flags = r.flags }

  stall_block : commanded acknowledge (stall y bs block).block ≡ block_of asked
  unfolding block_of
  stall_block = rw (stepped_block y bs block true stall_passes, then_obey bs true (registers_of block) c s)

  stall_pebbles : (stall y bs block).pebbles ≡ y.pebbles
  stall_pebbles = stepped_pebbles y bs block true stall_passes ∙ pebbles_obey bs true (registers_of block) y c s

  asked_passes : step_fault y bs (block_of asked) ≡ none
  asked_passes =
      let h = (step_fault_none y bs block).0 stall_passes in
      let i = rw (then_obey bs true (registers_of block) c s) at (then_in_range bs true (registers_of block) h.2) in
      (step_fault_none y bs (block_of asked)).1 (
        h.0,
        length_block_of asked,
        rw registers_of_block_of record {
          command_le = omega arith;
          status_le = i.status_le;
          left_le = i.left_le;
          left_pos = i.left_pos;
          flags_le = i.flags_le;
        },
        rw registers_of_block_of (task_fault_other y bs asked (λ z. omega arith) refl),
      )

  module _ (failed : Bool) where
    resumed_is : resumed y bs block failed ≡ stepped y bs (block_of asked) failed
    resumed_is = rw (stall_pebbles, stall_block)

    resumed_registers : registers_of (resumed y bs block failed).block ≡ flagged 0 (registers_of block)
    resumed_registers = rw (resumed_is, stepped_registers y bs (block_of asked) failed asked_passes, registers_of_block_of, then_acknowledge bs failed asked refl, c, s)

    resumed_alike : Alike (resumed y bs block failed).block block
    resumed_alike =
        let h = (step_fault_none y bs block).0 stall_passes in
        record {
          lengths = rw (resumed_is, stepped_block y bs (block_of asked) failed asked_passes) (length_block_of _ ∙ sym h.1);
          registers = ap (flagged 0) resumed_registers;
          left_flags = rw resumed_registers (omega arith);
          right_flags = h.2.flags_le;
        }

    pub resumes : Resumes y bs block failed
    resumes = record {
      stalls = (l, e);
      accepted = (_, ap (λ (x : Stepped). x.line) resumed_is ∙ stepped_line y bs (block_of asked) failed asked_passes);
      pebbles = rw (resumed_is, stepped_pebbles y bs (block_of asked) failed asked_passes, registers_of_block_of) (pebbles_rest bs failed asked y refl);
      registers = resumed_registers;
      goes_on = λ k.
          let h = alike_steps y bs (resumed y bs block failed).block block resumed_alike k in
          (h.1, h.0.registers, steps_refused y bs (resumed y bs block failed).block block resumed_alike k);
    }

-- a run in which pushes fail
alike_trans : {a b c : List ℕ} → Alike a b → Alike b c → Alike a c
alike_trans p q = record { lengths = p.lengths ∙ q.lengths; registers = p.registers ∙ q.registers; left_flags = p.left_flags; right_flags = q.right_flags }

module _ (y : Yard) (bs block : List ℕ) (l : Bool) (e : (stepped y bs block false).line ≡ answered l) (c : (registers_of block).command ≡ start) where
  abbrev whole : WholeRun y bs block false (whole_moves bs)
  whole = whole_run y bs block false l e c

  next_passes : (k : ℕ) → step_fault (yard_after k y bs block false) bs (steps k y bs block false).block ≡ none
  unfolding steps
  next_passes k = let a = whole.accepted (suc k) in line_answered (yard_after k y bs block false) bs (steps k y bs block false).block false a.0 a.1

  begun_same : (failed : Bool) → stepped y bs block failed ≡ stepped y bs block false
  begun_same true = failure_ignored y bs block (rw c)
  begun_same false = refl

  together : {k : ℕ} {s : Stepped} → Drives y bs block k s → Together s (steps k y bs block false)
  unfolding steps
  together (Drives.begun failed) =
      let h = now_in_range y bs block false (line_answered y bs block false l e) in
      rw (begun_same failed) (record { lengths = refl; registers = refl; left_flags = h.flags_le; right_flags = h.flags_le }, refl)
  together (Drives.moved {k} {s} d) =
      let h = together d in
      rw h.1 (alike_step (yard_after k y bs block false) bs s.block (steps k y bs block false).block h.0 false)
  together (Drives.stuck {k} {s} d n failed) =
      let h = together d in
      let z : holding y s.pebbles ≡ yard_after k y bs block false = rw h.1 in
      let passes : step_fault (holding y s.pebbles) bs s.block ≡ none = rw z (alike_fault (yard_after k y bs block false) bs s.block (steps k y bs block false).block h.0 ∙ next_passes k) in
      let answers = stepped_line (holding y s.pebbles) bs s.block true passes in
      let command = ap (λ (r : Registers). r.command) h.0.registers ∙ whole.taken k in
      let status = ap (λ (r : Registers). r.status) h.0.registers ∙ whole.runs k n in (
        alike_trans (resumed_alike (holding y s.pebbles) bs s.block _ answers command status failed) h.0,
        (resumes (holding y s.pebbles) bs s.block _ answers command status failed).pebbles ∙ h.1,
      )

  -- however often it stalls and is acknowledged, it comes where a run without stalls comes, and its m-th move leaves the pebbles on exactly the targets
  pub drives_steps : (k : ℕ) (s : Stepped) → Drives y bs block k s → (s.pebbles ≡ (steps k y bs block false).pebbles) × (flagged 0 (registers_of s.block) ≡ flagged 0 (registers_after k y bs block false))
  drives_steps k s d = let h = together d in (h.1, h.0.registers)

  pub drives_solves : (s : Stepped) → Drives y bs block (whole_moves bs) s → Solved (holding y s.pebbles)
  drives_solves s d = rw (together d).1 whole.solves

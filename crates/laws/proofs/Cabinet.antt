-- What one step of the cabinet leaves (request 2.9), read off its definition by its command, its status and what it is told (`each_step`). The block
-- that an accepted step leaves is of bytes again, with registers that refusal 24 does not meet.
use mathlib.Core.Path.{◌≡◌, refl, sym, ap, ◌∙◌}
use mathlib.Core.Logic.{◌≢◌, ◌↔◌, ◌⊎◌, inl, inr}
use mathlib.Core.Bool.{Bool, true, false, not, cond, ◌&&◌, and-false, and-eq-true_iff}
use mathlib.Core.List.{List, [], ◌∷◌}
use mathlib.Core.Option.{Option, none, some}
use Prim.Native.Nat.{ℕ, zero, suc, ◌+◌, ◌-◌, ◌*◌, ◌%◌, ◌≤◌, ◌<◌}
use native.Mathlib.Omega.{arith}
use native.Mathlib.Decide.{ℕ_discrete}
use lib.ListN.{length, get_or}
use lib.Dec.{eqb}
use borrow.Author.Tests.{eqb-true, ne_eqb}
use Rattle.model.specs.Yard.{Yard, holding, pebbleCount}
use Rattle.model.specs.Judge.{Fault, Tree}
use Rattle.model.specs.Push.{push, pushed, after}
use Rattle.model.specs.Calls.Answers.{Answer, answered}
use Rattle.model.specs.Calls.Checks.{bytes_fault, check_tests, check_fault}
use Rattle.model.specs.declared.Registers.{Registers}
use Rattle.model.specs.Calls.Registers.{no_command, start, stop, acknowledge, idle, running, stalled, block_length, block_of, registers_of, set_bit, finished_bit, max_flags, raised, whole_moves, next_number, next_move, obeying, step_fault, task_fault, counted, started, stopped, acknowledged, jammed, showing, advanced, registers_then, pebbles_then, stepped}
use Rattle.laws.specs.Limits.{WholePlan}
use Rattle.laws.specs.Cabinet.{Leaves, InRange, Acceptable, stepped_to, EachStep}
use Rattle.laws.proofs.Basics.{none_all, unless_none}
use Rattle.laws.proofs.Runs.{pebble_count_run}
use Rattle.laws.proofs.Calls.{moves_of_half, move_at}
use Rattle.laws.proofs.Moves.{move_fault_legal}
use Rattle.laws.proofs.Demand2.{bytes_fault_even, accepts_none}
use Rattle.laws.proofs.Sheets.{Bytes}
use Rattle.laws.proofs.Places.{few_moves}
use Rattle.laws.proofs.Bits.{finished_le, stalled_le, raised_shares}
use Rattle.laws.proofs.Blocks.{then_of, pebbles_of, block_of_registers_of, Held, registers_of_held, block_of_bytes, line_answered, line_refused, stepped_refused, stepped_line, stepped_block, stepped_pebbles, stepped_registers, running_left, step_fault_none, task_fault_start, task_fault_obey, task_fault_other}

-- registers_then, pebbles_then: what each kind of step leaves
module _ (bs : List ℕ) (failed : Bool) (r : Registers) where
  pub then_start : r.command ≡ start → then_of bs failed r ≡ started (whole_moves bs) r
  unfolding registers_then
  then_start c = rw c

  pub then_stop : r.command ≡ stop → then_of bs failed r ≡ stopped r
  unfolding registers_then
  then_stop c = rw c

  pub then_acknowledge : r.command ≡ acknowledge → then_of bs failed r ≡ acknowledged r
  unfolding registers_then
  then_acknowledge c = rw c

  pub then_obey : r.command ≡ no_command → r.status ≡ running → then_of bs failed r ≡ cond failed (jammed r) (advanced (next_move bs r) r)
  unfolding registers_then
  then_obey c s = rw (c, s)

  pub then_rest : r.command ≡ no_command → r.status ≢ running → then_of bs failed r ≡ r
  unfolding registers_then
  then_rest c s = rw (c, ne_eqb r.status running s)

  module _ (y : Yard) where
    pub pebbles_obey : r.command ≡ no_command → r.status ≡ running → pebbles_of y bs failed r ≡ cond failed y.pebbles (pushed y (next_move bs r)).pebbles
    unfolding pebbles_then
    pebbles_obey c s = rw (c, s) (turned failed)
      where
        turned : (b : Bool) → cond (not b) (pushed y (next_move bs r)).pebbles y.pebbles ≡ cond b y.pebbles (pushed y (next_move bs r)).pebbles
        turned true = refl
        turned false = refl

    pub pebbles_rest : obeying r ≡ false → pebbles_of y bs failed r ≡ y.pebbles
    unfolding pebbles_then
    pebbles_rest o = rw o

-- the three commands
commands : (c : ℕ) → 0 < c → c ≤ acknowledge → (c ≡ start) ⊎ ((c ≡ stop) ⊎ (c ≡ acknowledge))
commands zero l h = absurd (omega arith)
commands (suc zero) l h = inl refl
commands (suc (suc zero)) l h = inr (inl refl)
commands (suc (suc (suc zero))) l h = inr (inr refl)
commands (suc (suc (suc (suc c)))) l h = absurd (omega arith)

-- what holds of each kind of step holds of any
pub then_cases : (P : Registers → Type 0) (bs : List ℕ) (failed : Bool) (r : Registers) → r.command ≤ acknowledge
    → (r.command ≡ start → P (started (whole_moves bs) r))
    → (r.command ≡ stop → P (stopped r))
    → (r.command ≡ acknowledge → P (acknowledged r))
    → (r.command ≡ no_command → r.status ≡ running → P (cond failed (jammed r) (advanced (next_move bs r) r)))
    → (r.command ≡ no_command → r.status ≢ running → P r)
    → P (then_of bs failed r)
then_cases P bs failed r l a b c d f = go (ℕ_discrete r.command no_command) (ℕ_discrete r.status running)
  where
    taken : (r.command ≡ start) ⊎ ((r.command ≡ stop) ⊎ (r.command ≡ acknowledge)) → P (then_of bs failed r)
    taken (inl z) = rw (then_start bs failed r z) (a z)
    taken (inr (inl z)) = rw (then_stop bs failed r z) (b z)
    taken (inr (inr z)) = rw (then_acknowledge bs failed r z) (c z)

    go : Dec (r.command ≡ no_command) → Dec (r.status ≡ running) → P (then_of bs failed r)
    go (yes z) (yes s) = rw (then_obey bs failed r z s) (d z s)
    go (yes z) (no s) = rw (then_rest bs failed r z s) (f z s)
    go (no z) s = taken (commands r.command (omega arith) l)

-- an accepted step leaves registers that 24 does not meet
pub counted_in_range : (moves n : ℕ) (r : Registers) → n ≤ moves → r.flags ≤ max_flags → InRange moves (counted n r)
counted_in_range moves n r l h = record {
  command_le = omega arith;
  status_le = status (eqb n 0);
  left_le = l;
  left_pos = pos n;
  flags_le = flags (eqb n 0);
}
  where
    status : (b : Bool) → cond b idle running ≤ stalled
    status true = omega arith
    status false = omega arith

    pos : (n : ℕ) → (cond (eqb n 0) idle running ≡ idle) ⊎ (0 < n)
    pos zero = inl refl
    pos (suc n) = inr (omega arith)

    flags : (b : Bool) → cond b (set_bit finished_bit r.flags) r.flags ≤ max_flags
    flags true = finished_le r.flags h
    flags false = h

pub then_in_range : (bs : List ℕ) (failed : Bool) (r : Registers) → InRange (whole_moves bs) r → InRange (whole_moves bs) (then_of bs failed r)
then_in_range bs failed r h = then_cases (InRange (whole_moves bs)) bs failed r h.command_le
    (λ _. counted_in_range (whole_moves bs) (whole_moves bs) r (omega arith) h.flags_le)
    (λ _. record { command_le = omega arith; status_le = omega arith; left_le = omega arith; left_pos = inl refl; flags_le = h.flags_le })
    (λ _. record { command_le = omega arith; status_le = turned (eqb r.status stalled); left_le = h.left_le; left_pos = moving h.left_pos; flags_le = omega arith })
    (λ _ s. told s failed)
    (λ _ _. h)
  where
    turned : (b : Bool) → cond b running r.status ≤ stalled
    turned true = omega arith
    turned false = h.status_le

    moving : (r.status ≡ idle) ⊎ (0 < r.left) → (cond (eqb r.status stalled) running r.status ≡ idle) ⊎ (0 < r.left)
    moving (inl e) = inl (rw e)
    moving (inr l) = inr l

    told : r.status ≡ running → (b : Bool) → InRange (whole_moves bs) (cond b (jammed r) (advanced (next_move bs r) r))
    told s true = record { command_le = h.command_le; status_le = omega arith; left_le = h.left_le; left_pos = inr (running_left h s); flags_le = stalled_le r.flags h.flags_le }
    told s false = counted_in_range (whole_moves bs) (r.left - 1) (showing (next_move bs r) r) (omega (arith, h.left_le)) h.flags_le

command_not : (r : Registers) → 0 < r.command → obeying r ≡ false
command_not r l = rw (ne_eqb r.command no_command (λ z. omega arith))

status_not : (r : Registers) → r.status ≢ running → obeying r ≡ false
status_not r s = rw (ne_eqb r.status running s) (and-false (eqb r.command no_command))

-- where a command is given, or nothing runs, a failure that is told changes nothing
pub failure_ignored : (y : Yard) (bs block : List ℕ) → obeying (registers_of block) ≡ false → stepped y bs block true ≡ stepped y bs block false
unfolding stepped registers_then pebbles_then
failure_ignored y bs block o = rw o

answered_same : {A : Type 0} {a b : A} → answered a ≡ answered b → a ≡ b
answered_same e = cc

-- the move that an accepted running step obeys is one of the plan, its two bytes at twice its number
module _ (y : Yard) (bs block : List ℕ) (e : step_fault y bs block ≡ none) (c : (registers_of block).command ≡ no_command) (s : (registers_of block).status ≡ running) where
  next_lt : next_number bs (registers_of block) < whole_moves bs
  next_lt = let h = ((step_fault_none y bs block).0 e).2 in omega (arith, h.left_le, running_left h s)

  pub next_bytes : next_move bs (registers_of block) ≡ push (get_or bs (2 * next_number bs (registers_of block)) 0) (get_or bs (2 * next_number bs (registers_of block) + 1) 0)
  next_bytes = move_at bs (next_number bs (registers_of block)) (omega (arith, next_lt, moves_of_half bs))

-- when a step is accepted
pub bytes_fault_whole : (bs : List ℕ) → (bytes_fault bs ≡ none) ↔ WholePlan bs
bytes_fault_whole bs = (
  (λ e. let even = eqb-true (length bs % 2) 0 ((and-eq-true_iff _ _).0 (unless_none _ 9 0 e)).0 in (omega (arith, even, moves_of_half bs), few_moves bs e)),
  λ h. bytes_fault_even bs (whole_moves bs) h.0 h.1,
)

module _ (y : Yard) (bs block : List ℕ) where
  abbrev registers : Registers
  registers = registers_of block

  task_none : Acceptable y bs block registers → task_fault y bs registers ≡ none
  task_none h = go (ℕ_discrete registers.command start) (ℕ_discrete registers.command no_command) (ℕ_discrete registers.status running)
    where
      go : Dec (registers.command ≡ start) → Dec (registers.command ≡ no_command) → Dec (registers.status ≡ running) → task_fault y bs registers ≡ none
      go (yes c) _ _ = let a = h.starts c in (task_fault_start y bs registers c).1 (a.0, (accepts_none y bs).0 a.1)
      go (no c) (yes z) (yes s) =
          let a = h.obeys z s in
          (task_fault_obey y bs registers z s).1 ((bytes_fault_whole bs).1 a.0, (move_fault_legal y h.tree (next_move bs registers) (next_number bs registers)).1 a.1)
      go (no c) (yes z) (no s) = task_fault_other y bs registers c (status_not registers s)
      go (no c) (no z) _ = task_fault_other y bs registers c (command_not registers (omega arith))

  acceptable : (step_fault y bs block ≡ none) ↔ Acceptable y bs block registers
  acceptable = (
    (λ e.
        let h = (step_fault_none y bs block).0 e in
        record {
          tree = h.0;
          nine = h.1;
          ranges = h.2;
          starts = λ c. let a = (task_fault_start y bs registers c).0 h.3 in (a.0, (accepts_none y bs).1 a.1);
          obeys = λ c s.
              let a = (task_fault_obey y bs registers c s).0 h.3 in
              ((bytes_fault_whole bs).0 a.0, (move_fault_legal y h.0 (next_move bs registers) (next_number bs registers)).0 a.1);
        }),
    λ h. (step_fault_none y bs block).1 (h.tree, h.nine, h.ranges, task_none h),
  )

-- an accepted step
module _ (y : Yard) (bs block : List ℕ) (failed : Bool) (e : step_fault y bs block ≡ none) where
  abbrev r : Registers
  r = registers_of block

  now_is : registers_of (stepped y bs block failed).block ≡ then_of bs failed r
  now_is = stepped_registers y bs block failed e

  range : InRange (whole_moves bs) r
  range = ((step_fault_none y bs block).0 e).2

  pub now_in_range : InRange (whole_moves bs) (registers_of (stepped y bs block failed).block)
  now_in_range = rw now_is (then_in_range bs failed r range)

  leaves_then : Leaves y bs failed (raised (then_of bs failed r)) r (then_of bs failed r) (pebbles_of y bs failed r)
  leaves_then = record {
    line = raised_shares (then_of bs failed r) (then_in_range bs failed r range).flags_le;
    takes = λ l. then_cases (λ x. (x.command ≡ no_command) × (pebbles_of y bs failed r ≡ y.pebbles) × (x.from ≡ r.from) × (x.to ≡ r.to) × (x.mask ≡ r.mask)) bs failed r range.command_le
        (λ _. (refl, kept l, refl, refl, refl)) (λ _. (refl, kept l, refl, refl, refl)) (λ _. (refl, kept l, refl, refl, refl)) (λ z _. absurd (omega arith)) (λ z _. absurd (omega arith));
    starts = λ c.
        let h = (task_fault_start y bs r c).0 ((step_fault_none y bs block).0 e).3 in
        rw (then_start bs failed r c) (h.0, (accepts_none y bs).1 h.1, refl, (λ l. rw (ne_eqb (whole_moves bs) 0 (λ z. omega arith)) (refl, refl)), λ z. rw z (refl, refl));
    stops = λ c. rw (then_stop bs failed r c) (refl, refl, refl);
    acknowledges = λ c. rw (then_acknowledge bs failed r c) (refl, refl, (λ s. rw s), λ s. rw (ne_eqb r.status stalled s));
    obeys = λ c s f. rw (then_obey bs failed r c s, pebbles_obey bs failed r y c s, f, (((acceptable y bs block).0 e).obeys c s).1) (refl, refl, refl, refl, refl, refl, (λ l. rw (ne_eqb (r.left - 1) 0 (λ z. omega arith)) (refl, refl)), λ z. rw z (refl, refl));
    stalls = λ c s f. rw (then_obey bs failed r c s, pebbles_obey bs failed r y c s, f) (refl, refl, refl, refl, c, refl, refl, refl);
    rests = λ c s. (then_rest bs failed r c s, pebbles_rest bs failed r y (status_not r s));
  }
    where
      kept : 0 < r.command → pebbles_of y bs failed r ≡ y.pebbles
      kept l = pebbles_rest bs failed r y (command_not r l)

  leaves : (l : Bool) → (stepped y bs block failed).line ≡ answered l → Leaves y bs failed l r (registers_of (stepped y bs block failed).block) (stepped y bs block failed).pebbles
  leaves l a = rw (answered_same (sym a ∙ stepped_line y bs block failed e), now_is, stepped_pebbles y bs block failed e) leaves_then

  kept_count : pebbleCount (holding y (stepped y bs block failed).pebbles) ≡ pebbleCount y
  unfolding pebbles_then after
  kept_count = rw (stepped_pebbles y bs block failed e) (go ((obeying r) && (not failed)))
    where
      go : (b : Bool) → pebbleCount (holding y (cond b (pushed y (next_move bs r)).pebbles y.pebbles)) ≡ pebbleCount y
      go true = pebble_count_run y ((step_fault_none y bs block).0 e).0 (next_move bs r ∷ [])
      go false = refl

pub each_step : (y : Yard) (bs block : List ℕ) (failed : Bool) → EachStep y bs block failed (stepped y bs block failed)
each_step y bs block failed = record {
  accepts = ((λ a. (acceptable y bs block).0 (line_answered y bs block failed a.0 a.1)), λ h. (_, stepped_line y bs block failed ((acceptable y bs block).1 h)));
  accepted = λ l a. leaves y bs block failed (line_answered y bs block failed l a) l a;
  refusal = λ f a. rw (stepped_refused y bs block failed f (line_refused y bs block failed f a)) (refl, refl);
  constant = go (step_fault y bs block) refl;
}
  where
    go : (f : Option Fault) → step_fault y bs block ≡ f → pebbleCount (holding y (stepped y bs block failed).pebbles) ≡ pebbleCount y
    go none e = kept_count y bs block failed e
    go (some f) e = rw (stepped_refused y bs block failed f e)

-- the same of what a call gave that equals it
pub each_step_of : {line : Answer Bool} {after pebbles : List ℕ} (y : Yard) (bs block : List ℕ) (failed : Bool) → line ≡ (stepped y bs block failed).line
    → after ≡ (stepped y bs block failed).block → pebbles ≡ (stepped y bs block failed).pebbles → EachStep y bs block failed (stepped_to line after pebbles)
each_step_of y bs block failed l b p = rw (l, b, p) (each_step y bs block failed)

pub also_each : {line : Answer Bool} {after pebbles : List ℕ} (y : Yard) (bs block : List ℕ) (failed : Bool)
    → (line ≡ (stepped y bs block failed).line) × ((after ≡ (stepped y bs block failed).block) × (pebbles ≡ (stepped y bs block failed).pebbles))
    → (line ≡ (stepped y bs block failed).line) × ((after ≡ (stepped y bs block failed).block)
    × ((pebbles ≡ (stepped y bs block failed).pebbles) × EachStep y bs block failed (stepped_to line after pebbles)))
also_each y bs block failed e = (e.0, (e.1.0, (e.1.1, each_step_of y bs block failed e.0 e.1.0 e.1.1)))

-- bytes stay bytes
module _ (y : Yard) (bs block : List ℕ) (failed : Bool) (e : step_fault y bs block ≡ none) (b : Bytes block) (p : Bytes bs) where
  pub then_held : Held (then_of bs failed (registers_of block))
  unfolding check_fault
  then_held = then_cases Held bs failed (registers_of block) passes.2.command_le
      (λ c. (held.0, held.1, omega (arith, few_moves bs (none_all (check_tests y bs) ((task_fault_start y bs (registers_of block) c).0 passes.3).1).1.1.0), held.3))
      (λ _. (held.0, held.1, omega arith, held.3))
      (λ _. held)
      (λ c s. told c s failed)
      (λ _ _. held)
    where
      passes : Tree y × (length block ≡ block_length) × InRange (whole_moves bs) (registers_of block) × (task_fault y bs (registers_of block) ≡ none)
      passes = (step_fault_none y bs block).0 e

      held : Held (registers_of block)
      held = registers_of_held block b

      told : (registers_of block).command ≡ no_command → (registers_of block).status ≡ running → (b : Bool) → Held (cond b (jammed (registers_of block)) (advanced (next_move bs (registers_of block)) (registers_of block)))
      told c s true = held
      told c s false = rw (next_bytes y bs block e c s) (p _, p _, omega (arith, held.2), held.3)

  pub stepped_bytes : Bytes (stepped y bs block failed).block
  stepped_bytes = rw (stepped_block y bs block failed e) (block_of_bytes (whole_moves bs) _ (then_in_range bs failed (registers_of block) ((step_fault_none y bs block).0 e).2) then_held)

  -- where nothing changes, no byte does
  pub rests_block : (registers_of block).command ≡ no_command → (registers_of block).status ≢ running → (stepped y bs block failed).block ≡ block
  rests_block c s = stepped_block y bs block failed e ∙ ap block_of (then_rest bs failed (registers_of block) c s) ∙ block_of_registers_of block ((step_fault_none y bs block).0 e).1 (b 4) (b 5)

-- The cabinet's whole run (request 2.9). After an accepted start and k more steps the pebbles are where the plan's first k moves leave them, and the
-- registers show the last of these and count what is left (`At`), as each next move is one that the checker accepted there.
use mathlib.Core.Path.{◌≡◌, refl, sym, ap, ◌∙◌}
use mathlib.Core.Logic.{◌↔◌}
use mathlib.Core.Bool.{Bool, true, false, cond}
use mathlib.Core.List.{List, [], ◌∷◌}
use mathlib.Core.Option.{none}
use Prim.Native.Nat.{ℕ, zero, suc, ◌-◌, ◌≤◌, ◌<◌}
use native.Mathlib.Omega.{arith}
use lib.ListN.{length, get_or, take}
use lib.Seq.{take-suc, take_all}
use lib.Dec.{ltb, eqb}
use borrow.Author.Tests.{ltb-true, ltb-false, eqb-true, lt-ltb, le-ltb, ne_eqb}
use Rattle.model.specs.Yard.{Yard}
use Rattle.model.specs.Judge.{Tree}
use Rattle.model.specs.Push.{Move, push, legal, pushed, after, run, accepted, Solved}
use Rattle.model.specs.Calls.Answers.{answered}
use Rattle.model.specs.Calls.Plans.{moves_of}
use Rattle.model.specs.Calls.Checks.{bytes_fault, check_tests, check_fault}
use Rattle.model.specs.declared.Registers.{Registers}
use Rattle.model.specs.Calls.Registers.{start, idle, running, block_of, registers_of, set_bit, finished_bit, raised, whole_moves, step_fault, task_fault, counted, showing, registers_then, pebbles_then, Stepped, stepped}
use Rattle.model.specs.Cabinet.{steps}
use Rattle.laws.specs.Cabinet.{InRange, registers_after, WholeRun}
use Rattle.laws.proofs.Basics.{none_all}
use Rattle.laws.proofs.Step.{legal_step}
use Rattle.laws.proofs.Runs.{Obeys, obeys, run_tree, pebble_count_run, after_append}
use Rattle.laws.proofs.Calls.{totals_none}
use Rattle.laws.proofs.Moves.{move_fault_legal, after_legal, accepted_obeys}
use Rattle.laws.proofs.Demand2.{check_fault_none}
use Rattle.laws.proofs.Blocks.{then_of, pebbles_of, registers_of_block_of, line_answered, stepped_line, stepped_block, stepped_pebbles, step_fault_none, task_fault_start, task_fault_obey, task_fault_other}
use Rattle.laws.proofs.Cabinet.{counted_in_range}

-- the k-th of a list of legal pushes is legal where those before it lead
obeys_at : {y z : Yard} {ms : List Move} → Obeys y ms z → (d : Move) (k : ℕ) → k < length ms → legal (run y (take k ms)) (get_or ms k d) ≡ true
unfolding after
obeys_at Obeys.done d k l = absurd (omega arith)
obeys_at (Obeys.next {y} {m = m} s o) d zero l = legal_step y m s
obeys_at (Obeys.next {y} {m = m} {ms = ms} s o) d (suc k) l = rw (after_legal y m (take k ms) (legal_step y m s)) (obeys_at o d k (omega arith))

-- and after it
after_next : (y : Yard) (ms : List Move) (d : Move) (k : ℕ) → k < length ms → (pushed (run y (take k ms)) (get_or ms k d)).pebbles ≡ after y (take (suc k) ms)
unfolding after
after_next y ms d k l = sym (ap (after y) (take-suc ms k d l) ∙ after_append (take k ms) (get_or ms k d ∷ []) y)

-- the whole run
module _ (y : Yard) (bs block : List ℕ) (failed : Bool) (e : step_fault y bs block ≡ none) (c : (registers_of block).command ≡ start) where
  abbrev r : Registers
  r = registers_of block

  abbrev ms : List Move
  ms = moves_of bs

  abbrev m : ℕ
  m = whole_moves bs

  -- the move shown after k steps, and the registers then
  abbrev last : ℕ → Move
  last zero = push r.from r.to
  last (suc k) = cond (ltb k m) (get_or ms k (push 0 0)) (last k)

  abbrev shown : ℕ → Registers
  shown k = counted (m - k) (showing (last k) r)

  abbrev there : ℕ → Yard
  there k = run y (take k ms)

  known : Tree y × InRange m r × (check_fault y bs ≡ none)
  known = let h = (step_fault_none y bs block).0 e in (h.0, h.2, ((task_fault_start y bs r c).0 h.3).1)

  tree : Tree y
  tree = known.0

  obeyed : (bytes_fault bs ≡ none) × (accepted y ms ≡ ms) × Solved (run y ms)
  unfolding check_fault
  obeyed = (check_fault_none y tree ((totals_none y).0 (none_all (check_tests y bs) known.2).1.0) bs).0 known.2

  then_tree : (k : ℕ) → Tree (there k)
  then_tree k = run_tree (obeys (take k ms) y tree) tree

  record Next (k : ℕ) : Type 0 where
    passes : step_fault (there k) bs (block_of (shown k)) ≡ none
    registers : then_of bs false (shown k) ≡ shown (suc k)
    pebbles : pebbles_of (there k) bs false (shown k) ≡ after y (take (suc k) ms)

  passing : (k : ℕ) → task_fault (there k) bs (shown k) ≡ none → step_fault (there k) bs (block_of (shown k)) ≡ none
  unfolding block_of
  passing k f = (step_fault_none (there k) bs (block_of (shown k))).1 (then_tree k, refl, rw registers_of_block_of (counted_in_range m (m - k) (showing (last k) r) (omega arith) known.1.flags_le), rw registers_of_block_of f)

  next_move_law : (k : ℕ) → k < m → Next k
  unfolding registers_then pebbles_then
  next_move_law k l =
      let left : eqb (m - k) 0 ≡ false = ne_eqb (m - k) 0 (λ z. omega arith) in
      let number : m - (m - k) ≡ k = omega arith in
      let fewer : m - k - 1 ≡ m - suc k = omega arith in
      let free = (move_fault_legal (there k) (then_tree k) (get_or ms k (push 0 0)) k).1 (obeys_at (accepted_obeys y tree ms obeyed.1) (push 0 0) k l) in
      record {
        passes = passing k ((task_fault_obey (there k) bs (shown k) refl (rw left)).1 (obeyed.0, rw number free));
        registers = rw (left, number, fewer, lt-ltb k m l);
        pebbles = rw (left, number) (after_next y ms (push 0 0) k l);
      }

  next_idle : (k : ℕ) → m ≤ k → Next k
  unfolding registers_then pebbles_then
  next_idle k l =
      let none_left : m - k ≡ 0 = omega arith in
      let none_fewer : m - suc k ≡ 0 = omega arith in
      record {
        passes = passing k (task_fault_other (there k) bs (shown k) (λ z. omega arith) (rw none_left));
        registers = rw (none_left, none_fewer, le-ltb k m l);
        pebbles = rw (none_left, take_all k ms l, take_all (suc k) ms (omega arith));
      }

  next : (k : ℕ) → Next k
  next k = go (ltb k m) refl
    where
      go : (b : Bool) → ltb k m ≡ b → Next k
      go true l = next_move_law k (ltb-true k m l)
      go false l = next_idle k (ltb-false k m l)

  -- the line, the block and the pebbles after k steps behind the start
  pub record At (k : ℕ) : Type 0 where
    pub line : (steps k y bs block failed).line ≡ answered (raised (shown k))
    pub registers : (steps k y bs block failed).block ≡ block_of (shown k)
    pub pebbles : (steps k y bs block failed).pebbles ≡ after y (take k ms)

  pub at : (k : ℕ) → At k
  unfolding steps registers_then pebbles_then after
  at zero =
      let all : m - 0 ≡ m = omega arith in
      record {
        line = stepped_line y bs block failed e ∙ rw (c, all);
        registers = stepped_block y bs block failed e ∙ rw (c, all);
        pebbles = stepped_pebbles y bs block failed e ∙ rw c;
      }
  at (suc k) =
      let h = at k in
      let n = next k in
      let s : steps (suc k) y bs block failed ≡ stepped (there k) bs (block_of (shown k)) false = rw (h.pebbles, h.registers) in
      record {
        line = ap (λ (x : Stepped). x.line) s ∙ stepped_line (there k) bs (block_of (shown k)) false n.passes ∙ rw (registers_of_block_of, n.registers);
        registers = ap (λ (x : Stepped). x.block) s ∙ stepped_block (there k) bs (block_of (shown k)) false n.passes ∙ rw (registers_of_block_of, n.registers);
        pebbles = ap (λ (x : Stepped). x.pebbles) s ∙ stepped_pebbles (there k) bs (block_of (shown k)) false n.passes ∙ rw registers_of_block_of n.pebbles;
      }

  registers_at : (k : ℕ) → registers_after k y bs block failed ≡ shown k
  registers_at k = rw (at k).registers (registers_of_block_of (shown k))

  idle_none : (n : ℕ) → (cond (eqb n 0) idle running ≡ idle) ↔ (n ≡ 0)
  idle_none n = (go (eqb n 0) refl, λ z. rw z)
    where
      go : (b : Bool) → eqb n 0 ≡ b → cond b idle running ≡ idle → n ≡ 0
      go true e _ = eqb-true n 0 e
      go false _ z = absurd (omega arith)

  flags_at : (k : ℕ) → (shown k).flags ≡ cond (ltb k m) r.flags (set_bit finished_bit r.flags)
  flags_at k = go (ltb k m) refl
    where
      go : (b : Bool) → ltb k m ≡ b → cond (eqb (m - k) 0) (set_bit finished_bit r.flags) r.flags ≡ cond b r.flags (set_bit finished_bit r.flags)
      go true l = rw (ne_eqb (m - k) 0 (λ z. omega (arith, ltb-true k m l)))
      go false l = let z : m - k ≡ 0 = omega (arith, ltb-false k m l) in rw z

  whole : WholeRun y bs block failed m
  whole = record {
    accepted = λ k. (raised (shown k), (at k).line);
    taken = λ k. rw (registers_at k);
    solves = rw ((at m).pebbles, take_all m ms (omega arith)) obeyed.2;
    first = λ k. rw (registers_at k) ((λ z. omega (arith, (idle_none (m - k)).0 z)), λ l. (idle_none (m - k)).1 (omega arith));
    runs = λ k l. rw (registers_at k, ne_eqb (m - k) 0 (λ z. omega arith));
    constant = λ k. rw (at k).pebbles (pebble_count_run y tree (take k ms));
    obeyed = λ k. rw (at k).pebbles;
    shows = λ k l. rw (registers_at (suc k), lt-ltb k m l);
    counts = λ k. rw (registers_at k);
    flags = λ k. rw (registers_at k) (flags_at k);
  }

-- the whole run, of every accepted start, whatever it is told of a failure
pub whole_run : (y : Yard) (bs block : List ℕ) (failed l : Bool) → (stepped y bs block failed).line ≡ answered l → (registers_of block).command ≡ start
    → WholeRun y bs block failed (whole_moves bs)
whole_run y bs block failed l e c = whole y bs block failed (line_answered y bs block failed l e) c

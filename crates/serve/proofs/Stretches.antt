-- Moves that are made in stretches, each written behind the one before: what holds of a part of the list, lent on behind k moves, said of the whole.
use mathlib.Core.Path.{◌≡◌, ap, ◌∙◌}
use mathlib.Core.List.{List, [], ◌++◌, append_assoc, append-nil}
use Prim.Native.Nat.{ℕ, ◌+◌, ◌-◌, ◌*◌, ◌≤◌}
use native.Mathlib.Omega.{arith}
use lib.ListN.{length, take, drop, length-append, length-drop, drop_of_length-le}
use lib.Seq.{take_at, drop_at, drop-drop}
use borrow.Author.Rules.{part_to_end}
use borrow.Rule.Slice.PartMut.{put_mid}
use Rattle.model.specs.Yard.{Yard, shortest}
use Rattle.model.specs.Push.{Move, after, run}
use Rattle.model.specs.Calls.Answers.{overwrite}
use Rattle.model.specs.Calls.Plans.{bytes}
use Rattle.laws.proofs.Calls.{length_bytes}
use Rattle.laws.proofs.Runs.{after_append}
use Rattle.laws.proofs.Shortest.{Good, good_nil, good_append, good_tree}
use Rattle.serve.specs.declared.state.State.{State}
use Rattle.serve.specs.declared.tree.Children.{Children}
use Rattle.serve.specs.Serving.{Kept, Describes, Made}
use Rattle.serve.proofs.Moving.{bytes_append, made_nil}

-- the list behind k moves, as it is lent on, and the whole with that part as it comes back
abbrev pub rest : List ℕ → ℕ → List ℕ
rest plan k = take (length plan - 2 * k) (drop (2 * k) plan)

abbrev pub back : List ℕ → ℕ → List ℕ → List ℕ
back plan k part = put_mid (2 * k) (length plan - 2 * k) plan part

module _ (a b before : List ℕ) (k : ℕ) (e : length a ≡ 2 * k) where
  rest_overwrite : rest (overwrite a before) k ≡ drop (length a) before
  rest_overwrite = part_to_end (overwrite a before) (2 * k) ∙ drop_at a (drop (length a) before) (2 * k) e

  none_behind : drop (length (overwrite a before) - 2 * k) (drop (2 * k) (overwrite a before)) ≡ []
  none_behind = drop_of_length-le (drop (2 * k) (overwrite a before)) {i = length (overwrite a before) - 2 * k} (omega (arith, length-drop (2 * k) (overwrite a before)))

  back_overwrite : back (overwrite a before) k (overwrite b (rest (overwrite a before) k)) ≡ overwrite (a ++ b) before
  back_overwrite = rw (rest_overwrite, none_behind, take_at a (drop (length a) before) (2 * k) e, append-nil (overwrite b (drop (length a) before)), drop-drop (length b) (length a) before, length-append a b, append_assoc a b (drop (length a + length b) before))

pub made_append : {y : Yard} {ms ns : List Move} {s s' : State} {before plan part : List ℕ} {k m : ℕ}
    → Made y ms s before plan k → Made (run y ms) ns s' (rest plan k) part m → Made y (ms ++ ns) s' before (back plan k part) (k + m)
made_append {y} {ms} {ns} {before = before} {k = k} d e = record {
  kept = rw (after_append ms ns y) e.kept;
  written = rw (e.written, d.written, bytes_append ms ns) (back_overwrite (bytes ms) (bytes ns) before k (omega (arith, length_bytes ms, d.counted)));
  counted = omega (arith, length-append ms ns, d.counted, e.counted);
}

-- moves that each lower the shortest length leave room for the others
module _ {y : Yard} {ms : List Move} {s : State} {before plan : List ℕ} {k : ℕ} (g : Good y ms) (r : 2 * shortest y ≤ length before) (d : Made y ms s before plan k) where
  pub made_length : (length plan ≡ length before) × (2 * k ≤ length before)
  made_length = omega (arith, g.spends, d.counted, ap length d.written, length-append (bytes ms) (drop (length (bytes ms)) before), length-drop (length (bytes ms)) before, length_bytes ms)

  pub room_left : 2 * shortest (run y ms) ≤ length (rest plan k)
  room_left = rw (part_to_end plan (2 * k)) (omega (arith, made_length, g.spends, d.counted, length-drop (2 * k) plan))

pub describes_after : {y : Yard} {ms : List Move} {t : Children} {s₀ s : State} {before plan : List ℕ} {k : ℕ} → Describes y t s₀ → Good y ms → Made y ms s before plan k → Describes (run y ms) t s
describes_after {y} {ms} r g d = record { tree = good_tree y r.tree ms g; tables = r.tables; kept = d.kept }

-- a part of the work is done: the moves so far, and what is left after them, by which the whole is done
pub record Begun (y : Yard) (s : State) (before plan : List ℕ) (k : ℕ) (Whole : List Move → Type 0) (Ahead : Yard → List Move → Type 0) : Type 0 where
  pub moves : List Move
  pub good : Good y moves
  pub made : Made y moves s before plan k
  pub onward : (ns : List Move) → Ahead (run y moves) ns → Whole (moves ++ ns)

unfoldable pub begin : {y : Yard} {s : State} {plan : List ℕ} {Ahead : Yard → List Move → Type 0} → Kept y s → Begun y s plan plan 0 (Ahead y) Ahead
unfolding after
begin {y} {s} {plan} h = record { moves = []; good = good_nil y; made = made_nil y s plan h; onward = λ ns l. l }

unfoldable pub go_on : {y : Yard} {s s' : State} {before plan part : List ℕ} {k m : ℕ} {Whole : List Move → Type 0} {Ahead Ahead' : Yard → List Move → Type 0}
    → (b : Begun y s before plan k Whole Ahead) (ns : List Move) → Good (run y b.moves) ns → Made (run y b.moves) ns s' (rest plan k) part m
    → ((ps : List Move) → Ahead' (run (run y b.moves) ns) ps → Ahead (run y b.moves) (ns ++ ps)) → Begun y s' before (back plan k part) (k + m) Whole Ahead'
go_on {y} b ns g d f = record {
  moves = b.moves ++ ns;
  good = good_append y b.moves ns b.good g;
  made = made_append b.made d;
  onward = λ ps l. rw append_assoc (b.onward (ns ++ ps) (f ps (rw (after_append b.moves ns y) at l)));
}

pub ended : {y : Yard} {s : State} {before plan : List ℕ} {k : ℕ} {Whole : List Move → Type 0} {Ahead : Yard → List Move → Type 0}
    → (b : Begun y s before plan k Whole Ahead) → Ahead (run y b.moves) [] → Whole b.moves
ended b l = rw append-nil at (b.onward [] l)

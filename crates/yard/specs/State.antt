-- The yard state ('What the yard is'): four arrays of 256 bytes and n. Its yard is each array continued by zeros and cut at n, so that any n has
-- one and no list is of another length than n.
use Rattle.std.specs.Prelude.{cond, List, [], ◌∷◌, ◌++◌, ℕ, take, replicate}
use Rattle.std.proofs.Math.Option.{Option, none, some}
use Rattle.model.specs.Yard as Y
use Rattle.model.specs.Yard.{max_size, fresh}
use Rattle.model.specs.Judge.{Fault, judge}
use Rattle.model.specs.Push.{Move, push_fault, is_none, legal, shifted}
use Rattle.model.specs.Calls.Answers.{overwrite}
use Rattle.yard.specs.declared.state.Yard.{Yard}

-- a list continued by zeros and cut at n
unfoldable pub padded : ℕ → List ℕ → List ℕ
padded n list = take n (list ++ replicate n 0)

-- the yard that a state holds. `from_lists` pins it: the state made of a tree's lists holds that tree
abbrev pub yard_in : Yard → Y.Yard
yard_in s = Y.yard_of (padded s.size s.parents) (padded s.size s.pebbles) (padded s.size s.targets) (padded s.size s.depths)

-- the state of a yard of at most 256 nodes: zeros behind its lists
abbrev pub state_of : Y.Yard → Yard
state_of y = record { parents = padded max_size y.parents; pebbles = padded max_size y.pebbles; targets = padded max_size y.targets; depths = padded max_size y.depths; size = Y.size y }

-- the yard that four lists give: theirs if it is a tree, else a fresh one
abbrev pub or_fresh : Y.Yard → Y.Yard
or_fresh y = cond (is_none (judge y)) y fresh

-- the state with other pebbles at its nodes; all else stays, also what lies behind them in the array
abbrev pub holding : Yard → List ℕ → Yard
holding s pebbles = record { parents = s.parents; pebbles = overwrite pebbles s.pebbles; targets = s.targets; depths = s.depths; size = s.size }

-- the state after a push: one pebble less at the first node and one more at the second if the push is legal in its yard, else the state as it
-- was. The yard in it is the definition's, `pushed` (`yard_in_after`)
abbrev pub state_after : Yard → Move → Yard
state_after s m = cond (legal (yard_in s) m) (holding s (shifted (yard_in s).pebbles m)) s

-- a list of pushes, each of the state that the one before gave back, after a refusal too: the state at the end, and the answer to each. They are
-- the definition's `run` and `accepted`, of which demand 3 speaks (`pushes_run`, `pushes_accepted`)
unfoldable pub state_after_all : Yard → List Move → Yard
state_after_all s [] = s
state_after_all s (m ∷ ms) = state_after_all (state_after s m) ms

unfoldable pub answers : Yard → List Move → List (Option Fault)
answers s [] = []
answers s (m ∷ ms) = push_fault (yard_in s) m ∷ answers (state_after s m) ms

-- the pushes of a list whose answer is no refusal
unfoldable pub unrefused : List Move → List (Option Fault) → List Move
unrefused (m ∷ ms) (none ∷ fs) = m ∷ unrefused ms fs
unrefused (m ∷ ms) (some f ∷ fs) = unrefused ms fs
unrefused (m ∷ ms) [] = []
unrefused [] fs = []

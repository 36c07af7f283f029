-- Algorithms 1 to 4 of source document 000, said as relations between a yard and the moves that they output. Nothing here bounds a loop or a recursion: what runs for ever has no moves at
-- all. The sign of a demand d is a side: `away` for d > 0, where pebbles go away from the root, and else towards it. Algorithm 4 is `run`: its lines 1 and 2 alter the yard, all
-- demands are read off the yard as it then is (lines 3 to 6), and line 7 is an entry of the list of moves.
use Rattle.std.specs.Prelude.{◌≡◌, Bool, true, false, not, cond, List, [], ◌∷◌, ◌++◌, ℕ}
use Rattle.model.specs.Yard.{Yard, up, full, held, children, root, lacking, surplus, imbalance}
use Rattle.model.specs.Push.{Move, push, run}
use Rattle.model.specs.Plan.{needy, Rule, choice, Side, fills}

-- the move over the edge of v and its parent: move_pebble(u, v) away from the root (true), move_pebble(v, u) towards it
abbrev pub crossing : List ℕ → Bool → ℕ → Move
crossing parents true v = push (up parents v) v
crossing parents false v = push v (up parents v)

-- what the subtree of v needs on a side: d(v) where d(v) > 0 (true), −d(v) where d(v) < 0 (false), else 0
abbrev pub need : Yard → Bool → ℕ → ℕ
need y true v = lacking y v
need y false v = surplus y v

-- line 1 of Algorithm 2 (true): pebble(v) = 1, which now means that v is full (request 2.10). Line 1 of Algorithm 3 (false): pebble(v) = 0
abbrev pub blocked : Yard → Bool → ℕ → Bool
blocked y away v = cond away (full y v) (not (held y v))

-- Algorithm 2, inject_pebble(v) (true), and Algorithm 3, extract_pebble(v) (false), in the yard y
pub data Serves (rule : Rule) (y : Yard) (away : Bool) : ℕ → List Move → Type 0 where
  -- Algorithms 2 and 3, line 1 is not so; line 4: the move
  direct : {v : ℕ} → blocked y away v ≡ false → Serves rule y away v (crossing y.parents away v ∷ [])
  -- Algorithms 2 and 3, line 1 is so; line 2: the rule picks a child of v; line 3: that child is served, by ms; line 4: the move
  behind : {v : ℕ} {ms : List Move} → blocked y away v ≡ true → Serves rule y away (rule (need y away) y v) ms
      → Serves rule y away v (ms ++ (crossing y.parents away v ∷ []))

-- Algorithm 1, balance_subtrees(u), lines 1 to 7: the loop
pub data Settles (side : Side) (rule : Rule) : Yard → ℕ → List Move → Type 0 where
  -- Algorithm 1, line 1: no child of u has a demand other than 0
  settled : {y : Yard} {u : ℕ} → needy (imbalance y) y u ≡ [] → Settles side rule y u []
  -- Algorithm 1, line 1: some child has; lines 2 and 5: the side of the turn; lines 3 and 6: the rule picks a child of u; lines 4 and 7: that child is served, by ms; and
  -- then line 1 again, in the yard that ms leaves
  turned : {y : Yard} {u c : ℕ} {cs : List ℕ} {ms ns : List Move} → needy (imbalance y) y u ≡ c ∷ cs
      → Serves rule y (side y u) (rule (need y (side y u)) y u) ms → Settles side rule (run y ms) u ns → Settles side rule y u (ms ++ ns)

-- Algorithm 1, balance_subtrees at each of some nodes, one after another
pub data Balances (side : Side) (rule : Rule) : Yard → List ℕ → List Move → Type 0 where
  -- Algorithm 1, line 8: no node is left
  none : {y : Yard} → Balances side rule y [] []
  -- Algorithm 1, line 9 for the first of them: its lines 1 to 7, by ms, and its lines 8 and 9 for its children in rising number, by ns; and then line 8 for the others
  next : {y : Yard} {u : ℕ} {us : List ℕ} {ms ns ps : List Move} → Settles side rule y u ms → Balances side rule (run y ms) (children y u) ns
      → Balances side rule (run y (ms ++ ns)) us ps → Balances side rule y (u ∷ us) (ms ++ ns ++ ps)

-- ms is the plan of Algorithms 1 to 4: balance_subtrees(r) outputs it, r being the root, with the choice of request 2.6 and the turns of request 2.10
abbrev pub Plans : Yard → List Move → Type 0
Plans y ms = Balances fills choice y (root y ∷ []) ms

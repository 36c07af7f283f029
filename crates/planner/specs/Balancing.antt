-- What balancing a node asks and gives, and what it starts from, beside what the tables and the state hold.
use Rattle.std.specs.Prelude.{◌≡◌, ◌≢◌, Bool, not, List, [], ◌∷◌, ℕ, ◌*◌, ◌≤◌, ◌<◌, length, get_or, eqb, pos}
use Rattle.model.specs.Yard.{Yard, size, shortest}
use Rattle.model.specs.Push.{Move}
use Rattle.model.specs.Plan.{choice, fills}
use Rattle.laws.specs.Algorithms.{need, Settles}
use Rattle.laws.proofs.Balance.{Even}
use Rattle.laws.proofs.Own.{BalancesIn}
use Rattle.demand.specs.Filling.{demands_then}
use Rattle.serve.specs.declared.state.State.{State}
use Rattle.serve.specs.declared.tree.Children.{Children}
use Rattle.serve.specs.Serving.{lasts, Long, Describes, Made, Served}

-- what balancing u asks, and its loop
pub record AskedEven (y : Yard) (t : Children) (s : State) (plan : List ℕ) (u : ℕ) : Type 0 where
  pub described : Describes y t s
  pub node : u < size y
  pub even : Even y u
  pub room : 2 * shortest y ≤ length plan

-- what a turn of the loop at u asks that fills (true) or draws: where a child is chosen for it, that is the side of the turn
pub record AskedTurn (b : Bool) (y : Yard) (t : Children) (s : State) (plan : List ℕ) (u : ℕ) : Type 0 where
  pub asked : AskedEven y t s plan u
  pub side : choice (need y b) y u ≢ u → fills y u ≡ b

-- what it gives: no move, and all as before, where no child is chosen; else the moves that serve the one that is
pub record TurnTaken (b : Bool) (y : Yard) (u : ℕ) (s₀ s : State) (before after : List ℕ) (count : ℕ) : Type 0 where
  pub none : count ≡ 0 → (u ≡ choice (need y b) y u) × (s ≡ s₀) × (after ≡ before)
  pub some : count ≢ 0 → (choice (need y b) y u ≢ u) × Served b y (choice (need y b) y u) s before after count

-- a list of parts does not name c by itself: c is not the topmost node of its part
abbrev pub entered : List ℕ → ℕ → Bool
entered parts c = not (eqb (get_or parts c 0) c)

-- what the loop at u gives, and what balancing u gives, with the children that pass a test
pub record Settled (y : Yard) (u : ℕ) (s : State) (before after : List ℕ) (count : ℕ) : Type 0 where
  pub moves : List Move
  pub settles : Settles fills choice y u moves
  pub made : Made y moves s before after count

pub record Balanced (p : ℕ → Bool) (y : Yard) (u : ℕ) (s : State) (before after : List ℕ) (count : ℕ) : Type 0 where
  pub moves : List Move
  pub balances : BalancesIn p y (u ∷ []) moves
  pub made : Made y moves s before after count

-- the state with what testing a yard leaves in its demands
abbrev pub tested_state : Yard → State → State
tested_state y s = record s { demands = demands_then y s.demands }

-- what is known of the nodes below v, placed beside the demands: the pebbles, for each sign the
-- node itself, and the depths
pub record Placed (pebbles depths : List ℕ) (s₀ s : State) (v : ℕ) : Type 0 where
  pub long : Long s
  pub low : s.demands ≡ s₀.demands
  pub high : (w : ℕ) → w < v → get_or s.pebbles w (pos 0) ≡ pos (get_or pebbles w 0)
  pub lasts : (b : Bool) (w : ℕ) → w < v → get_or (lasts b s) w (pos 0) ≡ pos w
  pub deep : (w : ℕ) → w < v → get_or s.depths w (pos 0) ≡ pos (get_or depths w 0)

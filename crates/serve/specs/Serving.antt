-- What the planner's tables and its state hold of a yard, and what its helpers ask and give. The yard itself is not at hand in the code: a helper
-- asks that there is one, and says what it did for each.
use Rattle.std.specs.Prelude.{◌≡◌, ◌≢◌, Bool, true, false, not, cond, ◌&&◌, List, [], ◌∷◌, ◌++◌, ℕ, ◌+◌, ◌*◌, ◌≤◌, ◌<◌, length, get_or, set, take, drop, replicate, leb, ℤ, pos, nat_abs}
use Rattle.std.specs.Int.Signed.{lt_z}
use Rattle.model.specs.Yard.{Yard, size, max_demand, up, pebble, capacity, below, head_or, is_child, demand, shortest}
use Rattle.model.specs.Judge.{Tree}
use Rattle.model.specs.Push.{Move, run}
use Rattle.model.specs.Plan.{choice}
use Rattle.model.specs.Calls.Answers.{overwrite}
use Rattle.model.specs.Calls.Plans.{bytes}
use Rattle.laws.specs.Choice.{Child, Neediest}
use Rattle.laws.proofs.Demands.{weight}
use Rattle.laws.specs.Algorithms.{crossing, need, Serves}
use Rattle.laws.proofs.Signed.{nextℤ}
use Rattle.laws.proofs.Serve.{Due}
use Rattle.serve.specs.declared.tree.Children.{Children}
use Rattle.serve.specs.declared.state.State.{State}

-- the children of u from number i on, rising; and the lowest of them, or u itself if there is none
abbrev pub is_child_from : List ℕ → ℕ → ℕ → ℕ → Bool
is_child_from ps u i v = (leb i v) && (is_child ps u v)

abbrev pub children_from : List ℕ → ℕ → ℕ → List ℕ
children_from ps u i = below (length ps) (is_child_from ps u i)

pub record Lowest (ps : List ℕ) (u i c : ℕ) : Type 0 where
  pub is : c ≡ head_or u (children_from ps u i)

-- the children of n nodes of which none is linked: each node is its own lowest child
pub record Alone (n : ℕ) (t : Children) : Type 0 where
  pub lowest_long : length t.lowest ≡ 256
  pub next_long : length t.next ≡ 256
  pub first : (u : ℕ) → u < n → get_or t.lowest u 0 ≡ u

-- the children of a tree's nodes, with the nodes from i on linked: a node's lowest child, or
-- itself; the next child of its parent, or the parent itself
pub record Linked (i : ℕ) (ps : List ℕ) (t : Children) : Type 0 where
  pub lowest_long : length t.lowest ≡ 256
  pub next_long : length t.next ≡ 256
  pub first : (u : ℕ) → u < length ps → Lowest ps u i (get_or t.lowest u 0)
  pub next : (c : ℕ) → c < length ps → i ≤ c → up ps c ≢ c → Lowest ps (up ps c) (c + 1) (get_or t.next c 0)

-- with all nodes linked
abbrev pub Tables : List ℕ → Children → Type 0
Tables ps t = Linked 0 ps t

-- with v before the children of p
abbrev pub linked_to : Children → ℕ → ℕ → Children
linked_to t v p = record { lowest = set t.lowest p v; next = set t.next v (get_or t.lowest p 0) }

-- c is the child of u that was served last for a sign: it needs one less since, so no child needs more than one more, and none with a lower number more
pub record LastServed (b : Bool) (y : Yard) (u c : ℕ) : Type 0 where
  pub child : Child y.parents u c
  pub side : need y (not b) c ≡ 0
  pub most : (v : ℕ) → Child y.parents u v → need y b v ≤ need y b c + 1
  pub first : (v : ℕ) → Child y.parents u v → v < c → need y b v ≤ need y b c

-- an entry for the child of u that was served last: u itself before there is one
pub record Last (b : Bool) (y : Yard) (u : ℕ) (entry : ℤ) : Type 0 where
  pub node : ℕ
  pub is : entry ≡ pos node
  pub served : node ≢ u → LastServed b y u node

-- the children that were served last for a sign: filled (true), or drawn from
abbrev pub lasts : Bool → State → List ℤ
lasts b s = cond b s.last_filled s.last_drawn

-- each list of the state has 256 entries
pub record Long (s : State) : Type 0 where
  pub demands : length s.demands ≡ 256
  pub pebbles : length s.pebbles ≡ 256
  pub lasts : (b : Bool) → length (lasts b s) ≡ 256
  pub depths : length s.depths ≡ 256

abbrev pub blank : State
blank = record { demands = replicate 256 (pos 0); pebbles = replicate 256 (pos 0); last_filled = replicate 256 (pos 0); last_drawn = replicate 256 (pos 0); depths = replicate 256 (pos 0) }

-- the state has a node's demand; its pebbles; the child of it that was filled last; the one that
-- was drawn from last; its depth
pub record Kept (y : Yard) (s : State) : Type 0 where
  pub long : Long s
  pub demands : (v : ℕ) → v < size y → get_or s.demands v (pos 0) ≡ demand y v
  pub pebbles : (v : ℕ) → v < size y → get_or s.pebbles v (pos 0) ≡ pos (pebble y v)
  pub lasts : (b : Bool) (u : ℕ) → u < size y → Last b y u (get_or (lasts b s) u (pos 0))
  pub depths : (v : ℕ) → v < size y → get_or s.depths v (pos 0) ≡ pos (capacity y v)

-- an entry of a list of the state in the range of demands
abbrev pub Small : List ℤ → ℕ → Type 0
Small l i = nat_abs (get_or l i (pos 0)) ≤ max_demand

-- a list of the state with an entry one nearer to 0 from one side; of a count, one less (true) or
-- one more
abbrev pub stepped : Bool → ℕ → List ℤ → List ℤ
stepped b i l = set l i (nextℤ b (get_or l i (pos 0)))

-- the pebbles at v, and its depth, in the state
abbrev pub Room : State → ℕ → ℕ → ℕ → Type 0
Room s v p d = (get_or s.pebbles v (pos 0) ≡ pos p) × (get_or s.depths v (pos 0) ≡ pos d) × (p < 256) × (d < 256)

-- the state with one pebble less at v (true), or one more
abbrev pub pebble_counted : Bool → ℕ → State → State
pebble_counted b v s = record s { pebbles = stepped b v s.pebbles }

-- the state with the child c of u picked: its demand is one nearer to 0, and it is the one served last
abbrev pub picked_state : Bool → ℕ → ℕ → State → State
picked_state b u c s = record s {
  demands = stepped b c s.demands;
  last_filled = cond b (set s.last_filled u (pos c)) s.last_filled;
  last_drawn = cond b s.last_drawn (set s.last_drawn u (pos c));
}

-- the state after a move over the edge of v, whose parent is p, away from the root (true) or towards it: v is picked, and the pebble is counted at both
abbrev pub moved_state : Bool → ℕ → ℕ → State → State
moved_state b p v s = pebble_counted (not b) v (pebble_counted b p (picked_state b p v s))

-- after some moves, all of them away from the root or all towards it
unfoldable pub moved_all : Bool → List Move → State → State
moved_all b [] s = s
moved_all b (m ∷ ms) s = moved_all b ms (moved_state b (cond b m.from m.to) (cond b m.to m.from) s)

-- the list with a move over the edge of v, whose parent is p, at place k
abbrev pub recorded : Bool → ℕ → ℕ → ℕ → List ℕ → List ℕ
recorded b p v k plan = set (set plan (2 * k) (cond b p v)) (2 * k + 1) (cond b v p)

-- tables and state of a tree
pub record Describes (y : Yard) (t : Children) (s : State) : Type 0 where
  pub tree : Tree y
  pub tables : Tables y.parents t
  pub kept : Kept y s

-- a demand lies beyond another, away from 0 on the side of the sign wanted: above, where pebbles lack and one is to go away from the root (true), or
-- below, where there are too many
abbrev pub beyond : Bool → ℤ → ℤ → Bool
beyond away d e = cond away (lt_z e d) (lt_z d e)

-- r is the lowest child of u from number low on whose demand lies beyond one, or u itself if there is none
pub record NextBeyond (b : Bool) (y : Yard) (u low : ℕ) (most : ℤ) (r : ℕ) : Type 0 where
  pub passed : (v : ℕ) → Child y.parents u v → low ≤ v → (r ≢ u → v < r) → beyond b (demand y v) most ≡ false
  pub found : r ≢ u → Child y.parents u r × (low ≤ r) × (beyond b (demand y r) most ≡ true)

-- what the choice of a child of u looks at: the demands of u's children, and for each sign the one that was served last
pub record Sees (y : Yard) (t : Children) (s : State) (u : ℕ) : Type 0 where
  pub tree : Tree y
  pub tables : Tables y.parents t
  pub node : u < size y
  pub demands : (v : ℕ) → Child y.parents u v → get_or s.demands v (pos 0) ≡ demand y v
  pub lasts : (b : Bool) → Last b y u (get_or (lasts b s) u (pos 0))

-- what it asks after c was served
pub record AskedAfter (b : Bool) (y : Yard) (t : Children) (s : State) (u c : ℕ) : Type 0 where
  pub sees : Sees y t s u
  pub last : LastServed b y u c

-- the child r of u was picked, or none
abbrev pub Picks : Bool → ℕ → ℕ → State → State → Type 0
Picks b u r before after = (r ≡ u → after ≡ before) × (r ≢ u → after ≡ picked_state b u r before)

-- on the way down at v. Nodes above have picked already, and no pebble has moved yet: the counts are the yard's, and so are the demands and the children served last from v
-- down, where nodes have no more nodes inside than v
pub record Halfway (y : Yard) (t : Children) (s : State) (v : ℕ) : Type 0 where
  pub tree : Tree y
  pub tables : Tables y.parents t
  pub long : Long s
  pub demands : (c : ℕ) → c < size y → weight y.parents c < weight y.parents v → get_or s.demands c (pos 0) ≡ demand y c
  pub pebbles : (u : ℕ) → u < size y → get_or s.pebbles u (pos 0) ≡ pos (pebble y u)
  pub lasts : (b : Bool) (u : ℕ) → u < size y → weight y.parents u ≤ weight y.parents v → Last b y u (get_or (lasts b s) u (pos 0))
  pub depths : (u : ℕ) → u < size y → get_or s.depths u (pos 0) ≡ pos (capacity y u)

-- what filling v (true) or drawing from it (false) asks: that a pebble is due over its edge, and places before `end` for as many moves as there are nodes
-- inside v
pub record AskedFill (b : Bool) (y : Yard) (t : Children) (s : State) (end v : ℕ) : Type 0 where
  pub halfway : Halfway y t s v
  pub due : Due y b v
  pub places : weight y.parents v ≤ end
  pub few : end ≤ 256

-- the list with some moves from place k up to place `end`, all else as it was
abbrev pub written_up_to : ℕ → ℕ → List Move → List ℕ → List ℕ
written_up_to k end ms list = take (2 * k) list ++ (bytes ms ++ drop (2 * end) list)

-- what it gives: the moves of Algorithm 2 or 3 stand from place k up to `end`; and where the state was s₀ with v picked, with the count at v's parent, which is
-- left to the caller, it is s₀ after those moves
pub record Filled (b : Bool) (y : Yard) (end v : ℕ) (s s' : State) (list list' : List ℕ) (k : ℕ) : Type 0 where
  pub long : length list ≡ 512
  pub moves : List Move
  pub serves : Serves choice y b v moves
  pub counted : k + length moves ≡ end
  pub written : list' ≡ written_up_to k end moves list
  pub state : (s₀ : State) → s ≡ picked_state b (up y.parents v) v s₀ → pebble_counted b (up y.parents v) s' ≡ moved_all b moves s₀

-- what clearing v gives: the moves that make way for the one over its edge, which is the last of the filling. The state is the one after them, but that the pebble
-- which then comes to v, or goes, is counted there already
pub record Cleared (b : Bool) (y : Yard) (end v : ℕ) (s s' : State) (list list' : List ℕ) (k : ℕ) : Type 0 where
  pub moves : List Move
  pub serves : Serves choice y b v (moves ++ (crossing y.parents b v ∷ []))
  pub counted : k + length moves ≡ end
  pub written : list' ≡ written_up_to k end moves list
  pub state : pebble_counted b v s' ≡ moved_all b moves s

-- what a turn at u asks that fills v or draws from it: that no child of u needs more, the state with v picked, and room in the plan
pub record AskedServe (b : Bool) (y : Yard) (t : Children) (s₀ s : State) (plan : List ℕ) (u v : ℕ) : Type 0 where
  pub described : Describes y t s₀
  pub due : Due y b v
  pub chosen : Neediest (need y b) y u v
  pub picked : s ≡ picked_state b u v s₀
  pub room : 2 * shortest y ≤ length plan

-- moves that were made, written at the front of the list, and counted
pub record Made (y : Yard) (ms : List Move) (s : State) (before after : List ℕ) (count : ℕ) : Type 0 where
  pub kept : Kept (run y ms) s
  pub written : after ≡ overwrite (bytes ms) before
  pub counted : count ≡ length ms

-- what it gives: the moves of Algorithm 2 or 3
pub record Served (b : Bool) (y : Yard) (v : ℕ) (s : State) (before after : List ℕ) (count : ℕ) : Type 0 where
  pub moves : List Move
  pub serves : Serves choice y b v moves
  pub made : Made y moves s before after count

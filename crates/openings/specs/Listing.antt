-- What marking the edges and listing the openings ask and give. In the lists the yard itself is not at hand: a helper asks that there is one, and says what it did for each.
use Rattle.std.specs.Prelude.{◌≡◌, Bool, true, ◌&&◌, List, ◌++◌, map, ℕ, suc, ◌+◌, ◌*◌, ◌≤◌, ◌<◌, length, get_or, take, leb, ℤ, pos, None}
use Rattle.std.proofs.Math.Option.{Option}
use Rattle.model.specs.Yard.{Yard, size, parent, below, head_or, is_child, demand, Matched}
use Rattle.model.specs.Judge.{Fault, fault, unless, Tree}
use Rattle.model.specs.Push.{Move, push}
use Rattle.model.specs.Openings.{opening, openings_from, openings}
use Rattle.model.specs.Calls.Plans.{bytes}
use Rattle.laws.proofs.Ranges.{collect}
use Rattle.laws.specs.Choice.{Child}
use Rattle.openings.specs.declared.edges.Marks.{Marks}
use Rattle.openings.specs.Ways.{way_of}

-- the front of a list holds the demands
abbrev pub Demands : Yard → List ℤ → Type 0
Demands y list = (length list ≡ 256) × ((v : ℕ) → v < size y → get_or list v (pos 0) ≡ demand y v)

-- v is a child of u to which an opening goes; from number i on; and the lowest such child, or u itself if there is none
abbrev pub down_to : Yard → ℕ → ℕ → Bool
down_to y u v = (is_child y.parents u v) && (opening y (push u v))

abbrev pub down_from : Yard → ℕ → ℕ → ℕ → Bool
down_from y u i v = (leb i v) && (down_to y u v)

pub record Next (y : Yard) (u i c : ℕ) : Type 0 where
  pub is : c ≡ head_or u (below (size y) (down_from y u i))

-- the edges of the nodes from i on are marked: the opening over a node's edge; the lowest child
-- to which an opening goes from a node, or the node itself; for such a child the next one of its
-- parent, or the parent itself
pub record Marked (i : ℕ) (y : Yard) (t : Marks) : Type 0 where
  pub ways_long : length t.ways ≡ 256
  pub lowest_long : length t.down.lowest ≡ 256
  pub next_long : length t.down.next ≡ 256
  pub way : (v : ℕ) → v < size y → i ≤ v → get_or t.ways v None ≡ way_of y v
  pub first : (u : ℕ) → u < size y → Next y u i (get_or t.down.lowest u 0)
  pub next : (c : ℕ) → c < size y → i ≤ c → opening y (push (parent y c) c) ≡ true → Next y (parent y c) (c + 1) (get_or t.down.next c 0)

-- what the walks look at
pub record Sees (y : Yard) (t : Marks) : Type 0 where
  pub tree : Tree y
  pub matched : Matched y
  pub marked : Marked 0 y t

-- moves at the front of a list of 512 bytes, whatever lies behind them, and their number
pub record Holds (ms : List Move) (list : List ℕ) (k : ℕ) : Type 0 where
  pub room : length list ≡ 512
  pub front : take (2 * k) list ≡ bytes ms
  pub counted : k ≡ length ms

-- the openings from the nodes below a, and those from a to the nodes below i
abbrev pub up_to : Yard → ℕ → ℕ → List Move
up_to y a i = collect a (openings_from y) ++ map (push a) (below i (λ b. opening y (push a b)))

-- c is the lowest child of a from number i on to which one goes; from there to the end every opening from a goes to a child
pub record AskedChildren (y : Yard) (t : Marks) (list : List ℕ) (a i c end k : ℕ) : Type 0 where
  pub sees : Sees y t
  pub node : a < size y
  pub at : Next y a i c
  pub low : i ≤ end
  pub high : end ≤ size y
  pub only : (b : ℕ) → i ≤ b → b < end → opening y (push a b) ≡ true → Child y.parents a b
  pub holds : Holds (up_to y a i) list k

pub record ListedChildren (y : Yard) (list : List ℕ) (a c end k : ℕ) : Type 0 where
  pub at : Next y a end c
  pub holds : Holds (up_to y a end) list k

pub record AskedFrom (y : Yard) (t : Marks) (parents list : List ℕ) (a n k : ℕ) : Type 0 where
  pub own : parents ≡ y.parents
  pub sees : Sees y t
  pub node : a < size y
  pub all : n ≡ size y
  pub holds : Holds (collect a (openings_from y)) list k

abbrev pub ListedFrom : Yard → List ℕ → ℕ → ℕ → Type 0
ListedFrom y list a k = Holds (collect (suc a) (openings_from y)) list k

pub record AskedAll (y : Yard) (t : Marks) (parents list : List ℕ) (n : ℕ) : Type 0 where
  pub own : parents ≡ y.parents
  pub sees : Sees y t
  pub all : n ≡ size y
  pub long : length list ≡ 512

abbrev pub ListedAll : Yard → List ℕ → ℕ → Type 0
ListedAll y list k = Holds (openings y) list k

-- refusal 8, of a list with fewer than two bytes for each of so many moves
abbrev pub room_fault : ℕ → ℕ → Option Fault
room_fault count room = unless (leb (2 * count) room) (fault 8 count)

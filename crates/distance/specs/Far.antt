-- Distances from a node that are known in part, and in full.
use Rattle.std.specs.Prelude.{◌≡◌, ◌≢◌, Bool, true, ◌&&◌, List, ℕ, zero, suc, ◌≤◌, ◌<◌, length, get_or, leb, ltb}
use Rattle.model.specs.Yard.{Yard, size, up, inside}
use Rattle.model.specs.Judge.{Tree}
use Rattle.model.specs.Distance.{distance}
use Rattle.model.specs.Calls.Answers.{Answer, answer}
use Rattle.model.specs.Calls.Distances.{Nearest, nearestOf, empty_fault}

-- a node of a tree with these parents
pub record From (y : Yard) (parents : List ℕ) (a : ℕ) : Type 0 where
  pub tree : Tree y
  pub same : y.parents ≡ parents
  pub node : a < size y

-- an entry that is not known yet, and a list of nothing else
abbrev pub unknown : ℕ
unknown = 256

abbrev pub Unknown : List ℕ → Type 0
Unknown list = (v : ℕ) → v < length list → get_or list v 0 ≡ unknown

-- a list of one entry for each of these nodes, known or not
pub record Entries (parents list : List ℕ) : Type 0 where
  pub long : length list ≡ length parents
  pub most : (v : ℕ) → v < length parents → get_or list v 0 ≤ unknown

-- from v one comes to u by so many steps up
pub data Up (parents : List ℕ) : ℕ → ℕ → ℕ → Type 0 where
  here : {v : ℕ} → Up parents v zero v
  on : {v k u : ℕ} → Up parents (up parents v) k u → Up parents v (suc k) u

-- from each node that is known one comes to the root
pub record Rooted (parents list : List ℕ) (root : ℕ) : Type 0 where
  pub lt : root < length parents
  pub own : up parents root ≡ root
  pub leads : (v : ℕ) → v < length parents → get_or list v 0 ≢ unknown → (k : ℕ) × Up parents v k root

-- from v one comes to a node that is known, by at most so many steps
pub record Climbs (parents list : List ℕ) (v most : ℕ) : Type 0 where
  pub to : ℕ
  pub steps : ℕ
  pub up : Up parents v steps to
  pub lt : to < length parents
  pub known : get_or list to 0 ≢ unknown
  pub few : steps ≤ most

-- then v is known too, and each node that was; and still one comes from each to the root
pub record Written (parents : List ℕ) (v : ℕ) (before after : List ℕ) : Type 0 where
  pub entries : Entries parents after
  pub stays : (x : ℕ) → get_or before x 0 ≢ unknown → get_or after x 0 ≢ unknown
  pub met : get_or after v 0 ≢ unknown
  pub rooted : (root : ℕ) → Rooted parents before root → Rooted parents after root

-- what is known is the distance from a, and the nodes on the way from a to the root are known
pub record Partly (y : Yard) (a : ℕ) (list : List ℕ) : Type 0 where
  pub long : length list ≡ size y
  pub known : (v : ℕ) → v < size y → get_or list v 0 ≢ unknown → get_or list v 0 ≡ distance y a v
  pub on_way : (v : ℕ) → v < size y → inside y.parents v a ≡ true → get_or list v 0 ≢ unknown

-- the distances of all nodes from a
abbrev pub Distances : Yard → ℕ → List ℕ → Type 0
Distances y a list = (v : ℕ) → v < size y → get_or list v 0 ≡ distance y a v

-- what looking for pebbles asks: the distances of all nodes of a tree from one of them
pub record Asked (y : Yard) (a : ℕ) (pebbles far : List ℕ) : Type 0 where
  pub tree : Tree y
  pub node : a < size y
  pub counts : y.pebbles ≡ pebbles
  pub distances : Distances y a far

-- r is the least distance of the pebbles on the first n nodes, unknown if there are none
pub record Least (pebbles far : List ℕ) (n r : ℕ) : Type 0 where
  pub few : r ≤ unknown
  pub least : (v : ℕ) → v < n → 0 < get_or pebbles v 0 → r ≤ get_or far v 0
  pub met : r ≢ unknown → (v : ℕ) × (v < n) × (0 < get_or pebbles v 0) × (get_or far v 0 ≡ r)

-- v holds a pebble at most so far away
abbrev pub is_within : List ℕ → List ℕ → ℕ → ℕ → Bool
is_within pebbles far reach v = (ltb 0 (get_or pebbles v 0)) && (leb (get_or far v 0) reach)

-- what the nearest call answers to a node of a tree: 22 if the yard holds no pebble
abbrev pub nearest_or_none : Yard → ℕ → Answer Nearest
nearest_or_none y a = answer (empty_fault y) (nearestOf y a)

-- What naming the parts asks and gives: a list leads each node up its part, and in the end each node to the topmost at once.
use Rattle.std.specs.Prelude.{◌≡◌, ◌≢◌, cond, List, ℕ, ◌≤◌, ◌<◌, length, get_or, ℤ, pos, nat_abs, eqb}
use Rattle.model.specs.Yard.{Yard, size, demand, Matched}
use Rattle.model.specs.Judge.{Tree}
use Rattle.model.specs.Parts.{topmost}
use Rattle.laws.proofs.Demands.{weight}

-- where a climb from v goes on: v itself where the edge above it is cut, else its parent p
abbrev pub onward : ℕ → ℕ → ℤ → ℕ
onward v p demand = cond (eqb (nat_abs demand) 0) v p

-- that is the entry of each node below k
pub record Cut (parents : List ℕ) (demands : List ℤ) (parts : List ℕ) (k : ℕ) : Type 0 where
  pub long : length parts ≡ length parents
  pub entries : (v : ℕ) → v < k → get_or parts v 0 ≡ onward v (get_or parents v 0) (get_or demands v (pos 0))

-- v's entry may be w, a node of the same part: v itself only where v is the topmost, else a node with more nodes inside
pub record Lead (y : Yard) (v w : ℕ) : Type 0 where
  pub node : w < size y
  pub same : topmost y w ≡ topmost y v
  pub end : w ≡ v → topmost y v ≡ v
  pub up : w ≢ v → weight y.parents v < weight y.parents w

-- a list of such entries, of a tree with as many pebbles as targets
pub record Leads (y : Yard) (parts : List ℕ) : Type 0 where
  pub tree : Tree y
  pub matched : Matched y
  pub long : length parts ≡ size y
  pub lead : (v : ℕ) → v < size y → Lead y v (get_or parts v 0)

-- what naming one node asks
pub record AskedName (y : Yard) (parts : List ℕ) (v : ℕ) : Type 0 where
  pub leads : Leads y parts
  pub node : v < size y

-- what it asks once v's topmost node is found, with the number of steps to it
pub record AskedShort (y : Yard) (parts : List ℕ) (v top steps : ℕ) : Type 0 where
  pub asked : AskedName y parts v
  pub found : top ≡ topmost y v
  pub already : steps ≡ 0 → get_or parts v 0 ≡ topmost y v

-- what it gives: v's entry is its topmost node, and so it stays where it was
pub record Named (y : Yard) (before after : List ℕ) (v : ℕ) : Type 0 where
  pub leads : Leads y after
  pub here : get_or after v 0 ≡ topmost y v
  pub stay : (w : ℕ) → get_or before w 0 ≡ topmost y w → get_or after w 0 ≡ topmost y w

-- what naming all asks: the parents and demands of a tree with as many pebbles as targets
pub record AskedNames (y : Yard) (parents : List ℕ) (demands : List ℤ) (parts : List ℕ) : Type 0 where
  pub tree : Tree y
  pub matched : Matched y
  pub parents_are : parents ≡ y.parents
  pub demands_are : (v : ℕ) → v < size y → get_or demands v (pos 0) ≡ demand y v
  pub demands_long : size y ≤ length demands
  pub long : length parts ≡ size y

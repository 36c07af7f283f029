-- Request 2.11, two pushers at work. Where every edge (track) of demand 0 is cut, the yard falls into parts that cannot disturb one another: no pebble is due from
-- one to another. Each is planned as a yard of its own.
use Rattle.std.specs.Prelude.{Bool, cond, ℕ, zero, suc, length, get_or, eqb}
use mathlib.Core.List.{List, map, flatten}
use Rattle.model.specs.Yard.{Yard, yard_of, size, parent, below, imbalance}
use Rattle.model.specs.Push.{Move}
use Rattle.model.specs.Plan.{plan}
use Rattle.model.specs.Calls.Answers.{range}

-- the edge above v is cut: its demand is 0. So the root, above which there is none, counts as cut off where there are as many pebbles as targets
abbrev pub is_cut : Yard → ℕ → Bool
is_cut y v = eqb (imbalance y v) 0

-- climbing from v by at most k parents, as far as no edge is cut
unfoldable pub climbed : ℕ → Yard → ℕ → ℕ
climbed zero y v = v
climbed (suc k) y v = cond (is_cut y v) v (climbed k y (parent y v))

-- a part is named by its topmost node: the topmost node of v's part is where that climb ends, by as many steps as there are nodes
unfoldable pub topmost : Yard → ℕ → ℕ
topmost y v = climbed (size y) y v

-- v lies in the part named t
abbrev pub in_part : Yard → ℕ → ℕ → Bool
in_part y t v = eqb (topmost y v) t

-- the parts' names in rising number: the nodes that are the topmost of their own part
unfoldable pub tops : Yard → List ℕ
tops y = below (size y) (λ v. in_part y v v)

-- counts at the nodes that pass a test, and 0 at the others
unfoldable pub masked : (ℕ → Bool) → List ℕ → List ℕ
masked p counts = map (λ v. cond (p v) (get_or counts v 0) 0) (range 0 (length counts))

-- the yard with the pebbles and targets at those nodes alone
abbrev pub masking : (ℕ → Bool) → Yard → Yard
masking p y = yard_of y.parents (masked p y.pebbles) (masked p y.targets) y.depths

-- a part as a yard of its own, under the yard's numbers: the same tree, with nothing but the part's own pebbles and targets. The nodes outside have nothing to do in
-- it: inside the part each demand is the yard's, elsewhere it is 0 (`part_demand`), so balancing makes no move before it comes to the part's topmost node, and
-- none outside the part (`part_from_top`, `part_plan`)
abbrev pub part_yard : Yard → ℕ → Yard
part_yard y t = masking (in_part y t) y

-- the parts' plans, each directly behind that of the part before
unfoldable pub parts_plan : Yard → List Move
parts_plan y = flatten (map (λ t. plan (part_yard y t)) (tops y))

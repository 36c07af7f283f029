-- The plan of the source's Algorithms 1 to 4, with the choices of document 01 ('The planner') and request 2.6. Each step reads the yard as it then is, so demands
-- follow every move (Algorithm 4). The numbers k, t and d bound the depth of calls, the turns of a loop and the depth of the tree: on a tree
-- with as many pebbles as targets `enough` never runs out, and a larger one changes nothing (`plan_by_within`).
use Rattle.std.specs.Prelude.{Bool, true, false, cond, ◌&&◌, List, [], ◌∷◌, ◌++◌, ℕ, zero, suc, ◌+◌, ltb}
use Rattle.model.specs.Yard.{Yard, size, parent, full, held, below, head_or, is_child, children, root, lacking, surplus, imbalance, shortest}
use Rattle.model.specs.Push.{Move, push, run}

-- the children of u that need something, rising
unfoldable pub needy : (ℕ → ℕ) → Yard → ℕ → List ℕ
needy need y u = below (size y) (λ v. (is_child y.parents u v) && (ltb 0 (need v)))

-- whether a list has an entry
abbrev pub nonempty : List ℕ → Bool
nonempty [] = false
nonempty (v ∷ vs) = true

-- a rule of choice: by what each node needs, the child of u that is served wherever one is chosen
abbrev pub Rule : Type 0
Rule = (ℕ → ℕ) → Yard → ℕ → ℕ

-- the rule of document 01, before request 2.6: the lowest-numbered child that needs something
unfoldable pub lowest_child : Rule
lowest_child need y u = head_or u (needy need y u)

-- of v and the nodes behind it the one with the greatest need, the first among equals
unfoldable pub greatest : (ℕ → ℕ) → ℕ → List ℕ → ℕ
greatest need v [] = v
greatest need v (w ∷ ws) = greatest need (cond (ltb (need v) (need w)) w v) ws

-- request 2.6's rule: the child whose demand, of the sign wanted, is farthest from 0, the lowest-numbered among equals
unfoldable pub neediest_child : Rule
neediest_child need y u = elim (needy need y u) [ [] ↦ u | (v ∷ vs) ↦ greatest need v vs ]

-- the rule of the planner
unfoldable pub choice : Rule
choice = neediest_child

-- the side of a turn at u: whether it fills a child from u, or else draws from a child into u
abbrev pub Side : Type 0
Side = Yard → ℕ → Bool

-- request 2.10, sidings several cars deep: it fills if u holds a pebble and some child lacks one. Before it filled if u held a pebble (`held`)
unfoldable pub fills : Side
fills y u = (held y u) && (nonempty (needy (lacking y) y u))

-- f at each of some nodes, one after another, each in the yard that the one before leaves
unfoldable pub each : (Yard → ℕ → List Move) → Yard → List ℕ → List Move
each f y [] = []
each f y (v ∷ vs) = let ms = f y v in ms ++ each f (run y ms) vs

module _ (rule : Rule) where
  -- Algorithm 2, filling v from its parent: a full v is cleared first (one with a place is not, 2.10); to clear it, fill one of its children with
  -- a positive demand
  unfoldable mutual
    pub inject : ℕ → Yard → ℕ → List Move
    inject zero y v = []
    inject (suc k) y v = elim (full y v) [ true ↦ clear k y v | false ↦ [] ] ++ (push (parent y v) v ∷ [])

    pub clear : ℕ → Yard → ℕ → List Move
    clear zero y v = []
    clear (suc k) y v = inject k y (rule (lacking y) y v)

  -- Algorithm 3, drawing from v into its parent: into an empty v one is drawn first, from a child with a negative demand
  unfoldable pub extract : ℕ → Yard → ℕ → List Move
  extract zero y v = []
  extract (suc k) y v = elim (held y v) [ true ↦ [] | false ↦ extract k y (rule (surplus y) y v) ] ++ (push v (parent y v) ∷ [])

module _ (side : Side) (rule : Rule) where
  -- Algorithm 1, a turn of its loop: fill a child from u, or draw from a child into u
  unfoldable pub turn : ℕ → Yard → ℕ → List Move
  turn k y u = elim (side y u) [ true ↦ inject rule k y (rule (lacking y) y u) | false ↦ extract rule k y (rule (surplus y) y u) ]

  -- the loop: while a child has a demand other than 0
  unfoldable pub settle : ℕ → ℕ → Yard → ℕ → List Move
  settle k zero y u = []
  settle k (suc t) y u = elim (needy (imbalance y) y u) [ [] ↦ [] | (v ∷ vs) ↦ (let ms = turn k y u in ms ++ settle k t (run y ms) u) ]

  -- balancing u: the loop, and after it has ended the children in rising number
  unfoldable pub balance : ℕ → ℕ → Yard → ℕ → List Move
  balance k zero y u = []
  balance k (suc d) y u = let ms = settle k k y u in ms ++ each (balance k d) (run y ms) (children y u)

  -- starting at the root
  unfoldable pub plan_within : ℕ → Yard → List Move
  plan_within k y = balance k k y (root y)

-- two calls for each node on the way down (one fills, one clears), and a turn for each move
abbrev pub enough : Yard → ℕ
enough y = size y + size y + shortest y

-- the plan under a side of turns and a rule of choice, and the plan
unfoldable pub plan_by : Side → Rule → Yard → List Move
plan_by side rule y = plan_within side rule (enough y) y

unfoldable pub plan : Yard → List Move
plan y = plan_by fills choice y

-- The yard of document 01 ('What the yard is', 'Accounts'): a rooted tree with pebbles (cars) and targets at its nodes (berths),
-- and the demand (account) of each node.
use Rattle.std.specs.Prelude.{◌≡◌, Bool, true, false, not, cond, ◌&&◌, ◌||◌, List, [], ◌∷◌, ◌++◌, map, ℕ, zero, suc, ◌+◌, ◌-◌, ◌*◌, ◌<◌, max, length, get_or, leb, ltb, eqb, ℤ, pos, ◌+ℤ◌}
use Rattle.std.proofs.Math.IntN.{sub_ℕ}

-- four lists give for each node its parent, how many pebbles it holds, how many targets it has, and how deep it is: how many it has room for (2.10)
pub record Yard : Type 0 where
  pub parents : List ℕ
  pub pebbles : List ℕ
  pub targets : List ℕ
  pub depths : List ℕ

abbrev pub yard_of : List ℕ → List ℕ → List ℕ → List ℕ → Yard
yard_of parents pebbles targets depths = record { parents = parents; pebbles = pebbles; targets = targets; depths = depths }

-- n, the parent list's length
abbrev pub size : Yard → ℕ
size y = length y.parents

-- the largest yard
abbrev pub max_size : ℕ
max_size = 256

-- the deepest node
abbrev pub max_depth : ℕ
max_depth = 8

-- the largest demand, its sign dropped: demands lie from −2,048 to 2,048 (2.10)
abbrev pub max_demand : ℕ
max_demand = 2_048

-- a fresh yard state: one node, its own parent, with no pebble and no target, of depth 1
abbrev pub fresh : Yard
fresh = yard_of (0 ∷ []) (0 ∷ []) (0 ∷ []) (1 ∷ [])

-- the parent of v in a list of parents, and in a yard
abbrev pub up : List ℕ → ℕ → ℕ
up parents v = get_or parents v 0

abbrev pub parent : Yard → ℕ → ℕ
parent y v = up y.parents v

abbrev pub pebble : Yard → ℕ → ℕ
pebble y v = get_or y.pebbles v 0

abbrev pub target : Yard → ℕ → ℕ
target y v = get_or y.targets v 0

-- how many pebbles a node has room for: its depth (2.10)
abbrev pub capacity : Yard → ℕ → ℕ
capacity y v = get_or y.depths v 0

-- all depths are 1
abbrev pub Shallow : Yard → Type 0
Shallow y = (v : ℕ) → v < size y → capacity y v ≡ 1

abbrev pub full : Yard → ℕ → Bool
full y v = leb (capacity y v) (pebble y v)

abbrev pub held : Yard → ℕ → Bool
held y v = ltb 0 (pebble y v)

-- the yard with other pebbles
abbrev pub holding : Yard → List ℕ → Yard
holding y pebbles = yard_of y.parents pebbles y.targets y.depths

-- 1 for a test that passes, 0 for one that fails
abbrev pub one : Bool → ℕ
one true = 1
one false = 0

-- the sum of f over the numbers below n
unfoldable pub sum : ℕ → (ℕ → ℕ) → ℕ
sum zero f = 0
sum (suc n) f = sum n f + f n

-- the numbers below n that pass a test, rising
unfoldable pub below : ℕ → (ℕ → Bool) → List ℕ
below zero p = []
below (suc n) p = below n p ++ cond (p n) (n ∷ []) []

-- the first of a list, or else d
abbrev pub head_or : ℕ → List ℕ → ℕ
head_or d [] = d
head_or d (v ∷ vs) = v

-- the lowest number below n that passes a test, or n
abbrev pub lowest : ℕ → (ℕ → Bool) → ℕ
lowest n p = head_or n (below n p)

-- the largest f at a number below n
unfoldable pub most : ℕ → (ℕ → ℕ) → ℕ
most zero f = 0
most (suc n) f = max (most n f) (f n)

-- v is a child of u: u is its parent, and not v itself
abbrev pub is_child : List ℕ → ℕ → ℕ → Bool
is_child parents u v = (eqb (up parents v) u) && (not (eqb v u))

abbrev pub children : Yard → ℕ → List ℕ
children y u = below (size y) (is_child y.parents u)

-- the root is the one node that is its own parent
unfoldable pub roots : List ℕ → List ℕ
roots parents = below (length parents) (λ v. eqb (up parents v) v)

abbrev pub root : Yard → ℕ
root y = head_or 0 (roots y.parents)

-- climbing from v, by v itself and k parents, meets t
unfoldable pub climbs : ℕ → List ℕ → ℕ → ℕ → Bool
climbs zero parents v t = eqb v t
climbs (suc k) parents v t = (eqb v t) || (climbs k parents (up parents v) t)

-- v lies in the subtree of t: t is v, or is met climbing from v by as many steps as there are nodes
unfoldable pub inside : List ℕ → ℕ → ℕ → Bool
inside parents t v = climbs (length parents) parents v t

-- the sum of f over the subtree of t
unfoldable pub subtotal : List ℕ → (ℕ → ℕ) → ℕ → ℕ
subtotal parents f t = sum (length parents) (λ v. one (inside parents t v) * f v)

abbrev pub targets_in : Yard → ℕ → ℕ
targets_in y t = subtotal y.parents (target y) t

abbrev pub pebbles_in : Yard → ℕ → ℕ
pebbles_in y t = subtotal y.parents (pebble y) t

-- equation 1: the demand (account) of v is the targets minus the pebbles of its subtree
abbrev pub demand : Yard → ℕ → ℤ
demand y v = sub_ℕ (targets_in y v) (pebbles_in y v)

-- equation 2 (request 2.3), of any list of signed numbers, at v: its entry there is v's target minus v's pebble, plus the entries of v's children
unfoldable pub sumℤ : List ℤ → ℤ
sumℤ [] = pos 0
sumℤ (k ∷ ks) = k +ℤ sumℤ ks

abbrev pub entry : List ℤ → ℕ → ℤ
entry ks v = get_or ks v (pos 0)

abbrev pub Equation2 : Yard → List ℤ → ℕ → Type 0
Equation2 y ks v = entry ks v ≡ sub_ℕ (target y v) (pebble y v) +ℤ sumℤ (map (entry ks) (children y v))

-- the demand's two parts, of which one is 0: the pebbles that the subtree lacks (a positive demand), and those that it has too many (a negative one)
abbrev pub lacking : Yard → ℕ → ℕ
lacking y v = targets_in y v - pebbles_in y v

abbrev pub surplus : Yard → ℕ → ℕ
surplus y v = pebbles_in y v - targets_in y v

-- the size of the demand, its sign dropped
abbrev pub imbalance : Yard → ℕ → ℕ
imbalance y v = lacking y v + surplus y v

-- the shortest length ('Accounts', Theorem 14): the sum of the sizes of all demands
unfoldable pub shortest : Yard → ℕ
shortest y = sum (size y) (imbalance y)

-- the number of pebbles, and of targets
abbrev pub pebbleCount : Yard → ℕ
pebbleCount y = sum (size y) (pebble y)

abbrev pub targetCount : Yard → ℕ
targetCount y = sum (size y) (target y)

-- as many pebbles as targets
abbrev pub Matched : Yard → Type 0
Matched y = pebbleCount y ≡ targetCount y

-- The event call (requests 2.5 and 2.8): a pebble arrives or leaves, a target is set or cleared, and the demand list, which must be the yard's, is brought
-- up to date.
use Rattle.std.specs.Prelude.{◌≡◌, Bool, true, not, cond, List, [], ◌∷◌, ◌++◌, map, ℕ, ◌+◌, ◌-◌, length, get_or, set, ltb, eqb, ℤ, pos, negsuc}
use Rattle.std.proofs.Math.Option.{Option}
use Rattle.std.proofs.Math.IntN.{suc_ℤ, pred_ℤ}
use Rattle.model.specs.declared.Event.{Event}
use Rattle.model.specs.declared.Event.TheVariants.{PebbleArrives, PebbleLeaves, TargetSet, TargetCleared}
use Rattle.model.specs.Yard.{Yard, yard_of, size, pebble, target, capacity, below, inside, demand, entry}
use Rattle.model.specs.Judge.{Fault, fault, first_of, unless, at_lowest, judge, node_fault}
use Rattle.model.specs.Calls.Answers.{lent, range}
use Rattle.model.specs.Calls.Demands.{demands_of}

-- one more, and one less, at a node of a list of counts
abbrev pub oneMore : List ℕ → ℕ → List ℕ
oneMore list v = set list v (get_or list v 0 + 1)

abbrev pub oneLess : List ℕ → ℕ → List ℕ
oneLess list v = set list v (get_or list v 0 - 1)

-- an event at v alters one mark: the pebbles and the targets then, and the yard
abbrev pub pebbles_after : Yard → Event → ℕ → List ℕ
pebbles_after y PebbleArrives v = oneMore y.pebbles v
pebbles_after y PebbleLeaves v = oneLess y.pebbles v
pebbles_after y TargetSet v = y.pebbles
pebbles_after y TargetCleared v = y.pebbles

abbrev pub targets_after : Yard → Event → ℕ → List ℕ
targets_after y PebbleArrives v = y.targets
targets_after y PebbleLeaves v = y.targets
targets_after y TargetSet v = oneMore y.targets v
targets_after y TargetCleared v = oneLess y.targets v

unfoldable pub altered : Yard → Event → ℕ → Yard
altered y e v = yard_of y.parents (pebbles_after y e v) (targets_after y e v) y.depths

-- an entry that it changes, by one: a demand is targets minus pebbles
abbrev pub changed : Event → ℤ → ℤ
changed PebbleArrives k = pred_ℤ k
changed PebbleLeaves k = suc_ℤ k
changed TargetSet k = suc_ℤ k
changed TargetCleared k = pred_ℤ k

-- those are the entries on the way from v to the root, of the nodes in whose subtree v lies; the others stay
abbrev pub entry_after : Yard → Event → ℕ → List ℤ → ℕ → ℤ
entry_after y e v list u = cond (inside y.parents u v) (changed e (entry list u)) (entry list u)

unfoldable pub demands_after : Yard → Event → ℕ → List ℤ → List ℤ
demands_after y e v list = map (entry_after y e v list) (range 0 (size y))

-- 20: no room for the pebble or the target that comes, or none to take
abbrev pub possible : Yard → Event → ℕ → Bool
possible y PebbleArrives v = ltb (pebble y v) (capacity y v)
possible y PebbleLeaves v = ltb 0 (pebble y v)
possible y TargetSet v = ltb (target y v) (capacity y v)
possible y TargetCleared v = ltb 0 (target y v)

-- 20 (with request 2.10), there is none to take, or no room for one more
abbrev pub already_fault : Yard → Event → ℕ → Option Fault
already_fault y e v = unless (possible y e v) (fault 20 0)

-- two signed numbers differ
abbrev pub differ : ℤ → ℤ → Bool
differ (pos a) (pos b) = not (eqb a b)
differ (pos a) (negsuc b) = true
differ (negsuc a) (pos b) = true
differ (negsuc a) (negsuc b) = not (eqb a b)

-- 23 (request 2.8), an entry of the list is not the demand of its node; at the lowest such node
abbrev pub stale : Yard → List ℤ → ℕ → Bool
stale y list u = differ (entry list u) (demand y u)

abbrev pub stale_fault : Yard → List ℤ → Option Fault
stale_fault y list = at_lowest 23 (below (size y) (stale y list))

-- the tests in their order: 1 to 6, 2 for a demand list of another length than n, 19, 20; then 23, where request 2.5 had 21
abbrev pub ready_tests : Yard → List ℤ → Event → ℕ → List (Option Fault)
ready_tests y list e v = judge y ∷ unless (eqb (length list) (size y)) (fault 2 0) ∷ node_fault y v ∷ already_fault y e v ∷ []

abbrev pub event_tests : Yard → List ℤ → Event → ℕ → List (Option Fault)
event_tests y list e v = ready_tests y list e v ++ (stale_fault y list ∷ [])

unfoldable pub event_fault : Yard → List ℤ → Event → ℕ → Option Fault
event_fault y list e v = first_of (event_tests y list e v)

-- what each of the three lent lists then holds
abbrev pub event_pebbles : Yard → List ℤ → Event → ℕ → List ℕ
event_pebbles y list e v = lent (event_fault y list e v) (pebbles_after y e v) y.pebbles

abbrev pub event_targets : Yard → List ℤ → Event → ℕ → List ℕ
event_targets y list e v = lent (event_fault y list e v) (targets_after y e v) y.targets

abbrev pub event_demands : Yard → List ℤ → Event → ℕ → List ℤ
event_demands y list e v = lent (event_fault y list e v) (demands_after y e v list) list

-- Runs of events. The keeper's console holds a yard and a demand list; it is right if the list belongs to the yard
pub record Console : Type 0 where
  pub yard : Yard
  pub demands : List ℤ

abbrev pub console : Yard → List ℤ → Console
console y list = record { yard = y; demands = list }

abbrev pub Right : Console → Type 0
Right c = c.demands ≡ demands_of c.yard

-- an event at a node
pub record Happening : Type 0 where
  pub event : Event
  pub node : ℕ

abbrev pub happens : Event → ℕ → Happening
happens e v = record { event = e; node = v }

-- how the call answers it, and what it leaves in the console
unfoldable pub refusal_of : Console → Happening → Option Fault
refusal_of c h = event_fault c.yard c.demands h.event h.node

unfoldable pub leaves : Console → Happening → Console
leaves c h =
    console
    (yard_of c.yard.parents (event_pebbles c.yard c.demands h.event h.node) (event_targets c.yard c.demands h.event h.node) c.yard.depths)
    (event_demands c.yard c.demands h.event h.node)

-- each event gets what the one before left, after a refusal too
unfoldable pub run_leaves : Console → List Happening → Console
run_leaves c [] = c
run_leaves c (h ∷ hs) = run_leaves (leaves c h) hs

-- Entries that differ, by their bits, and entries that step on the way to the root: the list is then the one that the event leaves.
use mathlib.Core.Path.{◌≡◌, refl, sym, ap, ◌∙◌}
use mathlib.Core.Logic.{◌≢◌}
use mathlib.Core.Bool.{Bool, true, false, cond}
use mathlib.Core.List.{List}
use Prim.Native.Nat.{ℕ, ◌≤◌, ◌<◌, ◌^◌}
use native.Mathlib.Omega.{arith}
use lib.ListN.{length}
use lib.IntN.{ℤ, pos, negsuc, nat_abs, suc_ℤ, pred_ℤ, ◌+ℤ◌, +ℤ-suc_ℤ, +ℤ-pred_ℤ, +ℤ_idr}
use lib.Signed.{mag}
use mir.Syntax.{w16}
use mir.Val.{SFits, to_z, of_z}
use mir.ValLaws.{to_z-of_z}
use borrow.Author.Tests.{ltb-true, lt-ltb}
use Rattle.model.specs.declared.Event.{Event}
use Rattle.model.specs.declared.Event.TheVariants.{PebbleArrives, PebbleLeaves, TargetSet, TargetCleared}
use Rattle.model.specs.Yard.{Yard, size, one, pebble, target, capacity, root, inside, entry}
use Rattle.model.specs.Calls.Events.{differ, changed, possible, entry_after, demands_after}
use Rattle.laws.proofs.Trees.{Wood}
use Rattle.laws.proofs.Judged.{facts, wood}
use Rattle.laws.proofs.EventRuns.{same, not_differ}
use Rattle.laws.proofs.Ranges.{length_range, get_d_listed, listed}
use Rattle.event.specs.Change.{Rails, can, step_of, stepped_after}

pub rails : {ps : List ℕ} → Rails ps → (r : ℕ) × Wood ps r
rails h = (root h.0, rw (← h.2) (wood h.0 h.1))

pub rails_few : {ps : List ℕ} → Rails ps → length ps ≤ 256
rails_few h = omega (arith, (facts h.0 h.1).few, ap length h.2)

-- numbers that 16 bits hold
pub fits : (z : ℤ) → nat_abs z ≤ 4_000 → SFits w16 z
fits (pos n) h = record { sfits = omega arith }
fits (negsuc n) h = record { sfits = omega arith }

-- two of them have the same bits exactly if they do not differ
module _ (a b : ℤ) (f : mag a < 2 ^ 15) (g : mag b < 2 ^ 15) where
  pub same_bits : of_z w16 a ≡ of_z w16 b → differ a b ≡ false
  same_bits e = not_differ a b (sym (to_z-of_z w16 a (record { sfits = f })) ∙ ap (to_z w16) e ∙ to_z-of_z w16 b (record { sfits = g }))

  pub other_bits : of_z w16 a ≢ of_z w16 b → differ a b ≡ true
  other_bits d = go (differ a b) refl
    where
      go : (t : Bool) → differ a b ≡ t → t ≡ true
      go true e = refl
      go false e = absurd (d (ap (of_z w16) (same a b e)))

pub one_false : (b : Bool) → one b ≤ 0 → b ≡ false
one_false true h = absurd (omega arith)
one_false false h = refl

-- an event changes an entry by its step, of one
pub step_changed : (e : Event) (k : ℤ) → k +ℤ step_of e ≡ changed e k
step_changed e k = go e
  where
    up : k +ℤ pos 1 ≡ suc_ℤ k
    up = +ℤ-suc_ℤ k (pos 0) ∙ ap suc_ℤ (+ℤ_idr k)

    down : k +ℤ negsuc 0 ≡ pred_ℤ k
    down = +ℤ-pred_ℤ k (pos 0) ∙ ap pred_ℤ (+ℤ_idr k)

    go : (e : Event) → k +ℤ step_of e ≡ changed e k
    go PebbleArrives = down
    go PebbleLeaves = up
    go TargetSet = up
    go TargetCleared = down

pub step_small : (e : Event) → nat_abs (step_of e) ≤ 1
step_small PebbleArrives = omega arith
step_small PebbleLeaves = omega arith
step_small TargetSet = omega arith
step_small TargetCleared = omega arith

pub step_held : (e : Event) → to_z w16 (of_z w16 (step_of e)) ≡ step_of e
step_held e = to_z-of_z w16 (step_of e) (fits (step_of e) (omega (arith, step_small e)))

pub stepped_demands : (y : Yard) (e : Event) (v : ℕ) (list : List ℤ) → stepped_after y.parents (step_of e) v list ≡ demands_after y e v list
unfolding stepped_after demands_after
stepped_demands y e v list =
    listed (entry_after y e v list) (pos 0) (size y) _ (length_range _ 0 (size y)) (λ u l. get_d_listed _ (pos 0) (size y) u l ∙ ap (λ (k : ℤ). cond (inside y.parents u v) k (entry list u)) (step_changed e (entry list u)))

-- an event can happen at a node by its counts and depth; and at one that is deeper
pub possible_can : (y : Yard) (e : Event) (v : ℕ) → can e (pebble y v) (target y v) (capacity y v) ≡ possible y e v
possible_can y PebbleArrives v = refl
possible_can y PebbleLeaves v = refl
possible_can y TargetSet v = refl
possible_can y TargetCleared v = refl

pub more : (e : Event) (p t d k : ℕ) → d ≤ k → can e p t d ≡ true → can e p t k ≡ true
more PebbleArrives p t d k h q = lt-ltb p k (omega (arith, ltb-true p d q))
more PebbleLeaves p t d k h q = q
more TargetSet p t d k h q = lt-ltb t k (omega (arith, ltb-true t d q))
more TargetCleared p t d k h q = q

-- What the event call answers and leaves, refused and accepted.
use mathlib.Core.Path.{◌≡◌, refl, sym, ap, ◌∙◌}
use mathlib.Core.List.{List, [], ◌∷◌}
use native.Mathlib.Omega.{arith}
use mathlib.Core.Option.{none, some}
use Prim.Native.Nat.{ℕ, ◌+◌}
use lib.ListN.{length}
use lib.IntN.{ℤ}
use Rattle.model.specs.declared.Event.{Event}
use Rattle.model.specs.declared.Event.TheVariants.{PebbleArrives, PebbleLeaves, TargetSet, TargetCleared}
use Rattle.model.specs.Yard.{Yard, yard_of, size, head_or, below, entry}
use Rattle.model.specs.Judge.{Fault, fault, first_of, at_lowest}
use Rattle.model.specs.Calls.Demands.{demands_of}
use Rattle.model.specs.Calls.Events.{pebbles_after, targets_after, demands_after, differ, stale, ready_tests, event_fault, event_pebbles, event_targets, event_demands}
use Rattle.laws.proofs.Found.{below_cong}
use Rattle.laws.proofs.Equation2.{demands_entry}
use Rattle.laws.proofs.EventRuns.{passed, event_ready}
use Rattle.event.specs.Change.{differ_at}

-- the counts alone tell what an event alters
pub by_counts : (y : Yard) (e : Event) (v : ℕ) → let z = yard_of [] y.pebbles y.targets [] in (pebbles_after z e v ≡ pebbles_after y e v) × (targets_after z e v ≡ targets_after y e v)
by_counts y PebbleArrives v = (refl, refl)
by_counts y PebbleLeaves v = (refl, refl)
by_counts y TargetSet v = (refl, refl)
by_counts y TargetCleared v = (refl, refl)

module _ (y : Yard) (list : List ℤ) (e : Event) (v : ℕ) where
  pub left_refused : {f : Fault} → event_fault y list e v ≡ some f
      → (some f ≡ event_fault y list e v) × ((y.pebbles ≡ event_pebbles y list e v) × ((y.targets ≡ event_targets y list e v) × (list ≡ event_demands y list e v)))
  left_refused q = (sym q, (rw q, (rw q, rw q)))

  pub left_accepted : event_fault y list e v ≡ none
      → (none ≡ event_fault y list e v) × ((pebbles_after y e v ≡ event_pebbles y list e v) × ((targets_after y e v ≡ event_targets y list e v) × (demands_after y e v list ≡ event_demands y list e v)))
  left_accepted q = (sym q, (rw q, (rw q, rw q)))

-- past the tests before 23, by the lowest entry in which the list differs from the yard's demands
module _ (y : Yard) (list : List ℤ) (e : Event) (v : ℕ) (r : first_of (ready_tests y list e v) ≡ none) {fresh : List ℤ} (d : fresh ≡ demands_of y) where
  found : below (length list) (differ_at list fresh) ≡ below (size y) (stale y list)
  found =
      ap (λ (k : ℕ). below k (differ_at list fresh)) (passed y list e v r).long
      ∙ below_cong (size y) _ _ (λ u l. ap (differ (entry list u)) (ap (λ (xs : List ℤ). entry xs u) d ∙ demands_entry y u l))

  pub stale_refused : {n : ℕ} → ((k : ℕ) → n ≡ head_or k (below (length list) (differ_at list fresh))) → event_fault y list e v ≡ fault 23 n
  stale_refused {n} f = event_ready y list e v r ∙ at (below (size y) (stale y list)) (λ k. f k ∙ ap (head_or k) found)
    where
      at : (vs : List ℕ) → ((k : ℕ) → n ≡ head_or k vs) → at_lowest 23 vs ≡ fault 23 n
      at [] h = absurd (omega (arith, h (n + 1)))
      at (u ∷ us) h = rw (h 0)

  pub stale_passed : ((k : ℕ) → k ≡ head_or k (below (length list) (differ_at list fresh))) → event_fault y list e v ≡ none
  stale_passed f = event_ready y list e v r ∙ at (below (size y) (stale y list)) (λ k. f k ∙ ap (head_or k) found)
    where
      at : (vs : List ℕ) → ((k : ℕ) → k ≡ head_or k vs) → at_lowest 23 vs ≡ none
      at [] h = refl
      at (u ∷ us) h = absurd (omega (arith, h (u + 1)))

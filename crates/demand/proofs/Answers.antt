-- What the tests of the account call say, case by case; and of a list of all demands of a tree that its entries are small and
-- their sizes add up to the shortest length.
use mathlib.Core.Path.{◌≡◌, refl, sym, ap, ◌∙◌}
use mathlib.Core.List.{List, ◌++◌}
use mathlib.Core.Option.{Option, none, some}
use Prim.Native.Nat.{ℕ, ◌≤◌, ◌<◌}
use native.Mathlib.Omega.{arith}
use lib.ListN.{length, get_or, take, drop, replicate, length-replicate}
use lib.Seq.{take_at, get_or-take}
use lib.IntN.{ℤ, pos, nat_abs}
use borrow.Author.Tests.{eq-eqb, ne_eqb}
use Rattle.model.specs.Yard.{Yard, size, max_size, max_demand, sum, demand, imbalance, shortest}
use Rattle.model.specs.Judge.{Fault, fault, first_of, list_tests, shape_tests, judge, Tree}
use Rattle.model.specs.Calls.Answers.{lent}
use Rattle.model.specs.Calls.Demands.{demands_fault, demands_of}
use Rattle.laws.proofs.Sums.{sum_cong}
use Rattle.laws.proofs.Ranges.{length_range}
use Rattle.laws.proofs.Equation2.{demands_entry}
use Rattle.laws.proofs.Tests.{judge_shape}
use Rattle.laws.proofs.Judged.{facts, tree_lists}
use Rattle.laws.proofs.Signed.{demand_size, demand_range}
use Rattle.demand.specs.Filling.{demands_then}
use Rattle.demand.proofs.Lists.{all_listed}

pub array_room : (n : ℕ) → n ≤ max_size → n ≤ length (replicate 256 (pos 0))
array_room n h = omega (arith, length-replicate {A = ℤ} 256 (pos 0))

-- what a refused call answers and leaves, and an accepted one
pub refuses : {f : Option Fault} {r : Fault} (old new : List ℤ) → f ≡ some r → (some r ≡ f) × (old ≡ lent f new old)
refuses old new e = (sym e, rw e)

pub accepts : {f : Option Fault} {new made : List ℤ} (old : List ℤ) → f ≡ none → made ≡ new → (none ≡ f) × (made ≡ lent f new old)
accepts old e d = (sym e, rw e d)

module _ (y : Yard) where
  -- the account call
  module _ (list : List ℤ) where
    pub demands_refused : {f : Fault} → judge y ≡ some f → demands_fault y list ≡ some f
    unfolding demands_fault
    demands_refused e = rw e

    pub demands_length : Tree y → (length list ≡ size y → ⊥) → demands_fault y list ≡ fault 2 0
    unfolding demands_fault
    demands_length t d = rw (t, ne_eqb (length list) (size y) d)

    pub demands_none : Tree y → length list ≡ size y → demands_fault y list ≡ none
    unfolding demands_fault
    demands_none t e = rw (t, eq-eqb (length list) (size y) e)

  module _ (t : Tree y) where
    -- a list of all demands
    pub demands_small : {list : List ℤ} → list ≡ demands_of y → (length list ≤ max_size) × ((v : ℕ) → nat_abs (get_or list v (pos 0)) ≤ max_demand)
    demands_small e = rw e (
      omega (arith, length_range (demand y) 0 (size y), (facts y t).few),
      all_listed (λ z. nat_abs z ≤ max_demand) (demand y) (omega arith) (demand_range y t) 0 (size y),
    )

    -- an array of 256 has room for it
    pub demands_room : size y ≤ length (replicate 256 (pos 0))
    demands_room = array_room (size y) (facts y t).few.1

  pub demands_long : {list : List ℤ} → list ≡ demands_of y → length list ≡ size y
  demands_long e = ap length e ∙ length_range (demand y) 0 (size y)

  -- and whatever lies behind it there, it is the first n entries
  pub demands_front : {list : List ℤ} (rest : List ℤ) → list ≡ demands_of y → take (size y) (list ++ rest) ≡ demands_of y
  demands_front {list} rest e = take_at list rest (size y) (demands_long e) ∙ e

  tree_shape : Tree y → first_of (shape_tests y) ≡ none
  tree_shape t = judge_shape y (sym (tree_lists y t)) ∙ t

  -- what is left of a lent list whose lists are refused, whose parents' shape is, and of a tree
  pub then_lists : {f : Fault} (list : List ℤ) → first_of (list_tests y) ≡ some f → list ≡ demands_then y list
  then_lists list e = rw e

  pub then_shape : {front : List ℤ} (list : List ℤ) → first_of (list_tests y) ≡ none → ¬ Tree y → front ≡ replicate (size y) (pos 0)
      → front ++ drop (size y) list ≡ demands_then y list
  then_shape {front} list e d z = by (first_of (shape_tests y)) refl where
    by : (f : Option Fault) → first_of (shape_tests y) ≡ f → front ++ drop (size y) list ≡ demands_then y list
    by none h = absurd (d (sym (judge_shape y (sym e)) ∙ h))
    by (some f) h = rw (e, h, z, length-replicate {A = ℤ} (size y) (pos 0))

  pub then_tree : {front : List ℤ} (list : List ℤ) → Tree y → front ≡ demands_of y → front ++ drop (size y) list ≡ demands_then y list
  then_tree list t d = rw (tree_lists y t, tree_shape t, d, length_range (demand y) 0 (size y))

  -- of a tree the demands stand at the front
  pub then_front : {now : List ℤ} (list : List ℤ) → now ≡ demands_then y list → Tree y → take (size y) now ≡ demands_of y
  then_front list e t = rw (e, tree_lists y t, tree_shape t) (demands_front (drop (length (demands_of y)) list) refl)

  -- what such a list has at a node
  pub demands_at : (list : List ℤ) (v : ℕ) → take (size y) list ≡ demands_of y → v < size y → get_or list v (pos 0) ≡ demand y v
  demands_at list v e l = sym (get_or-take (size y) list v (pos 0) l) ∙ rw e (demands_entry y v l)

  pub demands_sum : {list : List ℤ} → list ≡ demands_of y → sum (length list) (λ v. nat_abs (get_or list v (pos 0))) ≡ shortest y
  unfolding shortest
  demands_sum e =
      rw (e, length_range (demand y) 0 (size y))
      (sum_cong (size y) _ (imbalance y) (λ v l. ap nat_abs (demands_entry y v l) ∙ demand_size y v))

-- Equation 2 has one solution on a tree, the demands of equation 1 (request 2.3): a node's entry follows from those of its children, which have smaller
-- subtrees.
use mathlib.Core.Path.{◌≡◌, refl, sym, ap, ◌∙◌}
use mathlib.Core.Bool.{true}
use mathlib.Core.List.{map}
use Prim.Native.Nat.{ℕ, zero, suc, ◌≤◌, ◌<◌}
use native.Mathlib.Omega.{arith}
use lib.Seq.{ext_get_or}
use lib.IntN.{ℤ, pos, sub_ℕ, ◌+ℤ◌}
use Rattle.model.specs.Yard.{Yard, size, pebble, target, is_child, children, demand, sumℤ, entry, Equation2}
use Rattle.model.specs.Judge.{Tree}
use Rattle.model.specs.Calls.Demands.{demands_of}
use Rattle.laws.specs.Equation2.{OnlyDemands}
use Rattle.laws.proofs.Basics.{all_below}
use Rattle.laws.proofs.Ranges.{length_range, get_d_listed, map_all}
use Rattle.laws.proofs.Trees.{is_child_law}
use Rattle.laws.proofs.Judged.{wood}
use Rattle.laws.proofs.Demands.{weight, weight_le, weight_child, weight_pos}
use Rattle.laws.proofs.Signed.{demand_children}

module _ (y : Yard) where
  sum_agree : (f g : ℕ → ℤ) (u : ℕ) → ((c : ℕ) → c < size y → is_child y.parents u c ≡ true → f c ≡ g c) → sumℤ (map f (children y u)) ≡ sumℤ (map g (children y u))
  sum_agree f g u h = ap sumℤ (map_all f g (children y u) (all_below (λ c. f c ≡ g c) (is_child y.parents u) (size y) h))

  pub demands_entry : (v : ℕ) → v < size y → entry (demands_of y) v ≡ demand y v
  demands_entry v l = get_d_listed (demand y) (pos 0) (size y) v l

  pub only_demands : OnlyDemands y
  only_demands t ks n = (
    (λ h. ext_get_or (pos 0) ks _ (n ∙ sym (length_range (demand y) 0 (size y))) (λ v l. equal h (size y) v (omega arith) (weight_le y.parents v) ∙ sym (demands_entry v (omega arith)))),
    λ e v l. rw e (demands_entry v l ∙ demand_children y t v l ∙ ap (λ (k : ℤ). sub_ℕ (target y v) (pebble y v) +ℤ k) (sum_agree (demand y) _ v (λ c m _. sym (demands_entry c m)))),
  )
    where
      equal : ((v : ℕ) → v < size y → Equation2 y ks v) → (k u : ℕ) → u < size y → weight y.parents u ≤ k → entry ks u ≡ demand y u
      equal h zero u l w = absurd (omega (arith, weight_pos (wood y t) u l))
      equal h (suc k) u l w =
          h u l
          ∙ ap (λ (x : ℤ). sub_ℕ (target y u) (pebble y u) +ℤ x)
          (sum_agree (entry ks) (demand y) u (λ c m e. equal h k c m (omega (arith, weight_child (wood y t) u c l (is_child_law y.parents u c m e)))))
          ∙ sym (demand_children y t u l)

  -- so what the account call fills, as equation 1 has it, meets equation 2
  pub demands_equation2 : Tree y → (v : ℕ) → v < size y → Equation2 y (demands_of y) v
  demands_equation2 t = (only_demands t (demands_of y) (length_range (demand y) 0 (size y))).1 refl

-- The totals of a tree, as its demands tell them.
use mathlib.Core.Path.{◌≡◌, ap, ◌∙◌}
use mathlib.Core.Logic.{◌↔◌}
use native.Mathlib.Omega.{arith}
use lib.IntN.{ℤ, pos, negsuc, nat_abs}
use Rattle.model.specs.Yard.{Yard, pebble, target, root, demand, Matched}
use Rattle.model.specs.Judge.{Tree}
use Rattle.laws.proofs.Judged.{wood}
use Rattle.laws.proofs.Demands.{root_subtotal, root_even}
use Rattle.laws.proofs.Signed.{demand_size}

-- the root's demand tells whether the totals differ
zero_size : (z : ℤ) → nat_abs z ≡ 0 → z ≡ pos 0
zero_size (pos n) e = ap pos e
zero_size (negsuc n) e = absurd (omega arith)

pub root_demand : (y : Yard) → Tree y → Matched y ↔ (demand y (root y) ≡ pos 0)
root_demand y t = (
  (λ m. zero_size (demand y (root y)) (demand_size y (root y) ∙ root_even y t m)),
  λ e. omega (arith, ap nat_abs e, demand_size y (root y), root_subtotal (wood y t) (target y), root_subtotal (wood y t) (pebble y)),
)

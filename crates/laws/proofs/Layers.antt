-- Counts f at nodes, dealt out to 8 layers one after another as the nodes are numbered. What the layers have at a node is in all what it has; of 8
-- or fewer dealt out in a row no layer gets two; and what a layer has in all depends on the total alone.
use mathlib.Core.Path.{◌≡◌, refl, sym, ◌∙◌}
use mathlib.Core.Bool.{Bool, true, false}
use Prim.Native.Nat.{ℕ, zero, suc, ◌+◌, ◌*◌, ◌%◌, ◌≤◌, ◌<◌}
use native.Mathlib.Nat.{mod-lt, mod-add-div}
use native.Mathlib.Omega.{arith}
use lib.Dec.{eqb}
use borrow.Author.Tests.{eqb-true}
use Rattle.model.specs.Yard.{one, sum}
use Rattle.laws.proofs.Basics.{eqb_sym, one_le}
use Rattle.laws.proofs.Sums.{sum_cong, sum_swap, sum_pick, sum_ones, sum_once, sum_split}

-- number x goes to layer x % 8
abbrev goes : ℕ → ℕ → ℕ
goes i x = one (eqb (x % 8) i)

abbrev pub layer : ℕ → (ℕ → ℕ) → ℕ → ℕ
layer i f v = sum (f v) (λ x. goes i (sum v f + x))

pub layer_all : (f : ℕ → ℕ) (v : ℕ) → sum 8 (λ i. layer i f v) ≡ f v
layer_all f v = sum_swap 8 (f v) (λ i x. goes i (sum v f + x)) ∙ sum_cong (f v) _ (λ _. 1) (λ x _. each (sum v f + x)) ∙ sum_ones (f v)
  where
    each : (x : ℕ) → sum 8 (λ i. goes i x) ≡ 1
    each x = sum_cong 8 _ (λ i. one (eqb i (x % 8)) * 1) (λ i _. rw (eqb_sym (x % 8) i) (omega arith)) ∙ sum_pick 8 (x % 8) (λ _. 1) (mod-lt x (omega arith))

pub layer_le : (i : ℕ) (f : ℕ → ℕ) (v : ℕ) → f v ≤ 8 → layer i f v ≤ 1
layer_le i f v h = sum_once (f v) (λ x. goes i (sum v f + x)) (λ x _. one_le (eqb ((sum v f + x) % 8) i)) (λ x z l m p q.
    omega (arith, hit (sum v f + x) p, hit (sum v f + z) q, mod-add-div (sum v f + x) 8, mod-add-div (sum v f + z) 8))
  where
    hit : (x : ℕ) → 0 < goes i x → x % 8 ≡ i
    hit x = at (eqb (x % 8) i) refl
      where
        at : (b : Bool) → eqb (x % 8) i ≡ b → 0 < one b → x % 8 ≡ i
        at true e _ = eqb-true (x % 8) i e
        at false e p = absurd (omega arith)

pub layer_total : (i n : ℕ) (f : ℕ → ℕ) → sum n (layer i f) ≡ sum (sum n f) (goes i)
unfolding sum
layer_total i zero f = refl
layer_total i (suc n) f = rw (layer_total i n f) (sym (sum_split (sum n f) (f n) (goes i)))

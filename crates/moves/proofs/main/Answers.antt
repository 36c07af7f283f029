-- `main` writes what `program` printed, which lies within its list.
use mathlib.Core.Path.{◌≡◌, sym, ap}
use mathlib.Core.List.{List}
use Prim.Native.Nat.{ℕ, ◌≤◌}
use native.Mathlib.Omega.{arith}
use lib.ListN.{length, length-append}
use lib.Seq.{length-take-le}
use Rattle.model.specs.Calls.Answers.{overwrite}
use Rattle.moves.proofs.main.Goals as goal

fits : {n : ℕ} {new : List ℕ} (word old : List ℕ) → n ≡ length word → new ≡ overwrite word old → n ≤ length new
fits word old v e = omega (arith, v, simp length-append at (ap length e))

pub slice_bounds-out-end : goal.slice_bounds-out-end
slice_bounds-out-end c = let e = c.program-printed.ensures in fits _ _ e.value e.out_value

pub slice_bounds-write_all-end : goal.slice_bounds-write_all-end
slice_bounds-write_all-end c = let e = c.program-printed.ensures in sym (length-take-le _ _ (fits _ _ e.value e.out_value))

-- `main` writes what `program` printed, which lies within its list.
use mathlib.Core.Path.{◌≡◌, sym, ap}
use mathlib.Core.List.{List}
use Prim.Native.Nat.{ℕ, ◌≤◌}
use native.Mathlib.Omega.{arith}
use lib.ListN.{length, length-append, length-replicate}
use lib.Seq.{length-take-le}
use Rattle.model.specs.Calls.Answers.{overwrite}
use Rattle.checks.proofs.main.Goals as goal

fits : {r : ℕ} (v out : List ℕ) {new : List ℕ} → r ≡ length v → new ≡ overwrite v out → r ≤ length new
fits v out e q = omega (arith, e, simp length-append at (ap length q))

pub slice_bounds-read_full-end : goal.slice_bounds-read_full-end
slice_bounds-read_full-end c = sym (length-replicate {A = ℕ} 1_060_000 0)

pub slice_bounds-input-end : goal.slice_bounds-input-end
slice_bounds-input-end c = c.read_full-count.ensures.0

pub slice_bounds-program-end : goal.slice_bounds-program-end
slice_bounds-program-end c = c.read_full-count.ensures.1

pub slice_bounds-out-end : goal.slice_bounds-out-end
slice_bounds-out-end c = fits _ _ c.program-printed.ensures.value c.program-printed.ensures.out_value

pub slice_bounds-write_all-end : goal.slice_bounds-write_all-end
slice_bounds-write_all-end c = sym (length-take-le _ _ (fits _ _ c.program-printed.ensures.value c.program-printed.ensures.out_value))

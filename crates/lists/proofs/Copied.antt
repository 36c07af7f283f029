-- A turn of a loop that copies a list over another: one entry more is the list's.
use mathlib.Core.Path.{◌≡◌}
use mathlib.Core.List.{List, ◌++◌}
use Prim.Native.Nat.{ℕ, ◌+◌, ◌<◌}
use native.Mathlib.Nat.{zero-add}
use native.Mathlib.Numerals.{add-one}
use native.Mathlib.Omega.{arith}
use lib.ListN.{length, take, drop, get_or, set}
use lib.Seq.{paste-suc}

pub copied : (d list : List ℕ) (i : ℕ) → i < length d → i < length list
    → set (take i list ++ drop i d) i (get_or list i 0) ≡ take (i + 1) list ++ drop (i + 1) d
copied d list i hd hl = rw add-one (simp zero-add at (paste-suc d 0 list i 0 (omega arith) hl))

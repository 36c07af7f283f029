-- The call: the openings, listed apart, and copied to a list that has room for them.
use mathlib.Core.Path.{◌≡◌}
use mathlib.Core.List.{List, ◌++◌}
use mathlib.Core.Option.{none}
use Prim.Native.Nat.{ℕ, ◌*◌, ◌/◌, ◌≤◌, ◌<◌}
use native.Mathlib.Omega.{arith}
use lib.ListN.{length, take, drop}
use lib.Seq.{length-take-le}
use borrow.Author.Tests.{lt-leb, le-leb}
use Rattle.model.specs.Yard.{Yard, Matched}
use Rattle.model.specs.Judge.{fault, Tree}
use Rattle.model.specs.Openings.{openings}
use Rattle.model.specs.Calls.Answers.{answer, lent, overwrite}
use Rattle.model.specs.Calls.Openings.{openings_fault, openings_answer, openings_list}
use Rattle.laws.proofs.Basics.{single}
use Rattle.laws.proofs.Judged.{facts}
use Rattle.laws.proofs.Openings.{openings_few}
use Rattle.laws.proofs.Calls.{totals_none}
use Rattle.openings.specs.Listing.{Holds, room_fault}

-- a list that is too short, and one that is not
pub short : (k room : ℕ) → room / 2 < k → room_fault k room ≡ fault 8 k
short k room h = rw (lt-leb (2 * k) room (omega arith))

pub enough : (k room : ℕ) → k ≤ room / 2 → room_fault k room ≡ none
enough k room h = rw (le-leb (2 * k) room (omega arith))

-- what was copied to its front
pub copied : (moves list new : List ℕ) (n : ℕ) → n ≤ length moves → new ≡ take n moves → new ++ drop n list ≡ overwrite (take n moves) list
copied moves list new n l e = rw (e, length-take-le n moves l)

-- the answer and the list
module _ (y : Yard) (t : Tree y) (m : Matched y) {moves : List ℕ} {k : ℕ} (h : Holds (openings y) moves k) where
  pub listed_fits : 2 * k ≤ length moves
  listed_fits = omega (arith, h.room, h.counted, openings_few y t m, (facts y t).few)

  fault_is : (room : ℕ) → openings_fault y room ≡ room_fault k room
  unfolding openings_fault
  fault_is room = rw (t, (totals_none y).1 m, h.counted) (single (room_fault (length (openings y)) room))

  pub answer_is : (list : List ℕ) → answer (room_fault k (length list)) k ≡ openings_answer y list
  answer_is list = rw (fault_is (length list), ← h.counted)

  pub list_is : (list : List ℕ) → lent (room_fault k (length list)) (overwrite (take (2 * k) moves) list) list ≡ openings_list y list
  list_is list = rw (fault_is (length list), h.front)

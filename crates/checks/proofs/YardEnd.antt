-- Where the yard sheet ends, byte by byte: from a byte that does not end it, it goes on with the next.
use mathlib.Core.Path.{◌≡◌}
use mathlib.Core.Bool.{Bool, true, false, not, ◌&&◌}
use mathlib.Core.List.{List}
use Prim.Native.Nat.{ℕ, suc, ◌+◌, ◌≤◌, ◌<◌}
use lib.ListN.{length, drop, get_or, drop_of_length-le}
use lib.Dec.{leb, eqb}
use borrow.Author.Tests.{lt-leb, le-leb}
use Rattle.std.specs.Char.{is_ascii_digit}
use Rattle.model.specs.Sheets.{line_feed}
use Rattle.model.specs.CheckSheets.{digit_first, yard_part}
use Rattle.sheet.proofs.Writing.{drop_next}

module _ (l : List ℕ) (i : ℕ) where
  pub digit_behind : length l ≤ i → false ≡ digit_first (drop i l)
  unfolding digit_first
  digit_behind h = rw (drop_of_length-le l h)

  module _ (h : i < length l) where
    pub digit_here : is_ascii_digit (get_or l i 0) ≡ digit_first (drop i l)
    unfolding digit_first
    digit_here = rw (drop_next l i h)

    pub digit_low : get_or l i 0 < 48 → false ≡ digit_first (drop i l)
    unfolding digit_first
    digit_low b = rw (drop_next l i h, lt-leb 48 (get_or l i 0) b)

    pub digit_high : 48 ≤ get_or l i 0 → leb (get_or l i 0) 57 ≡ digit_first (drop i l)
    unfolding digit_first
    digit_high b = rw (drop_next l i h, le-leb 48 (get_or l i 0) b)

    abbrev last : Bool
    last = (eqb (get_or l i 0) line_feed) && (not (digit_first (drop (i + 1) l)))

    pub part_last : last ≡ true → length (yard_part (drop i l)) ≡ 1
    unfolding yard_part
    part_last e = rw (drop_next l i h, e)

    pub part_on : last ≡ false → length (yard_part (drop i l)) ≡ suc (length (yard_part (drop (i + 1) l)))
    unfolding yard_part
    part_on e = rw (drop_next l i h, e)

  pub part_end : length l ≤ i → length (yard_part (drop i l)) ≡ 0
  unfolding yard_part
  part_end h = rw (drop_of_length-le l h)

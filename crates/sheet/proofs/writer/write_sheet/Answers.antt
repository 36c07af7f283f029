-- `write_sheet` is refused as its lists' lengths are. Otherwise it writes the sheet aside, where there is room for every sheet, is refused with its bytes
-- where the list has fewer, and copies it.
use mathlib.Core.Path.{◌≡◌, sym}
use mathlib.Core.Option.{none}
use mathlib.Core.List.{List}
use Prim.Native.Nat.{ℕ, ◌≤◌}
use native.Mathlib.Omega.{arith}
use mir.Val.{Fits}
use mir.Syntax.{w8}
use lib.ListN.{length, take, get_or, replicate, length-replicate}
use lib.Seq.{length-take-le}
use Rattle.model.specs.Yard.{Yard, yard_of}
use Rattle.model.specs.Judge.{first_of, length_tests}
use Rattle.model.specs.Sheets.{yard_sheet, max_sheet_bytes}
use Rattle.laws.proofs.Tests.{passed_lengths}
use Rattle.laws.proofs.Refused.{told_on}
use Rattle.laws.proofs.Sheets.{yard_sheet_short}
use Rattle.sheet.specs.Written.{SameLength, Written}
use Rattle.sheet.proofs.WriteCall.{write_lengths, write_short, write_whole}
use Rattle.sheet.proofs.Writing.{written_as, written_length, written_taken}
use Rattle.sheet.proofs.writer.write_sheet.Goals as goal

-- lists of bytes whose lengths are not refused
module _ (y : Yard)
    (a : (i : ℕ) → Fits w8 (get_or y.parents i 0)) (b : (i : ℕ) → Fits w8 (get_or y.pebbles i 0))
    (c : (i : ℕ) → Fits w8 (get_or y.targets i 0)) (d : (i : ℕ) → Fits w8 (get_or y.depths i 0))
    (told : first_of (length_tests y) ≡ none) where
  sizes : SameLength y × (length (yard_sheet y) ≤ max_sheet_bytes)
  sizes =
      let p = passed_lengths y.parents y.pebbles y.targets y.depths (sym told) in
      ((p.2, p.3, p.4), yard_sheet_short y p.1 ((λ i. (a i).fits), (λ i. (b i).fits), (λ i. (c i).fits), λ i. (d i).fits))

  -- the sheet, written aside
  aside : {n : ℕ} {new : List ℕ} → Written (yard_sheet y) 0 (replicate max_sheet_bytes 0) n new
      → (n ≡ length (yard_sheet y)) × (n ≤ length new) × (take n new ≡ yard_sheet y)
  aside w =
      let e = w.end in
      let l = length-replicate {A = ℕ} max_sheet_bytes 0 in
      let h = sizes.1 in
      (omega arith, omega (arith, written_length w), written_taken w (omega arith))

pub returns-in_err-test_lengths : goal.returns-in_err-test_lengths
returns-in_err-test_lengths c =
    let a = c.args in
    let y = yard_of a.parents.now a.pebbles.now a.targets.now a.depths.now in
    let f = write_lengths y a.sheet.now (sym c.in_err-test_lengths.ensures) in
    record { result_value = told_on _ _ c.from_residual.ensures.1 _ f.0; sheet_value = f.1 }

pub put_sheet-needed-requires : goal.put_sheet-needed-requires
put_sheet-needed-requires c =
    let a = c.args in
    let y = yard_of a.parents.now a.pebbles.now a.targets.now a.depths.now in
    let t = c.type_inv in
    let s = sizes y t.parents t.pebbles t.targets t.depths (sym c.in_ok-test_lengths.ensures) in
    record { same_length = s.0; depths_in_bounds = s.1 }

pub returns-then-needed-sheet : goal.returns-then-needed-sheet
returns-then-needed-sheet c =
    let a = c.args in
    let y = yard_of a.parents.now a.pebbles.now a.targets.now a.depths.now in
    let t = c.type_inv in
    let told = sym c.in_ok-test_lengths.ensures in
    let s = aside y t.parents t.pebbles t.targets t.depths told c.put_sheet-needed.ensures in
    let f = write_short y a.sheet.now told s.0 (omega arith) in
    record { result_value = f.0; sheet_value = f.1 }

pub slice_bounds-whole-end : goal.slice_bounds-whole-end
slice_bounds-whole-end c =
    let a = c.args in
    let y = yard_of a.parents.now a.pebbles.now a.targets.now a.depths.now in
    let t = c.type_inv in
    let told = sym c.in_ok-test_lengths.ensures in
    (aside y t.parents t.pebbles t.targets t.depths told c.put_sheet-needed.ensures).1

pub slice_bounds-put_text-end : goal.slice_bounds-put_text-end
slice_bounds-put_text-end c =
    let a = c.args in
    let y = yard_of a.parents.now a.pebbles.now a.targets.now a.depths.now in
    let t = c.type_inv in
    let told = sym c.in_ok-test_lengths.ensures in
    sym (length-take-le _ _ (aside y t.parents t.pebbles t.targets t.depths told c.put_sheet-needed.ensures).1)

pub returns : goal.returns
returns c =
    let a = c.args in
    let y = yard_of a.parents.now a.pebbles.now a.targets.now a.depths.now in
    let t = c.type_inv in
    let told = sym c.in_ok-test_lengths.ensures in
    let s = aside y t.parents t.pebbles t.targets t.depths told c.put_sheet-needed.ensures in
    let f = write_whole y a.sheet.now told s.0 (omega arith) (written_as s.2 c.put_text.ensures) in
    record { result_value = f.0; sheet_value = f.1 }

-- What a sheet says by its header and its length, and the reader's answer and the lists that it leaves, by what is found: a short list, a refusal,
-- or the lists of a yard, copied to the front of the lent ones.
use mathlib.Core.Path.{◌≡◌, sym, ap, ◌∙◌}
use mathlib.Core.Bool.{true, false}
use mathlib.Core.List.{List}
use Prim.Native.Nat.{ℕ, ◌≤◌, ◌<◌}
use native.Mathlib.Omega.{arith}
use lib.ListN.{length, take, length-take, drop_of_length-le}
use lib.Seq.{length-take-le}
use borrow.Author.Tests.{le-leb, lt-leb}
use Rattle.model.specs.Yard.{Yard, yard_of, max_size}
use Rattle.model.specs.Judge.{Fault, row}
use Rattle.model.specs.Calls.Answers.{Answer, answered, refused, overwrite}
use Rattle.model.specs.Sheets.{header, same, read_yard, reader, read_answer, filled}
use Rattle.laws.proofs.Lines.{same_true}
use Rattle.laws.proofs.Sheets.{reader_room}
use Rattle.sheet.proofs.Writing.{drop_next, written_front}
use Rattle.sheet.specs.Written.{Written}
use Rattle.reader.specs.Reading.{Full, lines_say}

module _ (bs : List ℕ) where
  pub other_header : same (take (length header) bs) header ≡ false → refused (row 15 1) ≡ read_yard bs
  unfolding read_yard
  other_header e = sym (rw (e, read_yard))

  module _ (e : same (take (length header) bs) header ≡ true) where
    pub no_line : length bs ≡ length header → refused (row 1 2) ≡ read_yard bs
    unfolding read_yard
    no_line q =
        let h : length bs ≤ length header = omega arith in
        sym (rw (e, read_yard) (rw (drop_of_length-le bs h)))

    pub some_line : (length bs ≡ length header → ⊥) → lines_say bs ≡ read_yard bs
    unfolding read_yard
    some_line n =
        let h : length header < length bs = omega (arith, simp length-take at (ap length (same_true (take (length header) bs) header e))) in
        sym (rw (e, read_yard) (rw (drop_next bs (length header) h)))

copied : (n : ℕ) (us : List ℕ) {i : ℕ} {ps ps' : List ℕ} → n ≤ length ps → Written (take n us) 0 ps i ps' → ps' ≡ overwrite (take n us) ps
copied n us h w = (written_front w (omega (arith, w.end, length-take n us))).1

module _ (bs ps cs ts ds : List ℕ) where
  abbrev Leaves : Answer ℕ → List ℕ → List ℕ → List ℕ → List ℕ → Type 0
  Leaves a ps' cs' ts' ds' =
      (a ≡ read_answer bs ps cs ts ds)
      × ((ps' ≡ filled (λ (y : Yard). y.parents) (reader bs ps cs ts ds) ps)
      × ((cs' ≡ filled (λ (y : Yard). y.pebbles) (reader bs ps cs ts ds) cs)
      × ((ts' ≡ filled (λ (y : Yard). y.targets) (reader bs ps cs ts ds) ts)
      × (ds' ≡ filled (λ (y : Yard). y.depths) (reader bs ps cs ts ds) ds))))

  refuses : {f : Fault} → reader bs ps cs ts ds ≡ refused f → Leaves (refused f) ps cs ts ds
  refuses e = (rw e, (rw e, (rw e, (rw e, rw e))))

  pub short_parents : length ps < 256 → Leaves (refused (row 18 0)) ps cs ts ds
  unfolding reader
  short_parents h = refuses (rw (lt-leb 256 (length ps) h, reader))

  module _ (p : 256 ≤ length ps) where
    pub short_pebbles : length cs < 256 → Leaves (refused (row 18 0)) ps cs ts ds
    unfolding reader
    short_pebbles h = refuses (rw (le-leb 256 (length ps) p, lt-leb 256 (length cs) h, reader))

    module _ (c : 256 ≤ length cs) where
      pub short_targets : length ts < 256 → Leaves (refused (row 18 0)) ps cs ts ds
      unfolding reader
      short_targets h = refuses (rw (le-leb 256 (length ps) p, le-leb 256 (length cs) c, lt-leb 256 (length ts) h, reader))

      module _ (t : 256 ≤ length ts) where
        pub short_depths : length ds < 256 → Leaves (refused (row 18 0)) ps cs ts ds
        unfolding reader
        short_depths h = refuses (rw (le-leb 256 (length ps) p, le-leb 256 (length cs) c, le-leb 256 (length ts) t, lt-leb 256 (length ds) h, reader))

        module _ (d : 256 ≤ length ds) where
          pub sheet_refused : {f : Fault} → read_yard bs ≡ refused f → Leaves (refused f) ps cs ts ds
          sheet_refused e = refuses (reader_room bs ps cs ts ds p c t d ∙ e)

          pub sheet_read : (n : ℕ) (us vs ws xs : List ℕ) {i j k l : ℕ} {ps' cs' ts' ds' : List ℕ} → n ≤ max_size → Full us vs ws xs
              → read_yard bs ≡ answered (yard_of (take n us) (take n vs) (take n ws) (take n xs))
              → Written (take n us) 0 ps i ps' → Written (take n vs) 0 cs j cs' → Written (take n ws) 0 ts k ts' → Written (take n xs) 0 ds l ds'
              → Leaves (answered n) ps' cs' ts' ds'
          sheet_read n us vs ws xs m f e u v w x =
              let r = reader_room bs ps cs ts ds p c t d ∙ e in (
                rw (r, length-take-le n us (omega arith)),
                (rw r (copied n us (omega arith) u), (rw r (copied n vs (omega arith) v), (rw r (copied n ws (omega arith) w), rw r (copied n xs (omega arith) x)))),
              )

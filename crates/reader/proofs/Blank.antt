-- Reading into four blank lists of 256, as the programs do: what was read is the yard that the bytes say, and a refusal is theirs.
use mathlib.Core.Path.{◌≡◌, refl, sym}
use mathlib.Core.List.{List}
use Prim.Native.Nat.{ℕ, ◌≤◌}
use native.Mathlib.Omega.{arith}
use lib.ListN.{length, take, replicate, length-append, length-replicate}
use Rattle.model.specs.Yard.{Yard, yard_of, size, max_size}
use Rattle.model.specs.Judge.{Fault}
use Rattle.model.specs.Calls.Answers.{Answer, answered, refused, mapAnswer}
use Rattle.model.specs.Sheets.{read_yard, reader, read_answer, filled}
use Rattle.laws.proofs.Calls.{take_overwrite}
use Rattle.laws.proofs.Sheets.{refused_ne_answered, read_sizes, reader_room}

abbrev pub blank : List ℕ
blank = replicate max_size 0

module _ (bs : List ℕ) where
  judged : reader bs blank blank blank blank ≡ read_yard bs
  judged = let l : max_size ≤ length blank = omega (arith, length-replicate {A = ℕ} max_size 0) in reader_room bs blank blank blank blank l l l l

  pub record Found (n : ℕ) (ps cs ts ds : List ℕ) : Type 0 where
    pub fits : (n ≤ length ps) × (n ≤ length cs) × (n ≤ length ts) × (n ≤ length ds)
    pub said : read_yard bs ≡ answered (yard_of (take n ps) (take n cs) (take n ts) (take n ds))

  pub read_number : {n : ℕ} {ps cs ts ds : List ℕ} → answered n ≡ read_answer bs blank blank blank blank
      → ps ≡ filled (λ (y : Yard). y.parents) (reader bs blank blank blank blank) blank
      → cs ≡ filled (λ (y : Yard). y.pebbles) (reader bs blank blank blank blank) blank
      → ts ≡ filled (λ (y : Yard). y.targets) (reader bs blank blank blank blank) blank
      → ds ≡ filled (λ (y : Yard). y.depths) (reader bs blank blank blank blank) blank
      → Found n ps cs ts ds
  read_number {n} {ps} {cs} {ts} {ds} e p c t d = go (read_yard bs) refl (rw judged at e) (rw judged at p) (rw judged at c) (rw judged at t) (rw judged at d)
    where
      go : (r : Answer Yard) → read_yard bs ≡ r → answered n ≡ mapAnswer size r
          → ps ≡ filled (λ (y : Yard). y.parents) r blank → cs ≡ filled (λ (y : Yard). y.pebbles) r blank → ts ≡ filled (λ (y : Yard). y.targets) r blank → ds ≡ filled (λ (y : Yard). y.depths) r blank
          → Found n ps cs ts ds
      go (answered y) q e p c t d =
          let m : n ≡ size y = cc in
          let s = read_sizes bs y q in
          record {
            fits = rw (p, c, t, d) (simp length-append (omega arith));
            said = rw (p, c, t, d, take_overwrite y.parents blank n (sym m), take_overwrite y.pebbles blank n (omega arith), take_overwrite y.targets blank n (omega arith), take_overwrite y.depths blank n (omega arith)) q;
          }
      go (refused f) q e p c t d = absurd (refused_ne_answered (sym e))

  pub read_refused : {f : Fault} → refused f ≡ read_answer bs blank blank blank blank → read_yard bs ≡ refused f
  read_refused {f} e = go (read_yard bs) refl (rw judged at e)
    where
      go : (r : Answer Yard) → read_yard bs ≡ r → refused f ≡ mapAnswer size r → read_yard bs ≡ refused f
      go (answered y) q e = absurd (refused_ne_answered e)
      go (refused g) q e = let h : f ≡ g = cc in rw h q

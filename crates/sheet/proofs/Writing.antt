-- Storing words into a list: a word and one behind it are stored as one, and what is left of a word is stored behind its front. So a loop that
-- stores a word part by part has, at each turn, the rest to store, which makes of the list what the whole makes of the list at the start.
use mathlib.Core.Path.{◌≡◌, refl, sym, ap, ◌∙◌, subst}
use mathlib.Core.List.{List, [], ◌∷◌, ◌++◌, append_assoc}
use Prim.Native.Nat.{ℕ, suc, ◌+◌, ◌/◌, ◌%◌, ◌≤◌, ◌<◌}
use native.Mathlib.Nat.{zero-add, add-zero, add-suc, suc-add}
use native.Mathlib.Numerals.{add-one}
use native.Mathlib.Omega.{arith}
use lib.ListN.{length, take, drop, set, get_or, length-append}
use lib.Seq.{take-append_seam, drop-cons, drop-drop, set_comm, sets, length-sets, sets-eq}
use borrow.Rule.Slice.PartMut.{put_mid}
use Rattle.model.specs.Calls.Answers.{overwrite}
use Rattle.model.specs.Sheets.{decimal}
use Rattle.sheet.specs.Written.{Written}
use Rattle.sheet.proofs.Decimals.{decimal_low, decimal_high, length_low, length_high}

sets_append : (l : List ℕ) (i : ℕ) (v w : List ℕ) → sets l i (v ++ w) ≡ sets (sets l i v) (i + length v) w
sets_append l i [] w = rw add-zero
sets_append l i (a ∷ v) w = sets_append (set l i a) (suc i) v w ∙ rw (suc-add, add-suc)

sets_last : (l : List ℕ) (i : ℕ) (w : List ℕ) (b : ℕ) → sets l i (w ++ (b ∷ [])) ≡ sets (set l (i + length w) b) i w
sets_last l i [] b = rw add-zero
sets_last l i (a ∷ w) b =
    sets_last (set l i a) (suc i) w b ∙ ap (λ (m : List ℕ). sets m (suc i) w) (rw (suc-add, add-suc) (set_comm l i (suc (i + length w)) a b (λ e. omega arith)))

-- the digits of a number, from its last to its first, each at the place i
module _ (at i n : ℕ) (l : List ℕ) (e : i + 1 ≡ at + length (decimal n)) where
  pub put_digit : 10 ≤ n → sets (set l i (48 + n % 10)) at (decimal (n / 10)) ≡ sets l at (decimal n)
  put_digit k =
      let q : i ≡ at + length (decimal (n / 10)) = omega (arith, length_high n k) in
      rw (q, decimal_high n k) (sym (sets_last l at (decimal (n / 10)) (48 + n % 10)))

  pub put_first : n < 10 → set l i (48 + n) ≡ sets l at (decimal n)
  put_first k =
      let q : i ≡ at = omega (arith, length_low n k) in
      rw (q, decimal_low n k)

-- Written
pub written_append : {v w : List ℕ} {at m e : ℕ} {old mid new : List ℕ} → Written v at old m mid → Written w m mid e new → Written (v ++ w) at old e new
written_append {v} {w} {at} {old = old} a b = record {
  list = b.list ∙ rw (a.list, a.end) (sym (sets_append old at v w));
  end = b.end ∙ rw (a.end, length-append v w) (omega arith);
}

pub written_as : {v w : List ℕ} {at e : ℕ} {old new : List ℕ} → v ≡ w → Written v at old e new → Written w at old e new
written_as {at = at} {e} {old} {new} q a = subst (λ (l : List ℕ). Written l at old e new) q a

pub written_length : {w : List ℕ} {at e : ℕ} {old new : List ℕ} → Written w at old e new → length new ≡ length old
written_length {w} {at} {old = old} a = ap length a.list ∙ length-sets old at w

pub written_none : (at : ℕ) (l : List ℕ) → Written [] at l at l
written_none at l = record { list = refl; end = omega arith }

-- a copy into a part
pub written_part : (w : List ℕ) (at k : ℕ) (l : List ℕ) → k ≡ length w → at + length w ≤ length l → Written w at l (at + length w) (put_mid at k l w)
written_part w at k l e h = record { list = rw (e, drop-drop, sets-eq w l at h) (sym (append_assoc (take at l) w (drop (at + length w) l))); end = refl }

pub written_byte : (b at : ℕ) (l : List ℕ) → Written (b ∷ []) at l (at + 1) (set l at b)
written_byte b at l = record { list = refl; end = refl }

pub written_front : {w : List ℕ} {e : ℕ} {old new : List ℕ} → Written w 0 old e new → e ≤ length old → (e ≡ length w) × (new ≡ overwrite w old)
written_front {w} {old = old} a h =
    let n = a.end in
    (omega arith, a.list ∙ sets-eq w old 0 (omega arith) ∙ rw zero-add)

-- what is at the front of a list, said otherwise
pub printed_as : {v w : List ℕ} (out : List ℕ) {new : List ℕ} {r : ℕ} → v ≡ w → (r ≡ length v) × (new ≡ overwrite v out) → (r ≡ length w) × (new ≡ overwrite w out)
printed_as out q h = rw (← q) h

pub written_taken : {w : List ℕ} {e : ℕ} {old new : List ℕ} → Written w 0 old e new → e ≤ length old → take e new ≡ w
written_taken {w} {old = old} a h =
    let f = written_front a h in
    rw (f.0, f.1) (take-append_seam w (drop (length w) old))

-- Left: to store `word` from `at` on into `list` is to store `whole` from `start` on into `old`
pub record Left (word : List ℕ) (at : ℕ) (list whole : List ℕ) (start : ℕ) (old : List ℕ) : Type 0 where
  pub same : sets list at word ≡ sets old start whole
  pub end : at + length word ≡ start + length whole

pub left_all : (w : List ℕ) (at : ℕ) (l : List ℕ) → Left w at l w at l
left_all w at l = record { same = refl; end = refl }

module _ {w : List ℕ} {at : ℕ} {l whole : List ℕ} {start : ℕ} {old : List ℕ} (r : Left w at l whole start old) where
  pub left_length : length l ≡ length old
  left_length = sym (length-sets l at w) ∙ ap length r.same ∙ length-sets old start whole

  pub left_next : {u v : List ℕ} {m : ℕ} {new : List ℕ} → w ≡ u ++ v → Written u at l m new → Left v m new whole start old
  left_next {u} {v} q a = record {
    same = rw (a.list, a.end) (sym (sets_append l at u v) ∙ ap (sets l at) (sym q) ∙ r.same);
    end = rw a.end (omega (arith, r.end, ap length q, length-append u v));
  }

  pub left_none : w ≡ [] → Written whole start old at l
  left_none q = record { list = ap (sets l at) (sym q) ∙ r.same; end = omega (arith, r.end, ap length q) }

-- the bytes of a text, one after the other
pub drop_next : (l : List ℕ) (i : ℕ) → i < length l → drop i l ≡ get_or l i 0 ∷ drop (i + 1) l
drop_next l i h = rw add-one (drop-cons l i 0 h)

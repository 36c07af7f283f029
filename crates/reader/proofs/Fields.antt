-- A value in bytes, found digit by digit. What the bytes so far write is a decimal, and one more byte makes it a longer one or none: a value's
-- decimal has only digits, no zero before another, and a number that grows with each of them.
use mathlib.Core.Path.{◌≡◌, refl, sym, ap, ◌∙◌}
use mathlib.Core.Bool.{Bool, true, not, ◌&&◌, and-eq-true_iff}
use mathlib.Core.List.{List, [], ◌∷◌, ◌++◌, append_assoc}
use mathlib.Core.Option.{Option, none, some}
use Prim.Native.Nat.{ℕ, ◌+◌, ◌-◌, ◌*◌, ◌/◌, ◌%◌, ◌≤◌, ◌<◌}
use native.Mathlib.Omega.{arith}
use lib.ListN.{length, drop, get_or, length-append}
use lib.Dec.{leb, ltb}
use borrow.Author.Tests.{leb-true, ltb-true, not-false}
use Rattle.model.specs.Yard.{below}
use Rattle.model.specs.Sheets.{digits, decimal, Field, field}
use Rattle.std.specs.Prelude as Std
use Rattle.std.specs.Prelude.{Ok, Err, Some}
use Rattle.std.specs.Result.{OkIff, result_ok}
use Rattle.reader.specs.Reading.{Extended}
use Rattle.laws.proofs.Basics.{below_none}
use Rattle.laws.proofs.Lines.{plain, number, decimal_sound, field_decimal, field_some}
use Rattle.sheet.proofs.Decimals.{decimal_low, decimal_high, length_some}
use Rattle.sheet.proofs.Writing.{drop_next}

-- a value's decimal has no byte above 57 (the code of 9), and no zero before another byte. All 256 are tried.
up_to9 : List ℕ → Bool
up_to9 [] = true
up_to9 (b ∷ bs) = (leb b 57) && (up_to9 bs)

leads : List ℕ → Bool
leads [] = true
leads (a ∷ []) = true
leads (a ∷ b ∷ bs) = ltb 48 a

tidy : ℕ → Bool
tidy v = (up_to9 (decimal v)) && (leads (decimal v))

all_tidy : below 256 (λ v. not (tidy v)) ≡ []
unfolding below tidy decimal digits up_to9 leads
all_tidy = refl

decimal_tidy : (v : ℕ) → v < 256 → (up_to9 (decimal v) ≡ true) × (leads (decimal v) ≡ true)
unfolding tidy
decimal_tidy v l = (and-eq-true_iff (up_to9 (decimal v)) (leads (decimal v))).0 (not-false (tidy v) (below_none 256 (λ v. not (tidy v)) all_tidy v l))

-- a byte within it is a digit
plain_at : (xs : List ℕ) (b : ℕ) (w : List ℕ) → plain (xs ++ (b ∷ w)) ≡ true → 48 ≤ b
unfolding plain
plain_at [] b w e = leb-true 48 b ((and-eq-true_iff (leb 48 b) (plain w)).0 e).0
plain_at (x ∷ xs) b w e = plain_at xs b w ((and-eq-true_iff (leb 48 x) (plain (xs ++ (b ∷ w)))).0 e).1

up_to9_at : (xs : List ℕ) (b : ℕ) (w : List ℕ) → up_to9 (xs ++ (b ∷ w)) ≡ true → b ≤ 57
unfolding up_to9
up_to9_at [] b w e = leb-true b 57 ((and-eq-true_iff (leb b 57) (up_to9 w)).0 e).0
up_to9_at (x ∷ xs) b w e = up_to9_at xs b w ((and-eq-true_iff (leb x 57) (up_to9 (xs ++ (b ∷ w)))).0 e).1

number_append : (n : ℕ) (xs ys : List ℕ) → number n (xs ++ ys) ≡ number (number n xs) ys
unfolding number
number_append n [] ys = refl
number_append n (x ∷ xs) ys = number_append (n * 10 + (x - 48)) xs ys

number_grows : (n : ℕ) (w : List ℕ) → n ≤ number n w
unfolding number
number_grows n [] = omega arith
number_grows n (b ∷ w) = omega (arith, number_grows (n * 10 + (b - 48)) w)

module _ (v : ℕ) (h : v < 256) (xs : List ℕ) (b : ℕ) (w : List ℕ) (e : decimal v ≡ xs ++ (b ∷ w)) where
  within : (48 ≤ b) × (b ≤ 57)
  within = (plain_at xs b w (ap plain (sym e) ∙ (decimal_sound v h).0), up_to9_at xs b w (ap up_to9 (sym e) ∙ (decimal_tidy v h).0))

  prefix_number : (u : ℕ) → u < 256 → xs ≡ decimal u → u * 10 + (b - 48) ≤ v
  unfolding number
  prefix_number u k q =
      let n : number u (b ∷ w) ≡ v = ap (λ (m : ℕ). number m (b ∷ w)) (sym (decimal_sound u k).2 ∙ ap (number 0) (sym q)) ∙ sym (number_append 0 xs (b ∷ w)) ∙ ap (number 0) (sym e) ∙ (decimal_sound v h).2 in
      omega (arith, number_grows (u * 10 + (b - 48)) w)

-- one byte more
module _ (u b : ℕ) where
  abbrev NoneGoesOn : Type 0
  NoneGoesOn = (v : ℕ) (w : List ℕ) → v < 256 → decimal v ≡ decimal u ++ (b ∷ w) → ⊥

  pub extended_zero : u ≡ 0 → NoneGoesOn
  unfolding leads
  extended_zero z v w h e =
      let q : decimal v ≡ 48 ∷ b ∷ w = e ∙ ap (λ (n : ℕ). decimal n ++ (b ∷ w)) z ∙ ap (λ (l : List ℕ). l ++ (b ∷ w)) (decimal_low 0 (omega arith)) in
      let t : ltb 48 48 ≡ true = ap leads (sym q) ∙ (decimal_tidy v h).1 in
      absurd (omega (arith, ltb-true 48 48 t))

  pub extended_other : ((48 ≤ b) × (b ≤ 57) → ⊥) → NoneGoesOn
  extended_other n v w h e = n (within v h (decimal u) b w e)

  pub extended_over : u < 256 → 256 ≤ u * 10 + (b - 48) → NoneGoesOn
  extended_over l k v w h e = let g = prefix_number v h (decimal u) b w e u l refl in omega arith

  pub extended_digit : 0 < u → 48 ≤ b → b ≤ 57 → decimal (u * 10 + (b - 48)) ≡ decimal u ++ (b ∷ [])
  extended_digit p low high =
      let n : ℕ = u * 10 + (b - 48) in
      let d : n / 10 ≡ u = omega arith in
      let m : 48 + n % 10 ≡ b = omega arith in
      decimal_high n (omega arith) ∙ rw (d, m)

-- the digit behind ten times as much, if a byte has room for both
pub extended_sum : {E : Type 0} (u b : ℕ) (r : Std.Result ℕ E) → u < 256 → (u ≡ 0 → ⊥) → 48 ≤ b → b ≤ 57 → OkIff r (u * 10 + (b - 48) < 256) (u * 10 + (b - 48)) → Extended u b (result_ok r)
extended_sum u b (Ok v) l p low high s = (omega arith, rw s.1 (extended_digit u b (omega arith) low high))
extended_sum u b (Err e) l p low high s = extended_over u b l (omega arith)

-- the bytes of a field, cut in two behind bytes of which none is its end: the first are the front of its value's decimal
behind : (stop : ℕ) (xs rest word tail : List ℕ) → stop < 48 → plain xs ≡ true → xs ++ rest ≡ word ++ (stop ∷ tail)
    → (w : List ℕ) × (word ≡ xs ++ w) × (rest ≡ w ++ (stop ∷ tail))
unfolding plain
behind stop [] rest word tail l p e = (word, refl, e)
behind stop (x ∷ xs) rest [] tail l p e =
    let q : x ≡ stop = cc in
    absurd (omega (arith, leb-true 48 x ((and-eq-true_iff (leb 48 x) (plain xs)).0 p).0))
behind stop (x ∷ xs) rest (y ∷ word) tail l p e =
    let t : xs ++ rest ≡ word ++ (stop ∷ tail) = cc in
    let r = behind stop xs rest word tail l ((and-eq-true_iff (leb 48 x) (plain xs)).0 p).1 t in
    (r.0, cc r.1, r.2)

unread : (stop : ℕ) (bs : List ℕ) → ((f : Field) → field stop bs ≡ some f → ⊥) → none ≡ field stop bs
unread stop bs n = go (field stop bs) refl
  where
    go : (o : Option Field) → field stop bs ≡ o → none ≡ o
    go none e = refl
    go (some f) e = absurd (n f e)

module _ (stop : ℕ) (low : stop < 48) where
  pub field_nothing : (bs : List ℕ) → bs ≡ [] → none ≡ field stop bs
  field_nothing bs z = unread stop bs (λ f e. let q = field_some stop bs e in omega (arith, simp length-append at (ap length (sym z ∙ q.0))))

  -- a first byte that is no digit
  pub field_first : (bs : List ℕ) (b : ℕ) (rest : List ℕ) → bs ≡ b ∷ rest → ((48 ≤ b) × (b ≤ 57) → ⊥) → none ≡ field stop bs
  field_first bs b rest z n = unread stop bs (λ f e. let q = field_some stop bs e in go f.value q.1 f.rest (decimal f.value) refl (sym z ∙ q.0))
    where
      go : (v : ℕ) → v < 256 → (tail word : List ℕ) → decimal v ≡ word → b ∷ rest ≡ word ++ (stop ∷ tail) → ⊥
      go v h tail [] d e = omega (arith, length_some v, ap length d)
      go v h tail (x ∷ word) d e = let q : decimal v ≡ b ∷ word = cc in n (within v h [] b word q)

  -- behind the decimal of u: the end of the bytes, the end of the field, or another byte
  module _ (bs : List ℕ) (u : ℕ) (h : u < 256) (rest : List ℕ) (z : bs ≡ decimal u ++ rest) where
    split : (f : Field) → field stop bs ≡ some f → (w : List ℕ) × (decimal f.value ≡ decimal u ++ w) × (rest ≡ w ++ (stop ∷ f.rest))
    split f e = behind stop (decimal u) rest (decimal f.value) f.rest low (decimal_sound u h).0 (sym z ∙ (field_some stop bs e).0)

    pub field_end : rest ≡ [] → none ≡ field stop bs
    field_end n = unread stop bs (λ f e. let r = split f e in omega (arith, simp length-append at (ap length (sym n ∙ r.2))))

    pub field_found : (tail : List ℕ) → rest ≡ stop ∷ tail → some (record { value = u; rest = tail }) ≡ field stop bs
    field_found tail q = sym (ap (field stop) (z ∙ ap (λ (l : List ℕ). decimal u ++ l) q) ∙ field_decimal stop u tail low h)

    pub field_break : (b : ℕ) (tail : List ℕ) → rest ≡ b ∷ tail → (b ≡ stop → ⊥) → NoneGoesOn u b → none ≡ field stop bs
    field_break b tail q n x = unread stop bs (λ f e. let r = split f e in go f (field_some stop bs e).1 r.0 r.1 (sym q ∙ r.2))
      where
        go : (f : Field) → f.value < 256 → (w : List ℕ) → decimal f.value ≡ decimal u ++ w → b ∷ tail ≡ w ++ (stop ∷ f.rest) → ⊥
        go f l [] d e = let p : b ≡ stop = cc in n p
        go f l (c ∷ w) d e = let p : decimal f.value ≡ decimal u ++ (b ∷ w) = cc in x f.value w l p

pub field_begins : (l : List ℕ) (i : ℕ) → i < length l → 48 ≤ get_or l i 0 → get_or l i 0 ≤ 57 → drop i l ≡ decimal (get_or l i 0 - 48) ++ drop (i + 1) l
field_begins l i h low high =
    let e : 48 + (get_or l i 0 - 48) ≡ get_or l i 0 = omega arith in
    drop_next l i h ∙ sym (rw (decimal_low (get_or l i 0 - 48) (omega arith), e))

pub field_goes_on : (bs l : List ℕ) (i u : ℕ) {r : ℕ} → i < length l → bs ≡ decimal u ++ drop i l
    → Extended u (get_or l i 0) (Some r) → bs ≡ decimal r ++ drop (i + 1) l
field_goes_on bs l i u h z x = z ∙ rw (drop_next l i h, x.1) (sym (append_assoc (decimal u) (get_or l i 0 ∷ []) (drop (i + 1) l)))

-- Words and lines of sheets. A decimal has no space and no line feed, and no two values below 256 have the same; so a line is read as the
-- values that it writes, and what is read as k values is the line of k values below 256.
use mathlib.Core.Path.{◌≡◌, refl, sym, ap, ◌∙◌, subst}
use mathlib.Core.Bool.{Bool, true, false, not, ◌&&◌, and-eq-true_iff}
use mathlib.Core.List.{List, [], ◌∷◌, ◌++◌, head?, append_assoc}
use mathlib.Core.Option.{Option, none, some, map, some-injective, none-ne-some}
use Prim.Native.Nat.{ℕ, zero, suc, ◌+◌, ◌-◌, ◌*◌, ◌≤◌, ◌<◌}
use native.Mathlib.Omega.{arith}
use lib.ListN.{length, take, drop, length-append, take-append-drop}
use lib.Seq.{take-append-add}
use lib.Dec.{leb, eqb}
use borrow.Author.Tests.{leb-true, eqb-true, eq-eqb, ne_eqb, not-false}
use Rattle.model.specs.Yard.{below}
use Rattle.model.specs.Sheets.{◌>>=◌, digits, decimal, stopBefore, line, line_values, Part, cut, same, value, Field, field, Line, readLine}
use Rattle.laws.proofs.Basics.{All, all_below, below_none}

-- decimal: of a value below 256 it has at most three bytes, none below 48 (the code of 0), and the value can be told from it. All 256 are
-- tried.
unfoldable pub plain : List ℕ → Bool
plain [] = true
plain (b ∷ bs) = (leb 48 b) && (plain bs)

unfoldable pub number : ℕ → List ℕ → ℕ
number n [] = n
number n (b ∷ bs) = number (n * 10 + (b - 48)) bs

sound : ℕ → Bool
sound v = (plain (decimal v)) && ((leb (length (decimal v)) 3) && (eqb (number 0 (decimal v)) v))

all_sound : below 256 (λ v. not (sound v)) ≡ []
unfolding below sound decimal digits plain number
all_sound = refl

pub decimal_sound : (v : ℕ) → v < 256 → (plain (decimal v) ≡ true) × (length (decimal v) ≤ 3) × (number 0 (decimal v) ≡ v)
unfolding sound
decimal_sound v l =
    let s = not-false (sound v) (below_none 256 (λ v. not (sound v)) all_sound v l) in
    let p = (and-eq-true_iff (plain (decimal v)) _).0 s in
    let q = (and-eq-true_iff (leb (length (decimal v)) 3) _).0 p.1 in
    (p.0, leb-true _ _ q.0, eqb-true _ _ q.1)

-- same: equal lists
pub same_true : (a b : List ℕ) → same a b ≡ true → a ≡ b
unfolding same
same_true [] [] e = refl
same_true [] (b ∷ bs) e = cc
same_true (a ∷ xs) [] e = cc
same_true (a ∷ xs) (b ∷ bs) e =
    let p = (and-eq-true_iff (eqb a b) (same xs bs)).0 e in
    cc (eqb-true a b p.0, same_true xs bs p.1)

pub same_self : (a : List ℕ) → same a a ≡ true
unfolding same
same_self [] = refl
same_self (a ∷ xs) = rw (eq-eqb a a refl) (same_self xs)

-- value: the one number below 256 whose decimal the word is
abbrev Writes : List ℕ → ℕ → Type 0
Writes word v = (decimal v ≡ word) × (v < 256)

all_write : (word : List ℕ) → All (Writes word) (below 256 (λ v. same (decimal v) word))
all_write word = all_below (Writes word) _ 256 (λ v l e. (same_true _ _ e, l))

value_some : (word : List ℕ) {v : ℕ} → value word ≡ some v → Writes word v
unfolding value
value_some word {v} = go (below 256 (λ v. same (decimal v) word)) (all_write word)
  where
    go : (l : List ℕ) → All (Writes word) l → head? l ≡ some v → Writes word v
    go [] a e = absurd (none-ne-some v e)
    go (w ∷ l) a e = subst (Writes word) (some-injective w v e) a.0

value_decimal : (v : ℕ) → v < 256 → value (decimal v) ≡ some v
unfolding value
value_decimal v l = go (below 256 (λ w. same (decimal w) (decimal v))) refl (all_write (decimal v))
  where
    go : (l : List ℕ) → below 256 (λ w. same (decimal w) (decimal v)) ≡ l → All (Writes (decimal v)) l → head? l ≡ some v
    go [] e a = let z : true ≡ false = sym (same_self (decimal v)) ∙ below_none 256 _ e v l in cc
    go (w ∷ _) e a = ap some (sym (decimal_sound w a.0.1).2 ∙ ap (number 0) a.0.0 ∙ (decimal_sound v l).2)

-- a chain of readings that finds something: each of them does
chain_some : {A B : Type 0} (o : Option A) (f : A → Option B) {b : B} → ◌>>=◌ o f ≡ some b → (a : A) × (o ≡ some a) × (f a ≡ some b)
chain_some none f {b} e = absurd (none-ne-some b e)
chain_some (some a) f e = (a, refl, e)

-- cut: the word before the first stop
cut_plain : (stop : ℕ) (word rest : List ℕ) → stop < 48 → plain word ≡ true
    → cut stop (word ++ (stop ∷ rest)) ≡ some (record { before = word; behind = rest })
unfolding cut plain
cut_plain stop [] rest l e = rw (eq-eqb stop stop refl, cut)
cut_plain stop (b ∷ word) rest l e =
    let p = (and-eq-true_iff (leb 48 b) (plain word)).0 e in
    let high : 48 ≤ b = leb-true 48 b p.0 in
    rw (ne_eqb b stop (λ q. omega arith), cut) (rw (cut_plain stop word rest l p.1))

abbrev Parts : ℕ → List ℕ → Part → Type 0
Parts stop bs p = bs ≡ p.before ++ (stop ∷ p.behind)

cut_some : (stop : ℕ) (bs : List ℕ) (p : Part) → cut stop bs ≡ some p → Parts stop bs p
unfolding cut
cut_some stop [] p e = absurd (none-ne-some p e)
cut_some stop (b ∷ bs) p e = go (eqb b stop) refl (cut_some stop bs)
  where
    go : (t : Bool) → eqb b stop ≡ t → ((r : Part) → cut stop bs ≡ some r → Parts stop bs r) → Parts stop (b ∷ bs) p
    go true q ih = rw (← some-injective _ p (rw (q, cut) at e), eqb-true b stop q)
    go false q ih =
        let r = chain_some (cut stop bs) _ (rw (q, cut) at e) in
        rw (← some-injective _ p r.2) (ap (λ (l : List ℕ). b ∷ l) (ih r.0 r.1))

-- field: a value below 256 and the byte that ends it
pub field_decimal : (stop v : ℕ) (rest : List ℕ) → stop < 48 → v < 256
    → field stop (decimal v ++ (stop ∷ rest)) ≡ some (record { value = v; rest = rest })
unfolding field
field_decimal stop v rest l h = rw (cut_plain stop (decimal v) rest l (decimal_sound v h).0, field) (rw (value_decimal v h))

pub field_some : (stop : ℕ) (bs : List ℕ) {f : Field} → field stop bs ≡ some f → (bs ≡ decimal f.value ++ (stop ∷ f.rest)) × (f.value < 256)
unfolding field
field_some stop bs {f} e =
    let p = chain_some (cut stop bs) _ e in
    let v = chain_some (value p.0.before) _ p.2 in
    let w = value_some p.0.before v.1 in
    rw (← some-injective _ f v.2, w.0) (cut_some stop bs p.0 p.1, w.1)

-- line: of values below 256 it has at most 4 bytes a value, the one that ends it counted
abbrev pub Values : List ℕ → Type 0
Values = All (λ v. v < 256)

pub length_line : (vs : List ℕ) → Values vs → (length vs ≤ length (line vs)) × (length (line vs) ≤ 4 * length vs)
unfolding line
length_line [] b = omega arith
length_line (v ∷ vs) b = rw (length-append (decimal v)) (omega (arith, (decimal_sound v b.0).1, length_line vs b.1))

-- a node's line has at most so many bytes
abbrev pub line_bytes : ℕ
line_bytes = 4 * line_values

line_append : (v : ℕ) (vs rest : List ℕ) → line (v ∷ vs) ++ rest ≡ decimal v ++ (stopBefore (length vs) ∷ (line vs ++ rest))
unfolding line
line_append v vs rest = append_assoc (decimal v) _ rest

-- readLine: what is read as k values are bytes that begin with the line of k values below 256, and such bytes are read
pub record Begins (k : ℕ) (bs : List ℕ) (l : Line) : Type 0 where
  pub count : length l.values ≡ k
  pub small : Values l.values
  pub text : bs ≡ line l.values ++ l.rest

pub stop_low : (k : ℕ) → stopBefore k < 48
unfolding stopBefore
stop_low zero = omega arith
stop_low (suc k) = omega arith

read_line_line : (vs rest : List ℕ) → Values vs → readLine (length vs) (line vs ++ rest) ≡ some (record { values = vs; rest = rest })
unfolding readLine line
read_line_line [] rest b = refl
read_line_line (v ∷ vs) rest b = rw (
  line_append v vs rest,
  field_decimal (stopBefore (length vs)) v _ (stop_low (length vs)) b.0,
  read_line_line vs rest b.1,
)

pub read_line_begins : {k : ℕ} {bs : List ℕ} {l : Line} → Begins k bs l → readLine k bs ≡ some l
read_line_begins {l = l} b = rw (← b.count, b.text) (read_line_line l.values l.rest b.small)

begins_next : {k v : ℕ} {bs tail : List ℕ} {l : Line} → (bs ≡ decimal v ++ (stopBefore k ∷ tail)) × (v < 256) → Begins k tail l
    → Begins (suc k) bs (record { values = v ∷ l.values; rest = l.rest })
begins_next {v = v} {l = l} f b = record {
  count = ap suc b.count;
  small = (f.1, b.small);
  text = f.0 ∙ rw (b.text, ← b.count) (sym (line_append v l.values l.rest));
}

pub read_line_some : (k : ℕ) (bs : List ℕ) {l : Line} → readLine k bs ≡ some l → Begins k bs l
unfolding readLine line
read_line_some zero bs {l} e = subst (Begins zero bs) (some-injective _ l e) (record { count = refl; small = tt; text = refl })
read_line_some (suc k) bs {l} e =
    let f = chain_some (field (stopBefore k) bs) _ e in
    let m = chain_some (readLine k f.0.rest) _ f.2 in
    subst (Begins (suc k) bs) (some-injective _ l m.2) (begins_next (field_some (stopBefore k) bs f.1) (read_line_some k f.0.rest m.1))

-- A list cut at 4 bytes a value or more is read as the whole: a line takes no more, and one that is read in the list is read in the whole.
abbrev pub cut_line : ℕ → Line → Line
cut_line m l = record { values = l.values; rest = take (m - length (line l.values)) l.rest }

take_behind : (m : ℕ) (xs ys : List ℕ) → length xs ≤ m → take m (xs ++ ys) ≡ xs ++ take (m - length xs) ys
take_behind m xs ys h =
    let q : m ≡ length xs + (m - length xs) = omega arith in
    ap (λ (n : ℕ). take n (xs ++ ys)) q ∙ take-append-add xs ys (m - length xs)

pub read_line_take : (k m : ℕ) (bs : List ℕ) → 4 * k ≤ m → readLine k (take m bs) ≡ map (cut_line m) (readLine k bs)
read_line_take k m bs h = go (readLine k bs) refl (readLine k (take m bs)) refl
  where
    resting : {cs ds rest : List ℕ} {l : Line} → Begins k cs l → ds ≡ line l.values ++ rest → readLine k ds ≡ some (record { values = l.values; rest = rest })
    resting b q = read_line_begins (record { count = b.count; small = b.small; text = q })

    go : (o : Option Line) → readLine k bs ≡ o → (c : Option Line) → readLine k (take m bs) ≡ c → readLine k (take m bs) ≡ map (cut_line m) o
    go (some l) p c q =
        let b = read_line_some k bs p in
        let n : length (line l.values) ≤ m = omega (arith, (length_line l.values b.small).1, b.count) in
        resting b (ap (take m) b.text ∙ take_behind m (line l.values) l.rest n)
    go none p none q = q
    go none p (some l) q =
        let b = read_line_some k (take m bs) q in
        let t : bs ≡ line l.values ++ (l.rest ++ drop m bs) = sym (take-append-drop m bs) ∙ rw (b.text, append_assoc) in
        absurd (none-ne-some _ (sym p ∙ resting b t))

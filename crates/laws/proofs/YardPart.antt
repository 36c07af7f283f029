-- Where the yard sheet in front of an input ends (`yard_part`): a written sheet is that part where no digit follows, the part is the front of the input, and of an
-- input that is cut it is cut.
use mathlib.Core.Path.{◌≡◌, refl, sym, ap, ◌∙◌}
use mathlib.Core.Bool.{Bool, true, false, not, cond, ◌&&◌, and-eq-true_iff}
use mathlib.Core.List.{List, [], ◌∷◌, ◌++◌, map, append_assoc}
use Prim.Native.Nat.{ℕ, zero, suc, ◌+◌, ◌≤◌, ◌<◌}
use native.Mathlib.Omega.{arith}
use lib.ListN.{length, take}
use lib.Dec.{leb, eqb}
use borrow.Author.Tests.{leb-true, ne_eqb, not-false}
use Rattle.model.specs.Yard.{Yard, size, max_size, below}
use Rattle.model.specs.Calls.Answers.{range}
use Rattle.model.specs.Sheets.{text, digits, decimal, stopBefore, line, lines, space, line_feed, header, yard_sheet, node_values}
use Rattle.model.specs.CheckSheets.{digit_first, yard_part}
use Rattle.laws.proofs.Basics.{All, below_none}
use Rattle.laws.proofs.Lines.{plain, decimal_sound, Values}
use Rattle.laws.proofs.Sheets.{YardBytes}

-- yard_part: of a list that is cut it is cut
cond_same : {A : Type 0} (t : Bool) (a : A) → cond t a a ≡ a
cond_same true a = refl
cond_same false a = refl

cond_take : (t : Bool) (m : ℕ) (l : List ℕ) → cond t [] (take (suc m) l) ≡ take (suc m) (cond t [] l)
cond_take true m l = refl
cond_take false m l = refl

pub yard_part_take : (m : ℕ) (bs : List ℕ) → yard_part (take m bs) ≡ take m (yard_part bs)
unfolding yard_part digit_first
yard_part_take zero bs = refl
yard_part_take (suc m) [] = refl
yard_part_take (suc zero) (b ∷ bs) = ap (λ (l : List ℕ). b ∷ l) (cond_same ((eqb b line_feed) && (not (digit_first []))) [])
yard_part_take (suc (suc m)) (b ∷ []) = ap (λ (l : List ℕ). b ∷ l) (cond_take ((eqb b line_feed) && (not (digit_first []))) m [])
yard_part_take (suc (suc m)) (b ∷ c ∷ bs) =
    let t : Bool = (eqb b line_feed) && (not (digit_first (c ∷ bs))) in
    ap (λ (l : List ℕ). b ∷ cond t [] l) (yard_part_take (suc m) (c ∷ bs)) ∙ ap (λ (l : List ℕ). b ∷ l) (cond_take t m (yard_part (c ∷ bs)))

-- it is the front of the list
abbrev begun : ℕ → List ℕ → Bool → List ℕ
begun b part t = b ∷ cond t [] part

pub yard_part_front : (l : List ℕ) → (take (length (yard_part l)) l ≡ yard_part l) × (length (yard_part l) ≤ length l)
unfolding yard_part
yard_part_front [] = (refl, omega arith)
yard_part_front (b ∷ bs) = go ((eqb b line_feed) && (not (digit_first bs))) (yard_part_front bs)
  where
    go : (t : Bool) → (take (length (yard_part bs)) bs ≡ yard_part bs) × (length (yard_part bs) ≤ length bs)
        → (take (length (begun b (yard_part bs) t)) (b ∷ bs) ≡ begun b (yard_part bs) t) × (length (begun b (yard_part bs) t) ≤ length (b ∷ bs))
    go true h = (refl, omega arith)
    go false h = (ap (λ (l : List ℕ). b ∷ l) h.0, omega (arith, h.1))

-- a value's decimal begins with a digit; all 256 are tried
all_first : below 256 (λ v. not (digit_first (decimal v))) ≡ []
unfolding below decimal digits digit_first
all_first = refl

first_append : (xs ys : List ℕ) → digit_first xs ≡ true → digit_first (xs ++ ys) ≡ true
unfolding digit_first
first_append [] ys e = cc
first_append (x ∷ xs) ys e = e

decimal_first : (v : ℕ) (rest : List ℕ) → v < 256 → digit_first (decimal v ++ rest) ≡ true
decimal_first v rest l = first_append (decimal v) rest (not-false _ (below_none 256 (λ v. not (digit_first (decimal v))) all_first v l))

-- and has no line feed
yard_part_plain : (xs rest : List ℕ) → plain xs ≡ true → yard_part (xs ++ rest) ≡ xs ++ yard_part rest
unfolding plain yard_part
yard_part_plain [] rest e = refl
yard_part_plain (x ∷ xs) rest e =
    let p = (and-eq-true_iff (leb 48 x) (plain xs)).0 e in
    let high : 48 ≤ x = leb-true 48 x p.0 in
    rw (ne_eqb x 10 (λ q. omega arith)) (ap (λ (l : List ℕ). x ∷ l) (yard_part_plain xs rest p.1))

-- what of a list behind a line feed belongs to the yard sheet
abbrev following : List ℕ → List ℕ
following rest = cond (not (digit_first rest)) [] (yard_part rest)

yard_part_line : (v : ℕ) (vs rest : List ℕ) → Values (v ∷ vs) → yard_part (line (v ∷ vs) ++ rest) ≡ line (v ∷ vs) ++ following rest
unfolding line stopBefore yard_part
yard_part_line v [] rest b =
    ap yard_part (append_assoc (decimal v) (line_feed ∷ []) rest)
    ∙ yard_part_plain (decimal v) (line_feed ∷ rest) (decimal_sound v b.0).0
    ∙ sym (append_assoc (decimal v) (line_feed ∷ []) (following rest))
yard_part_line v (w ∷ vs) rest b =
    ap yard_part (append_assoc (decimal v) (space ∷ line (w ∷ vs)) rest)
    ∙ yard_part_plain (decimal v) (space ∷ (line (w ∷ vs) ++ rest)) (decimal_sound v b.0).0
    ∙ ap (λ (l : List ℕ). decimal v ++ (space ∷ l)) (yard_part_line w vs rest b.1)
    ∙ sym (append_assoc (decimal v) (space ∷ line (w ∷ vs)) (following rest))

-- a line of values, one at least
abbrev Valued : List ℕ → Type 0
Valued vs = (0 < length vs) × Values vs

pub row_first : (vs rest : List ℕ) → Valued vs → digit_first (line vs ++ rest) ≡ true
unfolding line
row_first [] rest r = absurd (omega arith)
row_first (v ∷ vs) rest r = rw (append_assoc (decimal v)) (decimal_first v _ r.1.0)

following_lines : (rows : List (List ℕ)) (rest : List ℕ) → All Valued rows → digit_first rest ≡ false → following (lines rows ++ rest) ≡ lines rows
unfolding lines
following_lines [] rest a e = rw e
following_lines ([] ∷ rows) rest a e = absurd (omega (arith, a.0.0))
following_lines ((v ∷ vs) ∷ rows) rest a e =
    rw (append_assoc (line (v ∷ vs)) (lines rows) rest, row_first (v ∷ vs) (lines rows ++ rest) a.0, yard_part_line v vs (lines rows ++ rest) a.0.1, following_lines rows rest a.1 e)

node_rows : (y : Yard) → YardBytes y → (v n : ℕ) → v + n ≤ 256 → All Valued (map (node_values y) (range v n))
unfolding range
node_rows y b v zero h = tt
node_rows y b v (suc n) h = ((omega arith, omega (arith, b.0 v, b.1 v, b.2 v, b.3 v)), node_rows y b (suc v) n (omega arith))

pub yard_part_sheet : (y : Yard) (rest : List ℕ) → size y ≤ max_size → YardBytes y → digit_first rest ≡ false → yard_part (yard_sheet y ++ rest) ≡ yard_sheet y
unfolding yard_sheet header text yard_part
yard_part_sheet y rest h b e = ap (λ (l : List ℕ). header ++ l) (following_lines (map (node_values y) (range 0 (size y))) rest (node_rows y b 0 (size y) (omega arith)) e)

-- What is left of a sheet: a line from a value on is that value, the byte that ends it, and the line from the next on; the lines from a node or a
-- move on are its line and those from the next on.
use mathlib.Core.Path.{◌≡◌, refl, sym, ap, ◌∙◌}
use mathlib.Core.List.{List, [], ◌∷◌, ◌++◌, map, append_assoc}
use Prim.Native.Nat.{ℕ, zero, suc, ◌+◌, ◌-◌, ◌*◌, ◌≤◌, ◌<◌}
use native.Mathlib.Nat.{sub-zero}
use native.Mathlib.Numerals.{add-one}
use native.Mathlib.Omega.{arith}
use lib.ListN.{length, drop, get_or, length-append, length-drop, drop_of_length-le}
use Rattle.model.specs.Yard.{Yard, size}
use Rattle.model.specs.Push.{Move}
use Rattle.model.specs.Calls.Answers.{range}
use Rattle.model.specs.Calls.Plans.{moves_of}
use Rattle.model.specs.Sheets.{text, space, line_feed, decimal, stopBefore, line, lines, header, node_values, yard_sheet, move_lines}
use Rattle.laws.proofs.Lines.{length_line}
use Rattle.sheet.proofs.Decimals.{decimal_six}
use Rattle.sheet.proofs.Writing.{drop_next}

-- a value and the byte that ends it, and the line from the next value on
pub stop_last : (k : ℕ) → k ≡ 0 → line_feed ≡ stopBefore k
unfolding stopBefore
stop_last zero e = refl
stop_last (suc k) e = absurd (omega arith)

pub stop_inner : (k : ℕ) → (k ≡ 0 → ⊥) → space ≡ stopBefore k
unfolding stopBefore
stop_inner zero n = absurd (n refl)
stop_inner (suc k) n = refl

module _ (vs : List ℕ) (i : ℕ) (h : i < length vs) where
  pub line_next : line (drop i vs) ≡ (decimal (get_or vs i 0) ++ (stopBefore (length vs - 1 - i) ∷ [])) ++ line (drop (i + 1) vs)
  unfolding line
  line_next =
      let n : length vs - (i + 1) ≡ length vs - 1 - i = omega arith in
      rw (drop_next vs i h, length-drop (i + 1) vs, n) (sym (append_assoc (decimal (get_or vs i 0)) _ _))

  pub length_line_next : length (line (drop i vs)) ≡ length (decimal (get_or vs i 0)) + 1 + length (line (drop (i + 1) vs))
  length_line_next = rw line_next (simp length-append (omega arith))

pub line_end : (vs : List ℕ) (i : ℕ) → length vs ≤ i → line (drop i vs) ≡ []
unfolding line
line_end vs i h = rw (drop_of_length-le vs h)

-- the lines of the nodes from v on
abbrev pub rows : Yard → ℕ → List ℕ
rows y v = lines (map (node_values y) (range v (size y - v)))

module _ (y : Yard) where
  pub rows_next : (v : ℕ) → v < size y → rows y v ≡ line (node_values y v) ++ rows y (v + 1)
  unfolding lines range
  rows_next v h = let m : size y - v ≡ suc (size y - (v + 1)) = omega arith in rw (m, add-one v)

  pub length_rows_next : (v : ℕ) → v < size y → length (rows y v) ≡ length (line (node_values y v)) + length (rows y (v + 1))
  length_rows_next v h = ap length (rows_next v h) ∙ length-append (line (node_values y v)) (rows y (v + 1))

  pub rows_end : (v : ℕ) → size y ≤ v → rows y v ≡ []
  unfolding lines range
  rows_end v h = let m : size y - v ≡ 0 = omega arith in rw m

  pub rows_all : header ++ rows y 0 ≡ yard_sheet y
  unfolding yard_sheet
  rows_all = rw sub-zero

  pub length_yard_sheet : 30 + length (rows y 0) ≡ length (yard_sheet y)
  unfolding header text
  length_yard_sheet = sym (length-append header (rows y 0)) ∙ ap length rows_all

-- the lines of a plan's moves: that of the first, then those of the rest
abbrev pub moves : List ℕ → List ℕ
moves plan = lines (map (λ (m : Move). m.from ∷ m.to ∷ []) (moves_of plan))

pub moves_next : (pair rest : List ℕ) → length pair ≡ 2 → moves (pair ++ rest) ≡ line (get_or pair 0 0 ∷ get_or pair 1 0 ∷ []) ++ moves rest
unfolding lines moves_of
moves_next [] rest h = absurd (omega arith)
moves_next (a ∷ []) rest h = absurd (omega arith)
moves_next (a ∷ b ∷ []) rest h = refl
moves_next (a ∷ b ∷ d ∷ pair) rest h = absurd (omega arith)

pub length_moves_next : (plan : List ℕ) (i : ℕ) → i + 1 < length plan
    → length (moves (drop i plan)) ≡ length (line (get_or plan i 0 ∷ get_or plan (i + 1) 0 ∷ [])) + length (moves (drop (i + 2) plan))
unfolding lines moves_of
length_moves_next plan i h =
    let n : i + 1 + 1 ≡ i + 2 = omega arith in
    rw (drop_next plan i (omega arith), drop_next plan (i + 1) h, n)
    (length-append (line (get_or plan i 0 ∷ get_or plan (i + 1) 0 ∷ [])) (moves (drop (i + 2) plan)))

pub moves_end : (plan : List ℕ) → length plan < 2 → moves plan ≡ []
unfolding lines moves_of
moves_end [] h = refl
moves_end (a ∷ []) h = refl
moves_end (a ∷ b ∷ plan) h = absurd (omega arith)

pub moves_all : (plan : List ℕ) → text "from to\n" ++ moves plan ≡ move_lines (moves_of plan)
unfolding move_lines
moves_all plan = refl

-- which take at most 4 bytes for each of a plan's
pub length_moves : (plan : List ℕ) → ((i : ℕ) → get_or plan i 0 < 256) → length (moves plan) ≤ 4 * length plan
unfolding lines moves_of
length_moves [] h = omega arith
length_moves (a ∷ []) h = omega arith
length_moves (a ∷ b ∷ plan) h =
    rw (length-append (line (a ∷ b ∷ [])))
    (omega (arith, (length_line (a ∷ b ∷ []) (h 0, (h 1, tt))).1, length_moves plan (λ i. h (suc (suc i)))))

pub length_move_lines : (plan : List ℕ) → ((i : ℕ) → get_or plan i 0 < 256) → length (move_lines (moves_of plan)) ≤ 8 + 4 * length plan
unfolding text
length_move_lines plan h = omega (arith, ap length (moves_all plan), length-append (text "from to\n") (moves plan), length_moves plan h)

-- a line of two values
pub length_pair : (n p : ℕ) → n < 1_000_000 → p < 1_000_000 → length (line (n ∷ p ∷ [])) ≤ 14
unfolding line
length_pair n p a b = simp length-append (omega (arith, decimal_six n a, decimal_six p b))

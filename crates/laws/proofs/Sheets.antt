-- Sheets. What is written and read again is the same lists, and what is read and written again the same bytes: the reader accepts exactly the
-- lines that the writer writes. A legal sheet has at most 5,040 bytes, so the program may cut its input at 5,200.
use mathlib.Core.Path.{◌≡◌, refl, sym, ap, ◌∙◌, subst}
use mathlib.Core.Bool.{Bool, true, false, ◌&&◌, and-eq-true_iff}
use mathlib.Core.List.{List, [], ◌∷◌, ◌++◌, map, map-map}
use mathlib.Core.Option.{Option, none, some, none-ne-some}
use Prim.Native.Nat.{ℕ, zero, suc, ◌+◌, ◌-◌, ◌*◌, ◌≤◌, ◌<◌}
use native.Mathlib.Nat.{zero-add, suc-add, add-zero, add-suc, sub-zero, suc-sub-suc}
use native.Mathlib.Omega.{arith}
use lib.ListN.{length, take, drop, get_or, replicate, length-append, length-map, take-append-drop}
use lib.Seq.{take-nil, take-take, take-append_seam, drop-append_seam}
use lib.Dec.{leb, ltb, eqb}
use borrow.Author.Tests.{ltb-true, leb-true, le-leb, eqb-true, eq-eqb, ne_eqb}
use native.Mathlib.Decide.{ℕ_discrete}
use Rattle.model.specs.Yard.{Yard, size, max_size}
use Rattle.model.specs.Judge.{Fault, row}
use Rattle.model.specs.Calls.Answers.{Answer, answered, refused, InTable, mapAnswer, range}
use Rattle.model.specs.Sheets.{text, digits, decimal, line, lines, header, yard_sheet, max_sheet_bytes, write_tests, write_fault, cut, same, field, Line, readLine, line_values, node_values, node_of, column, columns, readNodes, read_yard, reader, judged_bytes, printed_of, program}
use Rattle.model.proofs.Worked.{longest, longest_length}
use Rattle.laws.proofs.Basics.{none_all, unless_none}
use Rattle.laws.proofs.Lines.{decimal_sound, Values, same_true, same_self, Begins, length_line, line_bytes, read_line_begins, read_line_some, cut_line, read_line_take}

-- a list of bytes
abbrev pub Bytes : List ℕ → Type 0
Bytes l = (i : ℕ) → get_or l i 0 < 256

abbrev pub YardBytes : Yard → Type 0
YardBytes y = Bytes y.parents × Bytes y.pebbles × Bytes y.targets × Bytes y.depths

bytes_cons : {b : ℕ} (l : List ℕ) → b < 256 → Bytes l → Bytes (b ∷ l)
bytes_cons l h g zero = h
bytes_cons l h g (suc i) = g i

values_bytes : (vs : List ℕ) → Values vs → Bytes vs
values_bytes [] b = λ i. omega arith
values_bytes (v ∷ vs) b = bytes_cons vs b.0 (values_bytes vs b.1)

-- answers
pub refused_ne_answered : {A : Type 0} {f : Fault} {a : A} → refused f ≡ answered a → ⊥
refused_ne_answered e = let z : ◌≡◌ {A = ℕ} 0 1 = cc in omega arith

pub answered_injective : {A : Type 0} {a b : A} → answered a ≡ answered b → a ≡ b
answered_injective e = cc

pub map_answer_answered : {A B : Type 0} (f : A → B) (a : Answer A) {b : B} → mapAnswer f a ≡ answered b → (z : A) × (a ≡ answered z) × (f z ≡ b)
map_answer_answered f (answered z) e = (z, refl, answered_injective e)
map_answer_answered f (refused r) e = absurd (refused_ne_answered e)

-- readNodes, case by case: no line more, one too many, one of another shape, one of another node, the next one
abbrev checked : ℕ → ℕ → Line → Bool → Answer (List (List ℕ))
checked k v l t = elim t [ true ↦ mapAnswer (◌∷◌ l.values) (readNodes k (suc v) l.rest) | false ↦ refused (row 17 (v + 2)) ]

abbrev parsed : ℕ → ℕ → Option Line → Answer (List (List ℕ))
parsed k v o = elim o [ none ↦ refused (row 16 (v + 2)) | some l ↦ checked k v l (eqb (node_of l) v) ]

pub read_nodes_end : (k v : ℕ) → readNodes k v [] ≡ answered []
unfolding readNodes
read_nodes_end zero v = refl
read_nodes_end (suc k) v = refl

pub read_nodes_over : (v b : ℕ) (bs : List ℕ) → readNodes 0 v (b ∷ bs) ≡ refused (row 1 (v + 2))
unfolding readNodes
read_nodes_over v b bs = refl

pub read_nodes_next : (k v : ℕ) (bs : List ℕ) {l : Line} → readLine line_values bs ≡ some l → node_of l ≡ v
    → readNodes (suc k) v bs ≡ mapAnswer (◌∷◌ l.values) (readNodes k (suc v) l.rest)
unfolding readNodes readLine field cut
read_nodes_next k v [] {l} e q = absurd (none-ne-some l e)
read_nodes_next k v (b ∷ bs) {l} e q = ap (parsed k v) e ∙ ap (checked k v l) (eq-eqb (node_of l) v q)

module _ (k v b : ℕ) (bs : List ℕ) where
  pub read_nodes_shape : readLine line_values (b ∷ bs) ≡ none → readNodes (suc k) v (b ∷ bs) ≡ refused (row 16 (v + 2))
  unfolding readNodes
  read_nodes_shape e = ap (parsed k v) e

  pub read_nodes_other : {l : Line} → readLine line_values (b ∷ bs) ≡ some l → (node_of l ≡ v → ⊥) → readNodes (suc k) v (b ∷ bs) ≡ refused (row 17 (v + 2))
  unfolding readNodes
  read_nodes_other {l} e n = ap (parsed k v) e ∙ ap (checked k v l) (ne_eqb (node_of l) v n)

  pub read_nodes_cases : (Q : Answer (List (List ℕ)) → Type 0)
      → (readLine line_values (b ∷ bs) ≡ none → Q (refused (row 16 (v + 2))))
      → ((l : Line) → readLine line_values (b ∷ bs) ≡ some l → (node_of l ≡ v → ⊥) → Q (refused (row 17 (v + 2))))
      → ((l : Line) → readLine line_values (b ∷ bs) ≡ some l → node_of l ≡ v → Q (mapAnswer (◌∷◌ l.values) (readNodes k (suc v) l.rest)))
      → Q (readNodes (suc k) v (b ∷ bs))
  read_nodes_cases Q shape other next = go (readLine line_values (b ∷ bs)) refl
    where
      go : (o : Option Line) → readLine line_values (b ∷ bs) ≡ o → Q (readNodes (suc k) v (b ∷ bs))
      go none e = rw (read_nodes_shape e) (shape e)
      go (some l) e = at (ℕ_discrete (node_of l) v)
        where
          at : Dec (node_of l ≡ v) → Q (readNodes (suc k) v (b ∷ bs))
          at (yes q) = rw (read_nodes_next k v (b ∷ bs) e q) (next l e q)
          at (no n) = rw (read_nodes_other e n) (other l e n)

-- It finds rows exactly where the bytes are the lines of at most k nodes, numbered from v.
data Reads : ℕ → ℕ → List ℕ → List (List ℕ) → Type 0 where
  end : {k v : ℕ} → Reads k v [] []
  next : {k v : ℕ} {bs : List ℕ} {l : Line} {rows : List (List ℕ)}
      → Begins line_values bs l → node_of l ≡ v → Reads k (suc v) l.rest rows → Reads (suc k) v bs (l.values ∷ rows)

reads_read_nodes : {k v : ℕ} {bs : List ℕ} {rows : List (List ℕ)} → Reads k v bs rows → readNodes k v bs ≡ answered rows
reads_read_nodes (end {k} {v}) = read_nodes_end k v
reads_read_nodes (next {k} {v} {bs} b e r) = read_nodes_next k v bs (read_line_begins b) e ∙ rw (reads_read_nodes r)

read_nodes_reads : (k v : ℕ) (bs : List ℕ) (rows : List (List ℕ)) → readNodes k v bs ≡ answered rows → Reads k v bs rows
unfolding readNodes
read_nodes_reads zero v [] rows e = subst (Reads zero v []) (answered_injective e) end
read_nodes_reads zero v (b ∷ bs) rows e = absurd (refused_ne_answered e)
read_nodes_reads (suc k) v [] rows e = subst (Reads (suc k) v []) (answered_injective e) end
read_nodes_reads (suc k) v (b ∷ bs) rows e =
    read_nodes_cases k v b bs (λ a. a ≡ answered rows → Reads (suc k) v (b ∷ bs) rows)
    (λ _ e. absurd (refused_ne_answered e))
    (λ _ _ _ e. absurd (refused_ne_answered e))
    (λ l p q e.
    let r = map_answer_answered (◌∷◌ l.values) (readNodes k (suc v) l.rest) e in
    subst (Reads (suc k) v (b ∷ bs)) r.2 (next (read_line_some line_values (b ∷ bs) p) q (read_nodes_reads k (suc v) l.rest r.0 r.1)))
    e

reads_lines : {k v : ℕ} {bs : List ℕ} {rows : List (List ℕ)} → Reads k v bs rows → bs ≡ lines rows
unfolding lines
reads_lines end = refl
reads_lines (next b e r) = b.text ∙ rw (reads_lines r)

-- columns: the lists that nodes' lines say, and the lines of lists
abbrev values_from : ℕ → Yard → ℕ → List ℕ
values_from v y i = (v + i) ∷ drop 1 (node_values y i)

map_range : {A : Type 0} (f : ℕ → A) (a k : ℕ) → map f (range (suc a) k) ≡ map (λ i. f (suc i)) (range a k)
unfolding range
map_range f a zero = refl
map_range {A} f a (suc k) = ap (λ (l : List A). f (suc a) ∷ l) (map_range f (suc a) k)

range_get_d : (l : List ℕ) → map (λ i. get_or l i 0) (range 0 (length l)) ≡ l
unfolding range
range_get_d [] = refl
range_get_d (x ∷ l) = ap (λ (m : List ℕ). x ∷ m) (map_range (λ i. get_or (x ∷ l) i 0) 0 (length l) ∙ range_get_d l)

node_values_law : (vs : List ℕ) (rows : List (List ℕ)) → length vs ≡ line_values → values_from (get_or vs 0 0) (columns (vs ∷ rows)) 0 ≡ vs
unfolding range
node_values_law vs rows n = rw add-zero (rw n at (range_get_d vs))

map_each : {A : Type 0} (f g : ℕ → A) (is : List ℕ) → ((i : ℕ) → f i ≡ g i) → map f is ≡ map g is
map_each f g [] e = refl
map_each {A} f g (i ∷ is) e = ap (λ (x : A). x ∷ map f is) (e i) ∙ ap (λ (l : List A). g i ∷ l) (map_each f g is e)

reads_columns : {k v : ℕ} {bs : List ℕ} {rows : List (List ℕ)} → Reads k v bs rows
    → map (λ i. values_from v (columns rows) i) (range 0 (length rows)) ≡ rows
unfolding range
reads_columns end = refl
reads_columns (next {v = v} {l = l} {rows = rows} b e r) =
    let C = columns (l.values ∷ rows) in
    let first : values_from v C 0 ≡ l.values = subst (λ w. values_from w C 0 ≡ l.values) e (node_values_law l.values rows b.count) in
    let each : (i : ℕ) → values_from v C (suc i) ≡ values_from (suc v) (columns rows) i = λ i. simp (add-suc, suc-add) in
    ap (λ (x : List ℕ). x ∷ map (values_from v C) (range 1 (length rows))) first
    ∙ ap (◌∷◌ l.values) (map_range (values_from v C) 0 (length rows) ∙ map_each _ _ (range 0 (length rows)) each ∙ reads_columns r)

yard_sheet_columns : {bs : List ℕ} {rows : List (List ℕ)} → Reads max_size 0 bs rows → yard_sheet (columns rows) ≡ header ++ bs
unfolding yard_sheet
yard_sheet_columns {rows = rows} r =
    rw (reads_lines r, length-map rows (λ (vs : List ℕ). get_or vs 1 0)) (ap (λ (l : List (List ℕ)). header ++ lines l) (simp zero-add at (reads_columns r)))

columns_yard : (y : Yard) → length y.pebbles ≡ size y → length y.targets ≡ size y → length y.depths ≡ size y → columns (map (node_values y) (range 0 (size y))) ≡ y
columns_yard y c t d = rw (
  map-map (λ (vs : List ℕ). get_or vs 1 0) (node_values y) (range 0 (size y)) ∙ range_get_d y.parents,
  map-map (λ (vs : List ℕ). get_or vs 2 0) (node_values y) (range 0 (size y)) ∙ rw c at (range_get_d y.pebbles),
  map-map (λ (vs : List ℕ). get_or vs 3 0) (node_values y) (range 0 (size y)) ∙ rw t at (range_get_d y.targets),
  map-map (λ (vs : List ℕ). get_or vs 4 0) (node_values y) (range 0 (size y)) ∙ rw d at (range_get_d y.depths),
)

reads_bytes : {k v : ℕ} {bs : List ℕ} {rows : List (List ℕ)} → Reads k v bs rows → (i : ℕ) → Bytes (column i rows)
reads_bytes end i = λ j. omega arith
reads_bytes (next {l = l} {rows = rows} b e r) i = bytes_cons (column i rows) (values_bytes l.values b.small i) (reads_bytes r i)

yard_reads : (y : Yard) → YardBytes y → (k v n : ℕ) → n ≤ k → v + n ≤ 256
    → Reads k v (lines (map (node_values y) (range v n))) (map (node_values y) (range v n))
unfolding lines range
yard_reads y b k v zero h l = end
yard_reads y b zero v (suc n) h l = absurd (omega arith)
yard_reads y b (suc k) v (suc n) h l =
    next {l = record { values = node_values y v; rest = lines (map (node_values y) (range (suc v) n)) }}
    (record { count = refl; small = omega (arith, b.0 v, b.1 v, b.2 v, b.3 v); text = refl }) refl (yard_reads y b k (suc v) n (omega arith) (omega arith))

-- lengths: so much room k lines from v on may take, where the decimal of a node counts as it is
line_room : ℕ → ℕ → ℕ
line_room zero v = 0
line_room (suc k) v = length (decimal v) + (line_bytes - 3) + line_room k (suc v)

length_node : (vs : List ℕ) → Values vs → length vs ≡ line_values
    → (0 < length (line vs)) × (length (line vs) ≤ line_bytes) × (length (line vs) ≤ length (decimal (get_or vs 0 0)) + (line_bytes - 3))
unfolding line
length_node [] b n = absurd (omega arith)
length_node (v ∷ vs) b n = rw (length-append (decimal v)) (omega (arith, (decimal_sound v b.0).1, length_line vs b.1))

reads_length : {k v : ℕ} {bs : List ℕ} {rows : List (List ℕ)} → Reads k v bs rows
    → (length rows ≤ k) × (length rows ≤ length bs) × (length bs ≤ line_bytes * length rows) × (length bs ≤ line_room k v)
unfolding line_room
reads_length end = omega arith
reads_length (next {l = l} b e r) =
    let n = length_node l.values b.small b.count in
    let h = reads_length r in
    rw (← e, b.text, length-append) (omega (arith, rw (← e) at h))

room_all : length header + line_room max_size 0 ≡ max_sheet_bytes
unfolding line_room decimal digits header text
room_all = refl

-- read_yard: a legal sheet is the header and lines of nodes, one at least
abbrev after_header : Bool → List ℕ → Answer Yard
after_header t rest = elim t [
  | false ↦ refused (row 15 1)
  | true ↦ elim rest [ [] ↦ refused (row 1 2) | (b ∷ bs) ↦ mapAnswer columns (readNodes max_size 0 (b ∷ bs)) ]
]

pub read_yard_header : (rest : List ℕ) → 0 < length rest → read_yard (header ++ rest) ≡ mapAnswer columns (readNodes max_size 0 rest)
unfolding read_yard
read_yard_header [] l = absurd (omega arith)
read_yard_header (b ∷ rest) l = rw (take-append_seam header (b ∷ rest), same_self header, read_yard) (rw (drop-append_seam header (b ∷ rest)))

record Legal (bs : List ℕ) (y : Yard) : Type 0 where
  rest : List ℕ
  rows : List (List ℕ)
  text : bs ≡ header ++ rest
  nonempty : 0 < length rest
  reads : Reads max_size 0 rest rows
  said : columns rows ≡ y

read_yard_legal : (bs : List ℕ) (y : Yard) → read_yard bs ≡ answered y → Legal bs y
unfolding read_yard
read_yard_legal bs y e = go (same (take (length header) bs) header) refl (drop (length header) bs) refl e
  where
    go : (t : Bool) → same (take (length header) bs) header ≡ t → (rest : List ℕ) → drop (length header) bs ≡ rest
        → after_header t rest ≡ answered y → Legal bs y
    go false p rest q e = absurd (refused_ne_answered e)
    go true p [] q e = absurd (refused_ne_answered e)
    go true p (b ∷ rest) q e =
        let r = map_answer_answered columns (readNodes max_size 0 (b ∷ rest)) e in
        record {
          rest = b ∷ rest;
          rows = r.0;
          text = sym (take-append-drop (length header) bs) ∙ rw (same_true _ _ p, q);
          nonempty = omega arith;
          reads = read_nodes_reads max_size 0 (b ∷ rest) r.0 r.1;
          said = r.2;
        }

-- reading a written sheet returns its lists, if they are lists of bytes that the writer does not refuse
pub read_write : (y : Yard) (room : ℕ) → write_fault y room ≡ none → YardBytes y → read_yard (yard_sheet y) ≡ answered y
unfolding write_fault yard_sheet
read_write y room e b =
    let a = none_all (write_tests y room) e in
    let n = (and-eq-true_iff (ltb 0 (size y)) (leb (size y) max_size)).0 (unless_none _ 1 0 a.0) in
    let m = (and-eq-true_iff (eqb (length y.pebbles) (size y)) ((eqb (length y.targets) (size y)) && (eqb (length y.depths) (size y)))).0 (unless_none _ 2 0 a.1.0) in
    let d = (and-eq-true_iff (eqb (length y.targets) (size y)) (eqb (length y.depths) (size y))).0 m.1 in
    let rows : List (List ℕ) = map (node_values y) (range 0 (size y)) in
    let c : columns rows ≡ y = columns_yard y (eqb-true _ _ m.0) (eqb-true _ _ d.0) (eqb-true _ _ d.1) in
    let few = leb-true (size y) max_size n.1 in
    let r = yard_reads y b max_size 0 (size y) few (omega arith) in
    let k : length rows ≡ size y = sym (length-map rows (λ (vs : List ℕ). get_or vs 1 0)) ∙ ap size c in
    let l : 0 < length (lines rows) = omega (arith, reads_length r, ltb-true 0 (size y) n.0) in
    rw (read_yard_header (lines rows) l, reads_read_nodes r, c)

-- what was read from a legal sheet is written as that sheet; it says 1 to 256 nodes, and its values are bytes
pub write_read : (bs : List ℕ) (y : Yard) → read_yard bs ≡ answered y → yard_sheet y ≡ bs
write_read bs y e =
    let l = read_yard_legal bs y e in
    rw (← l.said) (yard_sheet_columns l.reads ∙ sym l.text)

pub read_sizes : (bs : List ℕ) (y : Yard) → read_yard bs ≡ answered y
    → (0 < size y) × (size y ≤ max_size) × (length y.pebbles ≡ size y) × (length y.targets ≡ size y) × (length y.depths ≡ size y)
read_sizes bs y e =
    let l = read_yard_legal bs y e in
    rw (← l.said) (simp length-map (omega (arith, l.nonempty, reads_length l.reads)))

pub read_bytes : (bs : List ℕ) (y : Yard) → read_yard bs ≡ answered y → YardBytes y
read_bytes bs y e =
    let l = read_yard_legal bs y e in
    let b = reads_bytes l.reads in
    rw (← l.said) (b 1, b 2, b 3, b 4)

-- a sheet has at most 5,040 bytes, if it is legal or written of at most 256 nodes, and that of 256 nodes with the values 255 has as many
pub yard_sheet_short : (y : Yard) → size y ≤ max_size → YardBytes y → length (yard_sheet y) ≤ max_sheet_bytes
unfolding yard_sheet
yard_sheet_short y h b = rw (length-append header) (omega (arith, room_all, reads_length (yard_reads y b max_size 0 (size y) h (omega arith))))

pub read_length : (bs : List ℕ) (y : Yard) → read_yard bs ≡ answered y → length bs ≤ max_sheet_bytes
read_length bs y e =
    let l = read_yard_legal bs y e in
    rw (l.text, length-append) (omega (arith, room_all, reads_length l.reads))

longest_fault_law : write_fault longest max_sheet_bytes ≡ none
unfolding write_fault longest
longest_fault_law = rw longest_length

replicate_bytes : (n : ℕ) → Bytes (replicate n 255)
replicate_bytes zero i = omega arith
replicate_bytes (suc n) zero = omega arith
replicate_bytes (suc n) (suc i) = replicate_bytes n i

pub longest_sheet : (y : Yard) × (read_yard (yard_sheet y) ≡ answered y) × (length (yard_sheet y) ≡ max_sheet_bytes)
unfolding longest
longest_sheet =
    let b = replicate_bytes 256 in
    (longest, read_write longest max_sheet_bytes longest_fault_law (b, b, b, b), longest_length)

-- An input cut at 5,200 bytes or more is read as the whole: what is cut off lies behind the first line that is refused, or behind line 257. Of the
-- lines from node v on it is enough to keep the bytes that k nodes may take, and a line more.
read_nodes_take : (k v m : ℕ) (bs : List ℕ) → line_room k v + line_bytes ≤ m → readNodes k v (take m bs) ≡ readNodes k v bs
unfolding line_room
read_nodes_take zero v zero bs h = absurd (omega arith)
read_nodes_take zero v (suc m) [] h = refl
read_nodes_take zero v (suc m) (b ∷ bs) h = read_nodes_over v b (take m bs) ∙ sym (read_nodes_over v b bs)
read_nodes_take (suc k) v zero bs h = absurd (omega arith)
read_nodes_take (suc k) v (suc m) [] h = refl
read_nodes_take (suc k) v (suc m) (b ∷ bs) h =
    let t = read_line_take line_values (suc m) (b ∷ bs) (omega arith) in
    read_nodes_cases k v b bs (λ a. readNodes (suc k) v (b ∷ take m bs) ≡ a)
    (λ e. read_nodes_shape k v b (take m bs) (t ∙ rw e))
    (λ l e n. read_nodes_other k v b (take m bs) {l = cut_line (suc m) l} (t ∙ rw e) n)
    (λ l e q.
    let g = read_line_some line_values (b ∷ bs) e in
    let n = rw q at (length_node l.values g.small g.count) in
    read_nodes_next k v (b ∷ take m bs) {l = cut_line (suc m) l} (t ∙ rw e) q
    ∙ ap (mapAnswer (◌∷◌ l.values)) (read_nodes_take k (suc v) (suc m - length (line l.values)) l.rest (omega arith)))

pub drop_take : (n m : ℕ) (l : List ℕ) → n ≤ m → drop n (take m l) ≡ take (m - n) (drop n l)
drop_take zero m l h = rw sub-zero
drop_take (suc n) zero l h = absurd (omega arith)
drop_take (suc n) (suc m) [] h = rw suc-sub-suc (sym (take-nil (m - n)))
drop_take (suc n) (suc m) (x ∷ l) h = rw suc-sub-suc (drop_take n m l (omega arith))

pub read_cut : (m : ℕ) (bs : List ℕ) → judged_bytes ≤ m → read_yard (take m bs) ≡ read_yard bs
unfolding read_yard
read_cut m bs j =
    let n : ℕ = length header in
    let h : line_room max_size 0 + line_bytes ≤ m - n = omega (arith, room_all) in
    ap (λ (w : List ℕ). after_header (same w header) (drop n (take m bs))) (take-take n m bs (omega (arith, room_all)))
    ∙ ap (after_header (same (take n bs) header)) (drop_take n m bs (omega (arith, room_all)))
    ∙ go (same (take n bs) header) (m - n) (drop n bs) h
  where
    go : (t : Bool) (m : ℕ) (rest : List ℕ) → line_room max_size 0 + line_bytes ≤ m → after_header t (take m rest) ≡ after_header t rest
    go false m rest h = refl
    go true zero rest h = absurd (omega arith)
    go true (suc m) [] h = refl
    go true (suc m) (b ∷ rest) h = ap (mapAnswer columns) (read_nodes_take max_size 0 (suc m) (b ∷ rest) h)

pub program_cut : (input : List ℕ) → program input ≡ printed_of (read_yard input)
unfolding program
program_cut input = ap printed_of (read_cut judged_bytes input (omega arith))

-- the reader's call, with four lists of at least 256
pub reader_room : (bs ps cs ts ds : List ℕ) → max_size ≤ length ps → max_size ≤ length cs → max_size ≤ length ts → max_size ≤ length ds → reader bs ps cs ts ds ≡ read_yard bs
unfolding reader
reader_room bs ps cs ts ds p c t d = rw (le-leb 256 (length ps) p, le-leb 256 (length cs) c, le-leb 256 (length ts) t, le-leb 256 (length ds) d, reader)

-- a refused sheet is refused at a line, up to line n; a yard sheet up to line 258
abbrev pub AtLine : {A : Type 0} → ℕ → Answer A → Type 0
AtLine n (answered a) = Unit {0}
AtLine n (refused f) = InTable f.number × (f.place ≤ n)

pub further : {A B : Type 0} (n : ℕ) (g : A → B) (a : Answer A) → AtLine n a → AtLine n (mapAnswer g a)
further n g (answered a) r = tt
further n g (refused f) r = r

lines_places : (k v : ℕ) (bs : List ℕ) → v + k ≤ 256 → AtLine 258 (readNodes k v bs)
unfolding readNodes
lines_places zero v [] h = tt
lines_places zero v (b ∷ bs) h = omega arith
lines_places (suc k) v [] h = tt
lines_places (suc k) v (b ∷ bs) h =
    read_nodes_cases k v b bs (AtLine 258) (λ _. omega arith) (λ _ _ _. omega arith) (λ l _ _. further 258 _ (readNodes k (suc v) l.rest) (lines_places k (suc v) l.rest (omega arith)))

pub read_places : (bs : List ℕ) → AtLine 258 (read_yard bs)
unfolding read_yard
read_places bs = go (same (take (length header) bs) header) (drop (length header) bs)
  where
    go : (t : Bool) (rest : List ℕ) → AtLine 258 (after_header t rest)
    go false rest = omega arith
    go true [] = omega arith
    go true (b ∷ rest) = further 258 columns (readNodes max_size 0 (b ∷ rest)) (lines_places max_size 0 (b ∷ rest) (omega arith))

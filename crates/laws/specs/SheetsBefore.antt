-- Request 2.10, 'All depths 1 must print the sheets of before, the added value aside', of every sheet of before, also of one that no reader takes.
use Rattle.std.specs.Prelude.{◌≡◌, true, false, cond, List, [], ◌∷◌, ◌++◌, map, ℕ, zero, suc, ◌+◌, length, take, drop, eqb}
use Rattle.std.proofs.Math.Option.{none, some}
use Rattle.model.specs.Yard.{Yard, yard_of, max_size}
use Rattle.model.specs.Judge.{row}
use Rattle.model.specs.Calls.Answers.{Answer, answered, refused, mapAnswer}
use Rattle.model.specs.Sheets.{text, line_feed, begins, readLine, node_of, column, refusal_sheet, program}
use Rattle.laws.specs.Shallow.{matched_before, sheet_before}

-- the reader of document 01: a header without the depth, and four values a line
unfoldable pub header_before : List ℕ
header_before = text "berth parent car target\n"

abbrev pub values_before : ℕ
values_before = 4

unfoldable pub read_nodes_before : ℕ → ℕ → List ℕ → Answer (List (List ℕ))
read_nodes_before zero v [] = answered []
read_nodes_before zero v (b ∷ bs) = refused (row 1 (v + 2))
read_nodes_before (suc k) v [] = answered []
read_nodes_before (suc k) v (b ∷ bs) = elim (readLine values_before (b ∷ bs)) [
  | none ↦ refused (row 16 (v + 2))
  | some l ↦ elim (eqb (node_of l) v) [
    | true ↦ mapAnswer (◌∷◌ l.values) (read_nodes_before k (suc v) l.rest)
    | false ↦ refused (row 17 (v + 2))
  ]
]

-- the yard that such lines say, each node with room for one
abbrev pub yard_before : List (List ℕ) → Yard
yard_before rows = yard_of (column 1 rows) (column 2 rows) (column 3 rows) (map (λ _. 1) rows)

-- what was printed for them, and for a sheet
abbrev pub printed_before : Answer (List (List ℕ)) → List ℕ
printed_before (answered rows) = sheet_before (yard_before rows) (matched_before (column 1 rows) (column 2 rows) (column 3 rows))
printed_before (refused f) = refusal_sheet f

unfoldable pub whole_before : List ℕ → List ℕ
whole_before bs = elim (begins header_before bs) [
  | false ↦ refusal_sheet (row 15 1)
  | true ↦ elim (drop (length header_before) bs) [ [] ↦ refusal_sheet (row 1 2) | (b ∷ rest) ↦ printed_before (read_nodes_before max_size 0 (b ∷ rest)) ]
]

-- of which the first 4,200 bytes were judged
abbrev pub judged_before : ℕ
judged_before = 4_200

unfoldable pub program_before : List ℕ → List ℕ
program_before input = whole_before (take judged_before input)

-- the added value: this before the first line feed, and a depth of 1 before each later one
unfoldable pub deeper : List ℕ → List ℕ → List ℕ
deeper added [] = []
deeper added (b ∷ bs) = cond (eqb b line_feed) (added ++ line_feed ∷ deeper (text " 1") bs) (b ∷ deeper added bs)

abbrev pub deepened : List ℕ → List ℕ
deepened bs = deeper (text " depth") bs

-- whatever the bytes of the sheet of before
abbrev pub SheetsAsBefore : Type 0
SheetsAsBefore = (input : List ℕ) → program (deepened input) ≡ program_before input

-- Sheets ('Sheets', request 2.10): the yard sheet of four lists, what the reader finds in bytes, the writer, and all that the move program prints.
use Rattle.std.specs.Prelude.{Bool, true, false, not, ◌&&◌, ℕ, zero, suc, ◌+◌, ◌/◌, ◌%◌, length, take, drop, get_or, leb, ltb, eqb}
use mathlib.Core.List.{List, [], ◌∷◌, ◌++◌, map, head?}
use Rattle.std.proofs.Math.Option.{Option, none, some}
use Prim.Native.Char.{code}
use Prim.Native.String.{String}
use Rattle.model.specs.Yard.{Yard, yard_of, size, max_size, parent, pebble, target, capacity, below, root}
use Rattle.model.specs.Judge.{Fault, row, fault, first_of, unless, size_fault, length_fault}
use Rattle.model.specs.Push.{Move, ups, downs}
use Rattle.model.specs.Plan.{plan}
use Rattle.model.specs.Calls.Answers.{Answer, answered, refused, answer, mapAnswer, lent, overwrite, range}
use Rattle.model.specs.Calls.Plans.{plan_fault}

-- a reading that needs what another finds
abbrev pub ◌>>=◌ : {A B : Type 0} → Option A → (A → Option B) → Option B
◌>>=◌ none f = none
◌>>=◌ (some a) f = f a

-- the bytes of a text
unfoldable pub text : String → List ℕ
text String.[] = []
text (String.◌∷◌ c cs) = code c ∷ text cs

abbrev pub space : ℕ
space = code " "

abbrev pub line_feed : ℕ
line_feed = code "\n"

-- a number in decimal, without leading zeros (0 itself is one digit); k bounds its digits
unfoldable pub digits : ℕ → ℕ → List ℕ
digits zero n = []
digits (suc k) n = elim (ltb n 10) [ true ↦ [] | false ↦ digits k (n / 10) ] ++ ((code "0" + n % 10) ∷ [])

unfoldable pub decimal : ℕ → List ℕ
decimal n = digits (suc n) n

-- the byte behind a value that has k others behind it in its line: a space, and behind the last a line feed
unfoldable pub stopBefore : ℕ → ℕ
stopBefore zero = line_feed
stopBefore (suc k) = space

-- a line: its values, each with that byte
unfoldable pub line : List ℕ → List ℕ
line [] = []
line (v ∷ vs) = decimal v ++ (stopBefore (length vs) ∷ line vs)

unfoldable pub lines : List (List ℕ) → List ℕ
lines [] = []
lines (vs ∷ vss) = line vs ++ lines vss

-- the header of a yard sheet
unfoldable pub header : List ℕ
header = text "berth parent car target depth\n"

-- a node's line has five values (request 2.10): the node, its parent, its pebbles, its targets, its depth
abbrev pub line_values : ℕ
line_values = 5

abbrev pub node_values : Yard → ℕ → List ℕ
node_values y v = v ∷ parent y v ∷ pebble y v ∷ target y v ∷ capacity y v ∷ []

-- the yard sheet: the header, and a line for each node in rising number from 0
unfoldable pub yard_sheet : Yard → List ℕ
yard_sheet y = header ++ lines (map (node_values y) (range 0 (size y)))

-- the longest legal sheet
abbrev pub max_sheet_bytes : ℕ
max_sheet_bytes = 5_040

-- The reader. What stands before the first byte `stop` of a list, and what behind it
pub record Part : Type 0 where
  pub before : List ℕ
  pub behind : List ℕ

unfoldable pub cut : ℕ → List ℕ → Option Part
cut stop [] = none
cut stop (b ∷ bs) = elim (eqb b stop) [
  | true ↦ some (record { before = []; behind = bs })
  | false ↦ (do
    p ← cut stop bs
    some (record { before = b ∷ p.before; behind = p.behind }))
]

unfoldable pub same : List ℕ → List ℕ → Bool
same [] [] = true
same [] (b ∷ bs) = false
same (a ∷ xs) [] = false
same (a ∷ xs) (b ∷ bs) = (eqb a b) && (same xs bs)

-- whether a list begins with another
abbrev pub begins : List ℕ → List ℕ → Bool
begins front bs = same (take (length front) bs) front

-- the value that a word writes: the number from 0 to 255 whose decimal it is
abbrev pub value_count : ℕ
value_count = 256

unfoldable pub value : List ℕ → Option ℕ
value word = head? (below value_count (λ v. same (decimal v) word))

-- a value and the byte that ends it, and the bytes behind
pub record Field : Type 0 where
  pub value : ℕ
  pub rest : List ℕ

unfoldable pub field : ℕ → List ℕ → Option Field
field stop bs = do
  p ← cut stop bs
  v ← value p.before
  some (record { value = v; rest = p.behind })

-- a line of k values, and the bytes behind it; none if it is of another shape, has a value above 255, or lacks its line feed
pub record Line : Type 0 where
  pub values : List ℕ
  pub rest : List ℕ

unfoldable pub readLine : ℕ → List ℕ → Option Line
readLine zero bs = some (record { values = []; rest = bs })
readLine (suc k) bs = do
  f ← field (stopBefore k) bs
  l ← readLine k f.rest
  some (record { values = f.value ∷ l.values; rest = l.rest })

-- the node that a line is of
abbrev pub node_of : Line → ℕ
node_of l = get_or l.values 0 0

-- the values of the lines from node v on, which is line v + 2, if k more may follow. Line by line: 1, a byte follows line 257; 16, the line is of
-- another shape; 17, its node is not the next
unfoldable pub readNodes : ℕ → ℕ → List ℕ → Answer (List (List ℕ))
readNodes zero v [] = answered []
readNodes zero v (b ∷ bs) = refused (row 1 (v + 2))
readNodes (suc k) v [] = answered []
readNodes (suc k) v (b ∷ bs) = elim (readLine line_values (b ∷ bs)) [
  | none ↦ refused (row 16 (v + 2))
  | some l ↦ elim (eqb (node_of l) v) [
    | true ↦ mapAnswer (◌∷◌ l.values) (readNodes k (suc v) l.rest)
    | false ↦ refused (row 17 (v + 2))
  ]
]

-- the yard that such lines say: its lists are their columns behind the first
abbrev pub column : ℕ → List (List ℕ) → List ℕ
column i rows = map (λ vs. get_or vs i 0) rows

abbrev pub columns : List (List ℕ) → Yard
columns rows = yard_of (column 1 rows) (column 2 rows) (column 3 rows) (column 4 rows)

-- what a sheet says: 15, the header line differs or lacks its line feed; the lines in turn; 1 with place 2 if no line follows the header
unfoldable pub read_yard : List ℕ → Answer Yard
read_yard bs = elim (begins header bs) [
  | false ↦ refused (row 15 1)
  | true ↦ elim (drop (length header) bs) [ [] ↦ refused (row 1 2) | (b ∷ rest) ↦ mapAnswer columns (readNodes max_size 0 (b ∷ rest)) ]
]

-- the reader's call: 18, one of its four lists is shorter than 256; then as the sheet says. It answers n and fills the first n entries of each
unfoldable pub reader : List ℕ → List ℕ → List ℕ → List ℕ → List ℕ → Answer Yard
reader bs ps cs ts ds = elim ((leb max_size (length ps)) && ((leb max_size (length cs)) && ((leb max_size (length ts)) && (leb max_size (length ds))))) [
  | true ↦ read_yard bs
  | false ↦ refused (row 18 0)
]

abbrev pub read_answer : List ℕ → List ℕ → List ℕ → List ℕ → List ℕ → Answer ℕ
read_answer bs ps cs ts ds = mapAnswer size (reader bs ps cs ts ds)

abbrev pub filled : (Yard → List ℕ) → Answer Yard → List ℕ → List ℕ
filled entries (answered y) list = overwrite (entries y) list
filled entries (refused f) list = list

-- The writer: 1, 2, then 8 with the bytes needed as place. It fills the front of its list, leaves the bytes behind and answers its byte count.
abbrev pub write_tests : Yard → ℕ → List (Option Fault)
write_tests y room = size_fault y ∷ length_fault y ∷ unless (leb (length (yard_sheet y)) room) (fault 8 (length (yard_sheet y))) ∷ []

unfoldable pub write_fault : Yard → ℕ → Option Fault
write_fault y room = first_of (write_tests y room)

abbrev pub write_answer : Yard → List ℕ → Answer ℕ
write_answer y list = answer (write_fault y (length list)) (length (yard_sheet y))

abbrev pub write_list : Yard → List ℕ → List ℕ
write_list y list = lent (write_fault y (length list)) (overwrite (yard_sheet y) list) list

-- The move program: a move sheet, its moves and behind them the crossing report (request 2.1), or the refusal and its place. The moves
abbrev pub move_head : List ℕ
move_head = text "from to\n"

unfoldable pub move_lines : List Move → List ℕ
move_lines ms = move_head ++ lines (map (λ (m : Move). m.from ∷ m.to ∷ []) ms)

-- the edges (tracks) in rising number: each node but the root carries one
unfoldable pub edges : Yard → List ℕ
edges y = below (size y) (λ v. not (eqb v (root y)))

-- a line of the report (request 2.1): the edge, and how often the moves cross it towards the root and away from it
abbrev pub report_row : Yard → List Move → ℕ → List ℕ
report_row y ms v = v ∷ ups y ms v ∷ downs y ms v ∷ []

-- the report: its head, such a line for each edge, and under `total` the number of moves printed
abbrev pub report_head : List ℕ
report_head = text "track up down\n"

unfoldable pub report : Yard → List Move → List ℕ
report y ms = report_head ++ (lines (map (report_row y ms) (edges y)) ++ (text "total\n" ++ line (length ms ∷ [])))

-- the report stands behind the last move, or behind the head where there is none
unfoldable pub move_sheet : Yard → List Move → List ℕ
move_sheet y ms = move_lines ms ++ report y ms

unfoldable pub refusal_sheet : Fault → List ℕ
refusal_sheet f = text "refusal place\n" ++ line (f.number ∷ f.place ∷ [])

-- it judges only so many bytes of its input, and its plan list has so many bytes, for 32,768 moves (request 2.10)
abbrev pub judged_bytes : ℕ
judged_bytes = 5_200

abbrev pub program_plan_bytes : ℕ
program_plan_bytes = 65_536

abbrev pub sheet_of : Yard → Answer (List Move) → List ℕ
sheet_of y (answered ms) = move_sheet y ms
sheet_of y (refused f) = refusal_sheet f

abbrev pub program_plan : Yard → Answer (List Move)
program_plan y = answer (plan_fault y program_plan_bytes) (plan y)

-- what it prints for what a sheet says
abbrev pub printed_of : Answer Yard → List ℕ
printed_of (answered y) = sheet_of y (program_plan y)
printed_of (refused f) = refusal_sheet f

unfoldable pub program : List ℕ → List ℕ
program input = printed_of (read_yard (take judged_bytes input))

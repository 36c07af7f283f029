-- The check program. A yard sheet with a move sheet behind it is read as that yard and those moves, with the crossing report behind them or without; what is
-- read so is there; and what is cut off behind the bytes that the program judges lies behind the first line that is refused, or behind a move too many.
use mathlib.Core.Path.{◌≡◌, refl, sym, ap, ◌∙◌, subst}
use mathlib.Core.Logic.{inl, inr}
use mathlib.Core.Bool.{Bool, true, false, ◌&&◌, and-eq-true_iff}
use mathlib.Core.List.{List, [], ◌∷◌, ◌++◌, map, append_assoc, append-nil}
use mathlib.Core.Option.{Option, none, some, none-ne-some}
use Prim.Native.Nat.{ℕ, zero, suc, ◌+◌, ◌-◌, ◌*◌, ◌%◌, ◌≤◌, ◌<◌}
use native.Mathlib.Omega.{arith}
use lib.ListN.{length, take, drop, get_or, take-append-drop}
use lib.Seq.{take-take, take_all, drop-append_seam, length-take-le}
use lib.Dec.{leb, eqb}
use borrow.Author.Tests.{leb-true, leb-false, ne_eqb}
use Rattle.model.specs.Yard.{Yard, size, max_size}
use Rattle.model.specs.Judge.{Fault, row, fault, first_of, judge, totals_fault}
use Rattle.model.specs.Push.{Move, push}
use Rattle.model.specs.Calls.Answers.{Answer, answered, refused, answer, mapAnswer, Row}
use Rattle.model.specs.Plan.{plan}
use Rattle.model.specs.Calls.Plans.{bytes, moves_of, plan_fault}
use Rattle.model.specs.Calls.Checks.{Verdict, max_plan_bytes, bytes_fault, obey_tests, check_fault, check_answer}
use Rattle.model.specs.Sheets.{text, line, lines, yard_sheet, same, field, cut, begins, move_head, report_head, move_lines, report, move_sheet, sheet_of, printed_of, refusal_sheet, program_plan_bytes, program, Line, readLine, read_yard}
use Rattle.model.specs.CheckSheets.{digit_first, yard_part, move_values, readMoves, moves_read, readPlan, and_then, BothSheets, with_plan, read_sheets, verdict_sheet, printed_of_sheets, checked_bytes, checks}
use Rattle.laws.specs.CheckSheets.{Ends, NoMove, ByteMoves, checked_sheet, SheetsChecked, Printed, YardRefused}
use Rattle.laws.proofs.Basics.{All, not_so}
use Rattle.laws.proofs.Lines.{same_true, Values, length_line, read_line_begins, read_line_some, cut_line, read_line_take}
use Rattle.laws.proofs.Judged.{facts}
use Rattle.laws.proofs.Step.{ends}
use Rattle.laws.proofs.Runs.{Obeys}
use Rattle.laws.proofs.Moves.{accepted_obeys}
use Rattle.laws.proofs.Demand2.{check_plan}
use Rattle.laws.proofs.Demand3.{plan_optimal}
use Rattle.laws.proofs.Calls.{answer_answered, plan_none, length_bytes, moves_of_bytes}
use Rattle.laws.proofs.Places.{few_checked}
use Rattle.laws.proofs.Sheets.{refused_ne_answered, answered_injective, map_answer_answered, drop_take, read_cut, read_length, read_sizes, read_bytes, write_read, program_cut, AtLine, further}
use Rattle.laws.proofs.YardPart.{yard_part_take, yard_part_front, row_first, yard_part_sheet}

-- readMoves, case by case: too many, no line more, a report, one of another shape, a move
abbrev parsed : ℕ → ℕ → Option Line → Answer (List ℕ)
parsed k l o = elim o [ none ↦ refused (row 16 l) | some m ↦ mapAnswer (◌++◌ m.values) (readMoves k (suc l) m.rest) ]

abbrev reported : ℕ → ℕ → List ℕ → Bool → Answer (List ℕ)
reported k l bs t = elim t [ true ↦ answered [] | false ↦ parsed k l (readLine move_values bs) ]

pub read_moves_none : (l : ℕ) (bs : List ℕ) → readMoves 0 l bs ≡ answered []
unfolding readMoves
read_moves_none l bs = refl

pub read_moves_end : (k l : ℕ) → readMoves k l [] ≡ answered []
unfolding readMoves
read_moves_end zero l = refl
read_moves_end (suc k) l = refl

pub read_moves_report : (k l : ℕ) (bs : List ℕ) → begins report_head bs ≡ true → readMoves k l bs ≡ answered []
unfolding readMoves
read_moves_report zero l bs e = refl
read_moves_report (suc k) l [] e = refl
read_moves_report (suc k) l (b ∷ bs) e = ap (reported k l (b ∷ bs)) e

pub read_moves_next : (k l : ℕ) (bs : List ℕ) {m : Line} → begins report_head bs ≡ false → readLine move_values bs ≡ some m
    → readMoves (suc k) l bs ≡ mapAnswer (◌++◌ m.values) (readMoves k (suc l) m.rest)
unfolding readMoves readLine field cut
read_moves_next k l [] {m} n e = absurd (none-ne-some m e)
read_moves_next k l (b ∷ bs) n e = ap (reported k l (b ∷ bs)) n ∙ ap (parsed k l) e

module _ (k l b : ℕ) (bs : List ℕ) (n : begins report_head (b ∷ bs) ≡ false) where
  pub read_moves_shape : readLine move_values (b ∷ bs) ≡ none → readMoves (suc k) l (b ∷ bs) ≡ refused (row 16 l)
  unfolding readMoves
  read_moves_shape e = ap (reported k l (b ∷ bs)) n ∙ ap (parsed k l) e

  read_moves_cases : (Q : Answer (List ℕ) → Type 0)
      → (readLine move_values (b ∷ bs) ≡ none → Q (refused (row 16 l)))
      → ((m : Line) → readLine move_values (b ∷ bs) ≡ some m → Q (mapAnswer (◌++◌ m.values) (readMoves k (suc l) m.rest)))
      → Q (readMoves (suc k) l (b ∷ bs))
  read_moves_cases Q shape next = go (readLine move_values (b ∷ bs)) refl
    where
      go : (o : Option Line) → readLine move_values (b ∷ bs) ≡ o → Q (readMoves (suc k) l (b ∷ bs))
      go none e = rw (read_moves_shape e) (shape e)
      go (some m) e = rw (read_moves_next k l (b ∷ bs) n e) (next m e)

-- a test, by its two answers
either : (t : Bool) {Q : Type 0} → (t ≡ true → Q) → (t ≡ false → Q) → Q
either true y n = y refl
either false y n = n refl

-- A list cut at 8 bytes a move, and a report's head more, is read as the whole.
cut_begins : (front : List ℕ) (m : ℕ) (bs : List ℕ) → length front ≤ m → begins front (take m bs) ≡ begins front bs
cut_begins front m bs h = ap (λ (l : List ℕ). same l front) (take-take (length front) m bs h)

abbrev move_bytes : ℕ
move_bytes = 4 * move_values

abbrev head_bytes : ℕ
head_bytes = 14

read_moves_take : (k l m : ℕ) (bs : List ℕ) → move_bytes * k + head_bytes ≤ m → readMoves k l (take m bs) ≡ readMoves k l bs
unfolding readMoves text
read_moves_take zero l m bs h = refl
read_moves_take (suc k) l zero bs h = absurd (omega arith)
read_moves_take (suc k) l (suc m) [] h = refl
read_moves_take (suc k) l (suc m) (b ∷ bs) h =
    let c = cut_begins report_head (suc m) (b ∷ bs) (omega arith) in
    let t = read_line_take move_values (suc m) (b ∷ bs) (omega arith) in
    either (begins report_head (b ∷ bs))
    (λ e. read_moves_report (suc k) l (b ∷ take m bs) (c ∙ e) ∙ sym (read_moves_report (suc k) l (b ∷ bs) e))
    (λ e. read_moves_cases k l b bs e (λ a. readMoves (suc k) l (b ∷ take m bs) ≡ a)
    (λ q. read_moves_shape k l b (take m bs) (c ∙ e) (t ∙ rw q))
    (λ x q.
    let g = read_line_some move_values (b ∷ bs) q in
    read_moves_next k l (b ∷ take m bs) {m = cut_line (suc m) x} (c ∙ e) (t ∙ rw q)
    ∙ ap (mapAnswer (◌++◌ x.values)) (read_moves_take k (suc l) (suc m - length (line x.values)) x.rest (omega (arith, g.count, length_line x.values g.small)))))

-- readPlan, by whether the head is there
abbrev headed : ℕ → Bool → List ℕ → Answer (List ℕ)
headed l t bs = elim t [ false ↦ refused (row 15 l) | true ↦ readMoves moves_read (suc l) bs ]

read_plan_take : (l m : ℕ) (bs : List ℕ) → 8 + (move_bytes * moves_read + head_bytes) ≤ m → readPlan l (take m bs) ≡ readPlan l bs
unfolding readPlan text
read_plan_take l m bs h =
    ap (λ (t : Bool). headed l t (drop 8 (take m bs))) (cut_begins move_head m bs (omega arith))
    ∙ ap (headed l (begins move_head bs)) (drop_take 8 m bs (omega arith))
    ∙ go (begins move_head bs)
  where
    go : (t : Bool) → headed l t (take (m - 8) (drop 8 bs)) ≡ headed l t (drop 8 bs)
    go true = read_moves_take moves_read (suc l) (m - 8) (drop 8 bs) (omega arith)
    go false = refl

-- So it makes no difference that the program judges only so many bytes: a yard sheet that is read has at most 5,040.
abbrev read_as : List ℕ → List ℕ → Answer Yard → Answer BothSheets
read_as bs part r = and_then r (λ y. mapAnswer (with_plan y) (readPlan (size y + 2) (drop (length part) bs)))

read_sheets_cut : (bs : List ℕ) → read_sheets (take checked_bytes bs) ≡ read_sheets bs
unfolding read_sheets
read_sheets_cut bs = go (read_yard part) refl
  where
    part : List ℕ
    part = yard_part bs

    cut_part : yard_part (take checked_bytes bs) ≡ take checked_bytes part
    cut_part = yard_part_take checked_bytes bs

    cut_yard : read_yard (yard_part (take checked_bytes bs)) ≡ read_yard part
    cut_yard = ap read_yard cut_part ∙ read_cut checked_bytes part (omega arith)

    go : (r : Answer Yard) → read_yard part ≡ r → read_sheets (take checked_bytes bs) ≡ read_sheets bs
    go (refused f) e = ap (read_as (take checked_bytes bs) (yard_part (take checked_bytes bs))) (cut_yard ∙ e) ∙ sym (ap (read_as bs part) e)
    go (answered y) e =
        let n = read_length part y e in
        let p : yard_part (take checked_bytes bs) ≡ part = cut_part ∙ take_all checked_bytes part (omega arith) in
        let q : drop (length (yard_part (take checked_bytes bs))) (take checked_bytes bs) ≡ take (checked_bytes - length part) (drop (length part) bs) =
        ap (λ (l : List ℕ). drop (length l) (take checked_bytes bs)) p ∙ drop_take (length part) checked_bytes bs (omega arith) in
        ap (read_as (take checked_bytes bs) (yard_part (take checked_bytes bs))) (cut_yard ∙ e)
        ∙ ap (mapAnswer (with_plan y)) (ap (readPlan (size y + 2)) q ∙ read_plan_take (size y + 2) (checked_bytes - length part) (drop (length part) bs) (omega arith))
        ∙ sym (ap (read_as bs part) e)

pub checks_cut : (input : List ℕ) → checks input ≡ printed_of_sheets (read_sheets input)
unfolding checks
checks_cut input = ap printed_of_sheets (read_sheets_cut input)

-- a refused move sheet is refused at a line, if its head is line l up to 131,073 lines behind it
moves_places : (n k l : ℕ) (bs : List ℕ) → l + k ≤ suc n → AtLine n (readMoves k l bs)
moves_places n zero l bs h = rw read_moves_none tt
moves_places n (suc k) l [] h = rw read_moves_end tt
moves_places n (suc k) l (b ∷ bs) h =
    either (begins report_head (b ∷ bs))
    (λ e. rw (read_moves_report (suc k) l (b ∷ bs) e) tt)
    (λ e. read_moves_cases k l b bs e (AtLine n) (λ _. omega arith) (λ m _. further n _ (readMoves k (suc l) m.rest) (moves_places n k (suc l) m.rest (omega arith))))

pub plan_row : (l : ℕ) (bs : List ℕ) {f : Fault} → l ≤ 258 → readPlan l bs ≡ refused f → Row f
unfolding readPlan
plan_row l bs {f} h e = let p = rw e at (go (begins move_head bs)) in record { numbered = omega arith; placed = omega arith }
  where
    go : (t : Bool) → AtLine 131_331 (headed l t (drop (length move_head) bs))
    go true = moves_places 131_331 moves_read (suc l) (drop (length move_head) bs) (omega arith)
    go false = omega arith

-- readMoves: of the lines of moves, and what ends them
abbrev pub move_row : Move → List ℕ
move_row m = m.from ∷ m.to ∷ []

abbrev pub MoveBytes : List Move → Type 0
MoveBytes = All (λ m. Values (move_row m))

-- the two values of a line are a move's, and where no line of a move stands none is read
pub pair : (vs : List ℕ) → length vs ≡ move_values → vs ≡ move_row (push (get_or vs 0 0) (get_or vs 1 0))
pair (a ∷ b ∷ []) e = refl
pair [] e = absurd (omega arith)
pair (a ∷ []) e = absurd (omega arith)
pair (a ∷ b ∷ c ∷ vs) e = absurd (omega arith)

no_move : (rest : List ℕ) → NoMove rest → readLine move_values rest ≡ none
no_move rest n = go (readLine move_values rest) refl
  where
    go : (o : Option Line) → readLine move_values rest ≡ o → readLine move_values rest ≡ none
    go none e = e
    go (some l) e =
        let g = read_line_some move_values rest e in
        let v = pair l.values g.count in
        let b = rw v at g.small in
        absurd (n (push (get_or l.values 0 0) (get_or l.values 1 0)) l.rest b.0 b.1.0 (g.text ∙ ap (λ (vs : List ℕ). line vs ++ l.rest) v))

no_report : (bs : List ℕ) → digit_first bs ≡ true → begins report_head bs ≡ false
unfolding digit_first text same
no_report [] e = cc
no_report (b ∷ bs) e =
    let p = leb-true b 57 ((and-eq-true_iff (leb 48 b) (leb b 57)).0 e).1 in
    rw (ne_eqb b 116 (λ q. omega arith))

ended : (k l : ℕ) (rest : List ℕ) → Ends rest → readMoves k l rest ≡ answered []
ended k l rest (inl e) = rw e (read_moves_end k l)
ended k l rest (inr e) = read_moves_report k l rest e

read_moves_line : (k l : ℕ) (m : Move) (ms : List Move) (rest : List ℕ) → Values (move_row m)
    → readMoves (suc k) l (lines (map move_row (m ∷ ms)) ++ rest) ≡ mapAnswer (◌++◌ (move_row m)) (readMoves k (suc l) (lines (map move_row ms) ++ rest))
unfolding lines
read_moves_line k l m ms rest b =
    let tail : List ℕ = lines (map move_row ms) ++ rest in
    let n = no_report (line (move_row m) ++ tail) (row_first (move_row m) tail (omega arith, b)) in
    let q = read_line_begins {l = record { values = move_row m; rest = tail }} (record { count = refl; small = b; text = refl }) in
    ap (readMoves (suc k) l) (append_assoc (line (move_row m)) (lines (map move_row ms)) rest) ∙ read_moves_next k l (line (move_row m) ++ tail) n q

read_moves_lines : (k l : ℕ) (ms : List Move) (rest : List ℕ) → MoveBytes ms → Ends rest → readMoves k l (lines (map move_row ms) ++ rest) ≡ answered (bytes (take k ms))
unfolding lines bytes
read_moves_lines zero l ms rest b e = read_moves_none l _
read_moves_lines (suc k) l [] rest b e = ended (suc k) l rest e
read_moves_lines (suc k) l (m ∷ ms) rest b e = read_moves_line k l m ms rest b.0 ∙ ap (mapAnswer (◌++◌ (move_row m))) (read_moves_lines k (suc l) ms rest b.1 e)

-- and where something else stands behind them
read_moves_damaged : (k l : ℕ) (ms : List Move) (rest : List ℕ) → MoveBytes ms → length ms < k → ¬ Ends rest → readLine move_values rest ≡ none
    → readMoves k l (lines (map move_row ms) ++ rest) ≡ refused (row 16 (l + length ms))
unfolding lines
read_moves_damaged zero l ms rest b h e q = absurd (omega arith)
read_moves_damaged (suc k) l [] [] b h e q = absurd (e (inl refl))
read_moves_damaged (suc k) l [] (c ∷ rest) b h e q =
    read_moves_shape k l c rest (not_so (begins report_head (c ∷ rest)) (λ r. e (inr r))) q ∙ ap (λ (n : ℕ). refused (row 16 n)) (omega arith)
read_moves_damaged (suc k) l (m ∷ ms) rest b h e q =
    read_moves_line k l m ms rest b.0 ∙ ap (mapAnswer (◌++◌ (move_row m))) (read_moves_damaged k (suc l) ms rest b.1 (omega arith) e q) ∙ ap (λ (n : ℕ). refused (row 16 n)) (omega arith)

-- readPlan: of a move sheet, and what ends it
read_plan_lines : (l : ℕ) (ms : List Move) (rest : List ℕ) → MoveBytes ms → Ends rest → readPlan l (move_lines ms ++ rest) ≡ answered (bytes (take moves_read ms))
unfolding readPlan move_lines text same
read_plan_lines l ms rest b e = read_moves_lines moves_read (suc l) ms rest b e

read_plan_damaged : (l : ℕ) (ms : List Move) (rest : List ℕ) → MoveBytes ms → length ms < moves_read → ¬ Ends rest → readLine move_values rest ≡ none
    → readPlan l (move_lines ms ++ rest) ≡ refused (row 16 (suc l + length ms))
unfolding readPlan move_lines text same
read_plan_damaged l ms rest b h e q = read_moves_damaged moves_read (suc l) ms rest b h e q

read_plan_headless : (l : ℕ) (bs : List ℕ) → begins move_head bs ≡ false → readPlan l bs ≡ refused (row 15 l)
unfolding readPlan
read_plan_headless l bs e = ap (λ (t : Bool). headed l t (drop (length move_head) bs)) e

-- a plan that is too long is refused as it is by its first 131,073 moves, and so the same is printed
abbrev tooLong : Option Fault → Option Fault → Fault
tooLong (some f) b = f
tooLong none (some f) = f
tooLong none none = row 9 0

first_of_three : {A : Type 0} (a b : Option Fault) (xs : List (Option Fault)) (u : A) → answer (first_of (a ∷ b ∷ fault 9 0 ∷ xs)) u ≡ refused (tooLong a b)
first_of_three (some _) b xs u = refl
first_of_three none (some _) xs u = refl
first_of_three none none xs u = refl

too_long : (y : Yard) (bs : List ℕ) → max_plan_bytes < length bs → check_answer y bs ≡ refused (tooLong (judge y) (totals_fault y))
unfolding check_fault
too_long y bs h =
    let n : bytes_fault bs ≡ fault 9 0 = rw (not_so ((eqb (length bs % 2) 0) && (leb (length bs) max_plan_bytes)) (λ e. omega (arith, leb-true (length bs) max_plan_bytes ((and-eq-true_iff (eqb (length bs % 2) 0) _).0 e).1))) in
    rw n (first_of_three (judge y) (totals_fault y) (obey_tests y (moves_of bs)) _)

check_long : (y : Yard) (ms : List Move) → let bs = bytes (take moves_read ms) in verdict_sheet y (moves_of bs) (check_answer y bs) ≡ checked_sheet y ms
unfolding verdict_sheet
check_long y ms =
    either (leb (length ms) moves_read)
    (λ e.
    let t = take_all moves_read ms (leb-true (length ms) moves_read e) in
    ap (λ (l : List Move). verdict_sheet y (moves_of (bytes l)) (check_answer y (bytes l))) t ∙ ap (λ (l : List Move). verdict_sheet y l (check_answer y (bytes ms))) (moves_of_bytes ms))
    (λ e.
    let h = leb-false (length ms) moves_read e in
    let n = length-take-le moves_read ms (omega arith) in
    let bs = bytes (take moves_read ms) in
    ap (verdict_sheet y (moves_of bs)) (too_long y bs (omega (arith, length_bytes (take moves_read ms)))) ∙ sym (ap (verdict_sheet y ms) (too_long y (bytes ms) (omega (arith, length_bytes ms)))))

-- moves of bytes, as those of a plan are
byte_moves : (ms : List Move) → ByteMoves ms → MoveBytes ms
unfolding bytes
byte_moves [] b = tt
byte_moves (m ∷ ms) b = ((b 0, (b 1, tt)), byte_moves ms (λ i. b (suc (suc i))))

obeys_bytes : {y z : Yard} {ms : List Move} → Obeys y ms z → size y ≤ max_size → MoveBytes ms
obeys_bytes Obeys.done h = tt
obeys_bytes (Obeys.next {y} {m = m} s o) h = let e = ends y m s in ((omega arith, (omega arith, tt)), obeys_bytes o h)

-- a yard sheet with a move sheet behind it, and what ends that, is judged as the checker judges the yard and the moves
moves_first : (ms : List Move) (rest : List ℕ) → digit_first (move_lines ms ++ rest) ≡ false
unfolding digit_first move_lines text
moves_first ms rest = refl

module _ (sheet : List ℕ) (y : Yard) (said : read_yard sheet ≡ answered y) where
  -- what is read after it
  checks_read : (back : List ℕ) → digit_first back ≡ false → {a : Answer (List ℕ)} → readPlan (size y + 2) back ≡ a → checks (sheet ++ back) ≡ printed_of_sheets (mapAnswer (with_plan y) a)
  unfolding read_sheets
  checks_read back e q =
      let part : yard_part (sheet ++ back) ≡ sheet = rw (← (write_read sheet y said)) (yard_part_sheet y back (omega (arith, read_sizes sheet y said)) (read_bytes sheet y said) e) in
      checks_cut (sheet ++ back)
      ∙ ap printed_of_sheets (
      ap (λ (p : List ℕ). read_as (sheet ++ back) p (read_yard p)) part
      ∙ ap (read_as (sheet ++ back) sheet) said
      ∙ ap (λ (l : List ℕ). mapAnswer (with_plan y) (readPlan (size y + 2) l)) (drop-append_seam sheet back)
      ∙ ap (mapAnswer (with_plan y)) q
      )

  checks_said : (ms : List Move) → MoveBytes ms → (rest : List ℕ) → Ends rest → checks (sheet ++ (move_lines ms ++ rest)) ≡ checked_sheet y ms
  checks_said ms c rest e = checks_read (move_lines ms ++ rest) (moves_first ms rest) (read_plan_lines (size y + 2) ms rest c e) ∙ check_long y ms

  pub sheets_checked : SheetsChecked sheet y
  unfolding report move_sheet text same verdict_sheet
  sheets_checked = record {
    bare = λ ms b. ap (λ (l : List ℕ). checks (sheet ++ l)) (sym (append-nil (move_lines ms))) ∙ checks_said ms (byte_moves ms b) [] (inl refl);
    reported = λ ms b z ns rest. checks_said ms (byte_moves ms b) (report z ns ++ rest) (inr refl);
    own = λ ms e.
        let a = answer_answered (plan_fault y program_plan_bytes) (plan y) ms e in
        let n = (plan_none y program_plan_bytes).0 a.0 in
        let p : program sheet ≡ move_lines ms ++ report y ms = program_cut sheet ∙ ap printed_of said ∙ ap (sheet_of y) e in
        let o = accepted_obeys y n.0 (plan y) (plan_optimal y n.0 n.1).obeyed in
        let b = rw a.1 at (obeys_bytes o (facts y n.0).few.1) in
        ap (λ (l : List ℕ). checks (sheet ++ l)) p ∙ checks_said ms b (report y ms) (inr refl) ∙ ap (verdict_sheet y ms) (rw a.1 at (check_plan y n.0 n.1));
    damaged = λ ms b h rest e n.
        checks_read (move_lines ms ++ rest) (moves_first ms rest) (read_plan_damaged (size y + 2) ms rest (byte_moves ms b) h e (no_move rest n))
        ∙ ap (λ (l : ℕ). refusal_sheet (row 16 l)) (omega arith);
    headless = λ rest e q. checks_read rest e (read_plan_headless (size y + 2) rest q);
  }

-- What is read is there: the moves are lines of the list, up to what ends them, or as many as are read.
record MovesSaid (k : ℕ) (bs plan : List ℕ) : Type 0 where
  moves : List Move
  rest : List ℕ
  is : bs ≡ lines (map move_row moves) ++ rest
  bytes_are : plan ≡ bytes moves
  ends : length moves < k → Ends rest

read_moves_said : (k l : ℕ) (bs plan : List ℕ) → readMoves k l bs ≡ answered plan → MovesSaid k bs plan
unfolding lines bytes
read_moves_said zero l bs plan e = record { moves = []; rest = bs; is = refl; bytes_are = answered_injective (sym e ∙ read_moves_none l bs); ends = λ h. absurd (omega arith) }
read_moves_said (suc k) l [] plan e = record { moves = []; rest = []; is = refl; bytes_are = answered_injective (sym e ∙ read_moves_end (suc k) l); ends = λ _. inl refl }
read_moves_said (suc k) l (b ∷ bs) plan e =
    either (begins report_head (b ∷ bs))
    (λ r. record { moves = []; rest = b ∷ bs; is = refl; bytes_are = answered_injective (sym e ∙ read_moves_report (suc k) l (b ∷ bs) r); ends = λ _. inr r })
    (λ r. read_moves_cases k l b bs r (λ a. a ≡ answered plan → MovesSaid (suc k) (b ∷ bs) plan)
    (λ _ e. absurd (refused_ne_answered e))
    (λ m q e.
    let g = read_line_some move_values (b ∷ bs) q in
    let p = map_answer_answered (◌++◌ m.values) (readMoves k (suc l) m.rest) e in
    let s = read_moves_said k (suc l) m.rest p.0 p.1 in
    let v = pair m.values g.count in
    record {
      moves = push (get_or m.values 0 0) (get_or m.values 1 0) ∷ s.moves;
      rest = s.rest;
      is = g.text ∙ ap (λ (l : List ℕ). line m.values ++ l) s.is ∙ ap (λ (vs : List ℕ). line vs ++ (lines (map move_row s.moves) ++ s.rest)) v
          ∙ sym (append_assoc (line (move_row (push (get_or m.values 0 0) (get_or m.values 1 0)))) (lines (map move_row s.moves)) s.rest);
      bytes_are = sym p.2 ∙ ap (λ (l : List ℕ). m.values ++ l) s.bytes_are ∙ ap (λ (vs : List ℕ). vs ++ bytes s.moves) v;
      ends = λ h. s.ends (omega arith);
    })
    e)

-- and they stand behind their head
read_plan_said : (l : ℕ) (bs plan : List ℕ) → readPlan l bs ≡ answered plan → (bs ≡ move_head ++ drop (length move_head) bs) × (readMoves moves_read (suc l) (drop (length move_head) bs) ≡ answered plan)
unfolding readPlan
read_plan_said l bs plan e = go (begins move_head bs) refl e
  where
    go : (t : Bool) → begins move_head bs ≡ t → headed l t (drop (length move_head) bs) ≡ answered plan
        → (bs ≡ move_head ++ drop (length move_head) bs) × (readMoves moves_read (suc l) (drop (length move_head) bs) ≡ answered plan)
    go true q e = (sym (take-append-drop (length move_head) bs) ∙ ap (λ (h : List ℕ). h ++ drop (length move_head) bs) (same_true _ _ q), e)
    go false q e = absurd (refused_ne_answered e)

-- So a verdict is printed only of moves that stand after the sheet of their yard.
record Sheets (bs : List ℕ) (s : BothSheets) : Type 0 where
  moves : List Move
  rest : List ℕ
  is : bs ≡ yard_sheet s.yard ++ (move_lines moves ++ rest)
  bytes_are : s.plan ≡ bytes moves
  ends : length moves < moves_read → Ends rest

sheets_said : (bs : List ℕ) (s : BothSheets) → read_sheets bs ≡ answered s → Sheets bs s
unfolding read_sheets move_lines
sheets_said bs s e = go (read_yard (yard_part bs)) refl e
  where
    back : List ℕ
    back = drop (length (yard_part bs)) bs

    whole : (y : Yard) → read_yard (yard_part bs) ≡ answered y → bs ≡ yard_sheet y ++ back
    whole y q = sym (take-append-drop (length (yard_part bs)) bs) ∙ ap (λ (l : List ℕ). l ++ back) ((yard_part_front bs).0 ∙ sym (write_read (yard_part bs) y q))

    go : (r : Answer Yard) → read_yard (yard_part bs) ≡ r → read_as bs (yard_part bs) r ≡ answered s → Sheets bs s
    go (refused f) q e = absurd (refused_ne_answered e)
    go (answered y) q e =
        let p = map_answer_answered (with_plan y) (readPlan (size y + 2) back) e in
        let h = read_plan_said (size y + 2) back p.0 p.1 in
        let m = read_moves_said moves_read (suc (size y + 2)) (drop (length move_head) back) p.0 h.1 in
        subst (Sheets bs) p.2 (record {
          moves = m.moves;
          rest = m.rest;
          is = whole y q ∙ ap (λ (l : List ℕ). yard_sheet y ++ l) (h.0 ∙ ap (λ (l : List ℕ). move_head ++ l) m.is ∙ sym (append_assoc move_head (lines (map move_row m.moves)) m.rest));
          bytes_are = m.bytes_are;
          ends = m.ends;
        })

pub checks_printed : (input : List ℕ) → Printed input
unfolding verdict_sheet
checks_printed input = go (read_sheets input) refl
  where
    told : (s : BothSheets) → read_sheets input ≡ answered s → (a : Answer Verdict) → check_answer s.yard s.plan ≡ a → Printed input
    told s e (refused f) q = inr (f, checks_cut input ∙ ap printed_of_sheets e ∙ ap (verdict_sheet s.yard (moves_of s.plan)) q)
    told s e (answered v) q =
        let r = sheets_said input s e in
        let m : moves_of s.plan ≡ r.moves = ap moves_of r.bytes_are ∙ moves_of_bytes r.moves in
        let n = few_checked s.yard s.plan (answer_answered (check_fault s.yard s.plan) _ v q).0 in
        inl (
          v,
          record {
            yard = s.yard;
            moves = r.moves;
            rest = r.rest;
            is = r.is;
            ends = r.ends (omega (arith, n, ap length m));
            answer = ap (check_answer s.yard) (sym r.bytes_are) ∙ q;
            printed = checks_cut input ∙ ap printed_of_sheets e ∙ ap (verdict_sheet s.yard (moves_of s.plan)) q ∙ ap (λ (l : List Move). verdict_sheet s.yard l (answered v)) m;
          },
        )

    go : (a : Answer BothSheets) → read_sheets input ≡ a → Printed input
    go (answered s) e = told s e (check_answer s.yard s.plan) refl
    go (refused f) e = inr (f, checks_cut input ∙ ap printed_of_sheets e)

pub yard_refused : (input : List ℕ) → YardRefused input
unfolding read_sheets
yard_refused input f e = checks_cut input ∙ ap (λ (r : Answer Yard). printed_of_sheets (read_as input (yard_part input) r)) e

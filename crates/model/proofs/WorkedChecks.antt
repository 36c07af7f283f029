-- The check program on sheets worked by hand, as one list of inputs and what is printed for them: the definitions, computed, print what is written here.
use mathlib.Core.Path.{◌≡◌, refl}
use mathlib.Core.List.{List, [], ◌∷◌, ◌++◌, map}
use Prim.Native.String.{String}
use Rattle.model.specs.Yard.{sum, below, roots, climbs, inside, subtotal, shortest}
use Rattle.model.specs.Judge.{judge}
use Rattle.model.specs.Push.{move_fault, push_fault, legal, shifted, after, accepted, count}
use Rattle.model.specs.Calls.Plans.{moves_of}
use Rattle.model.specs.Calls.Checks.{moves_fault, check_fault}
use Rattle.model.specs.Sheets.{text, digits, decimal, stopBefore, line, lines, edges, report, header, cut, same, value, field, readLine, readNodes, read_yard, refusal_sheet}
use Rattle.model.specs.CheckSheets.{digit_first, yard_part, readMoves, readPlan, read_sheets, verdict_sheet, checks}

-- the front and the back of an input, and what is printed
record Case : Type 0 where
  front : String
  back : String
  expected : String

infix 1 ◌with◌prints◌
◌with◌prints◌ : String → String → String → Case
f with b prints e = record { front = f; back = b; expected = e }

-- one node whose pebble stands on its target: two lines; a pebble at node 0 that is to go to node 1: three lines; yard A: six lines
one : String
one = "berth parent car target depth\n0 0 1 1 1\n"

two : String
two = "berth parent car target depth\n0 0 1 0 1\n1 0 0 1 1\n"

sheet_a : String
sheet_a = "berth parent car target depth\n0 0 0 0 1\n1 0 1 0 1\n2 0 0 1 1\n3 1 1 0 1\n4 1 0 1 1\n"

cases : List Case
cases =
    -- as printed; altered: two moves spare, and a report that is stale, of no shape, or cut off
    (sheet_a with "from to\n1 0\n0 2\n3 1\n1 4\ntrack up down\n1 1 0\n2 0 1\n3 1 0\n4 0 1\ntotal\n4\n" prints "moves spare\n4 0\ntrack up down\n1 1 0\n2 0 1\n3 1 0\n4 0 1\ntotal\n4\n")
    ∷ (two with "from to\n0 1\n1 0\n0 1\ntrack up down\n1 0 1\ntotal\n1\n" prints "moves spare\n3 2\ntrack up down\n1 1 2\ntotal\n3\n")
    ∷ (one with "from to\ntrack up down\nx" prints "moves spare\n0 0\ntrack up down\ntotal\n0\n")
    ∷ (one with "from to\n" prints "moves spare\n0 0\ntrack up down\ntotal\n0\n")
    -- 15: the head differs, lacks its line feed, or is missing
    ∷ (one with "from  to\n0 1\n" prints "refusal place\n15 3\n")
    ∷ (one with "from to" prints "refusal place\n15 3\n")
    ∷ (one with "" prints "refusal place\n15 3\n")
    ∷ (one with "\nfrom to\n" prints "refusal place\n15 3\n")
    -- 16: a line of another shape, a value above 255, no line feed; also the report's head, if it is not whole
    ∷ (one with "from to\n0 1\n1 00\n" prints "refusal place\n16 5\n")
    ∷ (one with "from to\n0 256\n" prints "refusal place\n16 4\n")
    ∷ (one with "from to\n0 1 1\n" prints "refusal place\n16 4\n")
    ∷ (one with "from to\n\n" prints "refusal place\n16 4\n")
    ∷ (one with "from to\n0 1" prints "refusal place\n16 4\n")
    ∷ (one with "from to\ntrack up\n" prints "refusal place\n16 4\n")
    ∷ (one with "from to\ntrack up down" prints "refusal place\n16 4\n")
    -- the yard sheet is read as ever, up to a line that begins with no digit
    ∷ ("" with "" prints "refusal place\n15 1\n")
    ∷ ("from to\n" with "0 1\n" prints "refusal place\n15 1\n")
    ∷ ("berth parent car target depth\n" with "from to\n" prints "refusal place\n1 2\n")
    ∷ ("berth parent car target depth\n0 0 1 0\n" with "from to\n" prints "refusal place\n16 2\n")
    ∷ ("berth parent car target depth\n1 0 1 0 1\n" with "from to\n" prints "refusal place\n17 2\n")
    ∷ ("berth parent car target depth\n0 0 1 1 1" with "from to\n" prints "refusal place\n16 2\n")
    ∷ (one with " 1 0 0 0 1\nfrom to\n" prints "refusal place\n15 3\n")
    ∷ (one with "0 1\n" prints "refusal place\n16 3\n")
    -- then yard and moves are judged: 27, 7, 10 to 12 at a move, 14 at a node
    ∷ ("berth parent car target depth\n0 0 2 1 1\n" with "from to\n0 0\n" prints "refusal place\n27 0\n")
    ∷ ("berth parent car target depth\n0 0 1 0 1\n" with "from to\n0 0\n" prints "refusal place\n7 0\n")
    ∷ (two with "from to\n0 1\n0 2\n" prints "refusal place\n10 1\n")
    ∷ (one with "from to\n0 0\n" prints "refusal place\n11 0\n")
    ∷ (two with "from to\n1 0\n" prints "refusal place\n12 0\n")
    ∷ (two with "from to\n" prints "refusal place\n14 1\n")
    -- all is read before anything is judged
    ∷ ("berth parent car target depth\n0 0 2 1 1\n" with "from\n" prints "refusal place\n15 3\n")
    ∷ (one with "from to\n0 0\n0\n" prints "refusal place\n16 5\n")
    ∷ []

worked : map (λ (c : Case). checks (text c.front ++ text c.back)) cases ≡ map (λ (c : Case). text c.expected) cases
unfolding cases ◌with◌prints◌ one two sheet_a sum below roots climbs inside subtotal shortest judge move_fault push_fault legal shifted after moves_of moves_fault check_fault text digits decimal stopBefore line lines edges report accepted count header cut same value field readLine readNodes read_yard refusal_sheet digit_first yard_part readMoves readPlan read_sheets verdict_sheet checks
worked = refl

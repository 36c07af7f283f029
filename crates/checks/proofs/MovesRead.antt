-- The moves, line by line: what the lines so far say stands in front of what the others do.
use mathlib.Core.Path.{◌≡◌, refl, sym, ap, ◌∙◌}
use mathlib.Core.Bool.{true, false}
use mathlib.Core.List.{List, [], ◌∷◌, ◌++◌, append_assoc, append-nil}
use mathlib.Core.Option.{none, some}
use Prim.Native.Nat.{ℕ, suc, ◌+◌, ◌-◌, ◌*◌, ◌<◌}
use native.Mathlib.Nat.{add-zero, add-suc}
use native.Mathlib.Numerals.{add-one}
use native.Mathlib.Omega.{arith}
use lib.ListN.{length, take, drop, set, get_or, length-set, length-drop}
use lib.Seq.{take-suc-set, take_all}
use Rattle.model.specs.Judge.{row}
use Rattle.model.specs.Calls.Answers.{Answer, answered, refused, mapAnswer}
use Rattle.model.specs.Sheets.{text, begins, move_head, report_head, readLine}
use Rattle.model.specs.CheckSheets.{move_values, moves_read, readMoves, readPlan}
use Rattle.laws.proofs.CheckSheets.{read_moves_none, read_moves_end, read_moves_report, read_moves_shape, read_moves_next, pair}
use Rattle.sheet.proofs.Writing.{drop_next}
use Rattle.checks.specs.Reading.{plan_room}

-- the bytes from a place on, as a part that is lent
pub rest_whole : (l : List ℕ) (at : ℕ) → take (length l - at) (drop at l) ≡ drop at l
rest_whole l at = take_all (length l - at) (drop at l) (rw length-drop (omega arith))

-- readPlan, by whether the head is there
module _ (l : ℕ) (bs : List ℕ) where
  pub plan_headless : begins move_head bs ≡ false → refused (row 15 l) ≡ readPlan l bs
  unfolding readPlan
  plan_headless e = sym (rw (e, readPlan))

  pub plan_headed : begins move_head bs ≡ true → readMoves moves_read (suc l) (drop 8 bs) ≡ readPlan l bs
  unfolding readPlan text
  plan_headed e = sym (rw (e, readPlan))

front_none : (a : Answer (List ℕ)) → a ≡ mapAnswer (◌++◌ []) a
front_none (answered l) = refl
front_none (refused f) = refl

front_more : (xs ys : List ℕ) (a : Answer (List ℕ)) → mapAnswer (◌++◌ xs) (mapAnswer (◌++◌ ys) a) ≡ mapAnswer (◌++◌ (xs ++ ys)) a
front_more xs ys (answered l) = ap answered (sym (append_assoc xs ys l))
front_more xs ys (refused f) = refl

-- the array holds the first m moves, and the bytes from `next` on are the other lines
pub record SoFar (input : List ℕ) (at first : ℕ) (plan : List ℕ) (next m : ℕ) : Type 0 where
  pub full : length plan ≡ plan_room
  pub said : readMoves moves_read first (drop at input) ≡ mapAnswer (◌++◌ (take (2 * m) plan)) (readMoves (moves_read - m) (first + m) (drop next input))

pub so_far_none : (input : List ℕ) (at first : ℕ) (plan : List ℕ) → length plan ≡ plan_room → SoFar input at first plan at 0
so_far_none input at first plan n = record { full = n; said = rw add-zero (front_none (readMoves moves_read first (drop at input))) }

-- two values put behind the moves so far
take_pair : (plan : List ℕ) (m a b : ℕ) → 2 * m + 1 < length plan → take (2 * (m + 1)) (set (set plan (2 * m) a) (2 * m + 1) b) ≡ take (2 * m) plan ++ (a ∷ b ∷ [])
take_pair plan m a b h =
    let n : 2 * (m + 1) ≡ suc (2 * m + 1) = omega arith in
    rw (n, take-suc-set (set plan (2 * m) a) (2 * m + 1) b (rw length-set h), add-one (2 * m), take-suc-set plan (2 * m) a (omega arith)) (append_assoc (take (2 * m) plan) (a ∷ []) (b ∷ []))

module _ {input : List ℕ} {at first : ℕ} {plan : List ℕ} {next m : ℕ} (s : SoFar input at first plan next m) where
  ended : readMoves (moves_read - m) (first + m) (drop next input) ≡ answered [] → answered (take (2 * m) plan) ≡ readMoves moves_read first (drop at input)
  ended e = sym (s.said ∙ rw (e, append-nil (take (2 * m) plan)))

  pub so_far_end : drop next input ≡ [] → answered (take (2 * m) plan) ≡ readMoves moves_read first (drop at input)
  so_far_end e = ended (rw e (read_moves_end (moves_read - m) (first + m)))

  pub so_far_report : begins report_head (drop next input) ≡ true → answered (take (2 * m) plan) ≡ readMoves moves_read first (drop at input)
  so_far_report e = ended (read_moves_report (moves_read - m) (first + m) (drop next input) e)

  pub so_far_many : m ≡ moves_read → answered (take plan_room plan) ≡ readMoves moves_read first (drop at input)
  so_far_many e =
      let n : moves_read - m ≡ 0 = omega arith in
      let q : 2 * m ≡ plan_room = omega arith in
      rw q at (ended (rw n (read_moves_none (first + m) (drop next input))))

  module _ (l : m < moves_read) (h : next < length input) (n : begins report_head (drop next input) ≡ false) where
    room : moves_read - m ≡ suc (131_072 - m)
    room = omega arith

    pub so_far_shape : readLine move_values (drop next input) ≡ none → refused (row 16 (first + m)) ≡ readMoves moves_read first (drop at input)
    so_far_shape e =
        sym (s.said ∙ rw (room, drop_next input next h, read_moves_shape (131_072 - m) (first + m) (get_or input next 0) (drop (next + 1) input) (rw (drop_next input next h) at n) (rw (drop_next input next h) at e)))

    pub so_far_next : (vs : List ℕ) (next' : ℕ) → length vs ≡ move_values → readLine move_values (drop next input) ≡ some (record { values = vs; rest = drop next' input })
        → SoFar input at first (set (set plan (2 * m) (get_or vs 0 0)) (2 * m + 1) (get_or vs 1 0)) next' (m + 1)
    so_far_next vs next' c e =
        let k : moves_read - (m + 1) ≡ 131_072 - m = omega arith in
        let f = s.full in
        let r = rw (room, read_moves_next (131_072 - m) (first + m) (drop next input) n e) at s.said in
        record {
          full = simp length-set f;
          said = r ∙ front_more (take (2 * m) plan) vs (readMoves (131_072 - m) (suc (first + m)) (drop next' input))
              ∙ rw (k, take_pair plan m (get_or vs 0 0) (get_or vs 1 0) (omega arith), ← (pair vs c), add-one m, add-suc);
        }

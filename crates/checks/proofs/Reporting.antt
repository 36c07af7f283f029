-- The report of accepted moves: their nodes are of the yard, their crossings are counted, and there is room for it.
use mathlib.Core.Path.{◌≡◌, refl, sym, ap, subst, ◌∙◌}
use mathlib.Core.List.{List, [], ◌∷◌, ◌++◌, append_assoc}
use Prim.Native.Nat.{ℕ, zero, suc, ◌+◌, ◌*◌, ◌/◌, ◌%◌, ◌≤◌, ◌<◌}
use native.Mathlib.Omega.{arith}
use native.Mathlib.Decide.{ℕ_discrete, dec_lt}
use lib.ListN.{length, get_or, take, get_or-eq_default}
use lib.Seq.{get_or-take, length-take-le}
use Rattle.model.specs.Judge.{Tree}
use Rattle.model.specs.Yard.{Yard, size, root}
use Rattle.model.specs.Push.{Move, push, is_up, is_down, count}
use Rattle.model.specs.Calls.Answers.{rowUnit}
use Rattle.model.specs.Calls.Plans.{moves_of}
use Rattle.model.specs.Calls.Checks.{Verdict, check_tests, check_fault}
use Rattle.model.specs.Sheets.{text, line, report}
use Rattle.model.specs.CheckSheets.{verdict_sheet}
use Rattle.laws.proofs.Basics.{none_all}
use Rattle.laws.proofs.Judged.{facts}
use Rattle.laws.proofs.Step.{ends}
use Rattle.laws.proofs.Runs.{Obeys}
use Rattle.laws.proofs.Moves.{accepted_obeys}
use Rattle.laws.proofs.Calls.{answer_answered, move_at}
use Rattle.laws.proofs.Cabinet.{bytes_fault_whole}
use Rattle.laws.proofs.Places.{checked_small, excess_small}
use Rattle.laws.proofs.Demand2.{check_excess}
use Rattle.laws.proofs.Spare.{check_solves}
use Rattle.laws.proofs.Wear.{count_le}
use Rattle.sheet.specs.Report.{Columns, report_of}
use Rattle.sheet.specs.Written.{Written}
use Rattle.sheet.proofs.Edges.{report_is}
use Rattle.sheet.proofs.Writing.{written_as, written_append}
use Rattle.checks.specs.Crossings.{InYard, bare, Counted}
use Rattle.checks.specs.Verdicts.{verdict, Accepted, accepted_sheet}

-- the nodes of moves that are obeyed
obeys_nodes : {y z : Yard} {ms : List Move} → Obeys y ms z → (k : ℕ) → k < length ms → let m = get_or ms k (push 0 0) in (m.from < size y) × (m.to < size y)
obeys_nodes Obeys.done k l = absurd (omega arith)
obeys_nodes (Obeys.next {y} {m = m} s o) zero l = let e = ends y m s in (omega (arith, e), omega (arith, e))
obeys_nodes (Obeys.next {y} {m = m} s o) (suc k) l = obeys_nodes o k (omega arith)

module _ (y : Yard) {ps plan : List ℕ} {v : Verdict} (h : Accepted y ps plan v) where
  whole : (length plan ≡ 2 * length (moves_of plan)) × (length (moves_of plan) ≤ 131_072)
  unfolding check_fault
  whole =
      let a = (answer_answered (check_fault y plan) _ v h.answer).0 in
      (bytes_fault_whole plan).0 (none_all (check_tests y plan) a).1.1.0

  nodes : (k : ℕ) → k < length (moves_of plan) → (get_or plan (2 * k) 0 < length ps) × (get_or plan (2 * k + 1) 0 < length ps)
  nodes k l =
      let s = check_solves y plan v h.answer in
      let o = obeys_nodes (accepted_obeys y s.0 (moves_of plan) s.2) k l in
      rw (move_at plan k (omega (arith, whole.0)), h.is) at o

  pub in_yard : InYard ps plan
  in_yard =
      let s = check_solves y plan v h.answer in
      record { few = rw h.is at (facts y s.0).few.1; short = omega (arith, whole); node = λ i l. at_byte i l (ℕ_discrete (i % 2) 0) }
    where
      at_byte : (i : ℕ) → i < length plan → Dec (i % 2 ≡ 0) → get_or plan i 0 < length ps
      at_byte i l (yes e) = let q : 2 * (i / 2) ≡ i = omega arith in rw q at (nodes (i / 2) (omega (arith, whole.0))).0
      at_byte i l (no e) = let q : 2 * (i / 2) + 1 ≡ i = omega arith in rw q at (nodes (i / 2) (omega (arith, whole.0))).1

  pub values_small : (v.moves < rowUnit) × (v.excess < rowUnit)
  values_small = (checked_small y plan (sym h.answer), excess_small y plan (sym h.answer))

  -- the counts are small
  module _ {us ds : List ℕ} (c : Counted ps plan us ds) where
    first : (xs : List ℕ) → length xs ≡ 256 → ((w : ℕ) → get_or xs w 0 ≤ 131_072) → (w : ℕ) → get_or (take (length ps) xs) w 0 < rowUnit
    first xs e f w = go (dec_lt w (length ps))
      where
        go : Dec (w < length ps) → get_or (take (length ps) xs) w 0 < rowUnit
        go (yes l) = rw (get_or-take (length ps) xs w 0 l) (omega (arith, f w))
        go (no l) =
            let k : length (take (length ps) xs) ≤ w = omega (arith, length-take-le (length ps) xs (omega (arith, e, in_yard.few))) in
            rw (get_or-eq_default (take (length ps) xs) 0 k) (omega arith)

    -- and the two arrays have an entry for each node
    pub columns_room : (length ps ≤ length us) × (length ps ≤ length ds)
    columns_room = (omega (arith, in_yard.few, c.up_length), omega (arith, in_yard.few, c.down_length))

    pub accepted_columns : Columns (take (length ps) us) (take (length ps) ds)
    accepted_columns =
        let n = in_yard.few in
        let a = length-take-le (length ps) us (omega (arith, n, c.up_length)) in
        let b = length-take-le (length ps) ds (omega (arith, n, c.down_length)) in
        record {
          few = omega (arith, a, n);
          same = b ∙ sym a;
          up_small = first us c.up_length (λ w. omega (arith, (c.are w).0, count_le (is_up (bare ps) w) (moves_of plan), whole.1));
          down_small = first ds c.down_length (λ w. omega (arith, (c.are w).1, count_le (is_down (bare ps) w) (moves_of plan), whole.1));
        }

-- and they are the crossings of the moves, so the report is theirs
pub accepted_report : (y : Yard) {plan : List ℕ} {v : Verdict} (h : Accepted y y.parents plan v) {us ds : List ℕ} → Counted y.parents plan us ds → (n r : ℕ) → n ≡ size y → r ≡ root y
    → report_of (take n us) (take n ds) r v.moves ≡ report y (moves_of plan)
accepted_report y {plan} {v} h {us} {ds} c n r e q =
    let few = (in_yard y h).few in
    let s = check_solves y plan v h.answer in
    rw e
    (report_is y (moves_of plan) (take (size y) us) (take (size y) ds) r v.moves (length-take-le (size y) us (omega (arith, few, c.up_length)))
    (λ w l.
    (get_or-take (size y) us w 0 l ∙ (c.are w).0 ∙ sym (ap (count (is_up y w)) s.2), get_or-take (size y) ds w 0 l ∙ (c.are w).1 ∙ sym (ap (count (is_down y w)) s.2)))
    q (check_excess y s.0 s.1 plan v h.answer).0)

pub accepted_sheet_law : (y : Yard) (plan : List ℕ) (v : Verdict) → (text "moves spare\n" ++ line (v.moves ∷ v.excess ∷ [])) ++ report y (moves_of plan) ≡ accepted_sheet y plan v
unfolding verdict_sheet
accepted_sheet_law y plan v = append_assoc (text "moves spare\n") (line (v.moves ∷ v.excess ∷ [])) (report y (moves_of plan))

-- what is written of accepted moves, for whatever such yard: the head and the two values, and behind them the report
pub accepted_written : (y : Yard) {ps plan us ds out mid new : List ℕ} {moves excess r₀ at r : ℕ}
    → Accepted y ps plan (verdict moves excess) → Counted ps plan us ds → r₀ ≡ root y
    → Written (text "moves spare\n" ++ line (moves ∷ excess ∷ [])) 0 out at mid
    → Written (report_of (take (length ps) us) (take (length ps) ds) r₀ moves) at mid r new
    → Written (accepted_sheet y plan (verdict moves excess)) 0 out r new
accepted_written y {ps} {plan} {us} {ds} {moves = moves} {excess} {r₀} h c q w x =
    let v = verdict moves excess in
    let own : Accepted y y.parents plan v = record { is = refl; answer = h.answer } in
    let n = subst (λ (qs : List ℕ). Counted qs plan us ds) (sym h.is) c in
    let e = accepted_report y own n (length ps) r₀ (ap length (sym h.is)) q in
    written_as (accepted_sheet_law y plan v) (written_append w (written_as e x))

-- of such a yard the root can be asked for
pub accepted_tree : (y : Yard) {ps plan : List ℕ} {v : Verdict} → Accepted y ps plan v → Tree y
accepted_tree y {plan = plan} {v} h = (check_solves y plan v h.answer).0

-- `wear::count::obey_and_count` meets its contract. Invariant of the first loop: the moves made are obeyed and counted. Of the second: from
-- stretch to stretch the crossings are shifted, and the worst so far stays unless the edge that came in has more (the laws are in Wearing).
use mathlib.Core.Path.{◌≡◌, sym}
use mathlib.Core.List.{List}
use Prim.Native.Nat.{ℕ, ◌+◌, ◌≤◌, ◌<◌}
use native.Mathlib.Omega.{arith}
use lib.ListN.{length, get_or}
use lib.Dec.{eqb}
use Rattle.model.specs.Yard.{Yard, size, lowest, most}
use Rattle.model.specs.Judge.{Tree}
use Rattle.model.specs.Calls.Plans.{moves_of}
use Rattle.laws.proofs.Judged.{facts}
use Rattle.laws.proofs.Calls.{moves_half}
use Rattle.wear.specs.Wearing.{AskedWear}
use Rattle.wear.proofs.Wearing.{Obeying, Entries, Sliding, obeying_first, obeying_long, obeying_lt, obeying_refused, obeying_next}
use Rattle.wear.proofs.Wearing.{edge_asked, edge_lt, entry_small, count_none, count_more, slide_first, slide_past}
use Rattle.wear.proofs.Wearing.{edge_of_first, edge_of_last, shift_asked, slide_stays, slide_rises, worn_move, worn_end}
use Rattle.laws.proofs.Refused.{told_on}
use Rattle.wear.proofs.count.obey_and_count.Goals as goal
use Rattle.wear.proofs.count.obey_and_count.Goals.{then-most-crossings, else-most-crossings}

-- the first stretch is counted
begun : {y : Yard} {plan qs counts : List ℕ} {w i crossings edge : ℕ} → Tree y × AskedWear plan w
    → (i ≤ w) × Obeying y plan i qs × Entries y plan i 0 counts → w ≤ i → crossings ≡ most (size y) (λ v. get_or counts v 0)
    → edge ≡ lowest (size y) (λ v. eqb (get_or counts v 0) crossings) → Sliding y plan w qs counts crossings 0 edge 0
begun {w = w} {i} a v l m b = let e : i ≡ w = omega (arith, v.0) in slide_first a.0 a.1 (rw e at v.1) (rw e at v.2) m b

pub loop-i-init : goal.loop-i-init
loop-i-init c = (omega arith, obeying_first _ _ c.requires.0, count_none _ _)

-- the first stretch: the move at hand
pub obey_move-requires : goal.obey_move-requires
obey_move-requires c =
    let o = c.loop-i.invariant.1 in
    (obeying_long o, obeying_lt o (omega (arith, c.requires.1.wide)))

pub returns-in_err-obey_move : goal.returns-in_err-obey_move
returns-in_err-obey_move c =
    let o = c.loop-i.invariant.1 in
    let f = c.in_err-obey_move.ensures in
    let r = worn_move _ _ c.args.width (obeying_refused o (omega (arith, c.requires.1.wide)) _ (sym f.result_value)) f.pebbles_value in
    record { result_value = told_on _ _ c.from_residual.ensures.1 _ r.0; pebbles_value = r.1 }

-- it is obeyed, and crosses an edge
pub edge_at-come-requires : goal.edge_at-come-requires
edge_at-come-requires c =
    let l : c.loop-i.i < length (moves_of c.args.plan.now) = omega (arith, c.requires.1.wide) in
    let f = c.in_ok-obey_move.ensures in
    edge_asked (obeying_next c.loop-i.invariant.1 l (sym f.result_value) f.pebbles_value) _ (omega arith) l

pub overflow_add-counts : goal.overflow_add-counts
overflow_add-counts c =
    let l : c.loop-i.i < length (moves_of c.args.plan.now) = omega (arith, c.requires.1.wide) in
    let f = c.in_ok-obey_move.ensures in
    let o = obeying_next c.loop-i.invariant.1 l (sym f.result_value) f.pebbles_value in
    let e = edge_lt o c.loop-i.i (omega arith) l in
    omega (arith, entry_small c.requires.1.few c.loop-i.invariant.2 c.edge_at-come.result (rw c.edge_at-come.ensures e))

pub loop-i-preserved : goal.loop-i-preserved
loop-i-preserved c =
    let l : c.loop-i.i < length (moves_of c.args.plan.now) = omega (arith, c.requires.1.wide) in
    let f = c.in_ok-obey_move.ensures in
    let o = obeying_next c.loop-i.invariant.1 l (sym f.result_value) f.pebbles_value in
    (omega arith, o, count_more o c.loop-i.invariant.2 l c.edge_at-come.ensures)

pub most_crossings-most-requires : goal.most_crossings-most-requires
most_crossings-most-requires c = (facts _ c.requires.0).few.1

pub lowest_edge-worst-requires : goal.lowest_edge-worst-requires
lowest_edge-worst-requires c = (facts _ c.requires.0).few.1

-- from stretch to stretch
pub overflow_sub-gone-end : goal.overflow_sub-gone-end
overflow_sub-gone-end c = omega (arith, c.requires.1.wide, moves_half c.args.plan.now)

pub obey_move-requires-in-loop-gone : goal.obey_move-requires-in-loop-gone
obey_move-requires-in-loop-gone c =
    let b = begun c.requires c.loop-i.invariant (omega arith) c.most_crossings-most.ensures c.lowest_edge-worst.ensures in
    let o = (c.loop-gone.invariant _ c.requires.0 b).obeying in
    (obeying_long o, obeying_lt o (omega (arith, moves_half c.args.plan.now)))

pub returns-in_err-obey_move-2 : goal.returns-in_err-obey_move-2
returns-in_err-obey_move-2 c =
    let b = begun c.requires c.loop-i.invariant (omega arith) c.most_crossings-most.ensures c.lowest_edge-worst.ensures in
    let o = (c.loop-gone.invariant _ c.requires.0 b).obeying in
    let f = c.in_err-obey_move-2.ensures in
    let e = obeying_refused o (omega (arith, moves_half c.args.plan.now)) _ (sym f.result_value) in
    let r = worn_move _ _ c.args.width e f.pebbles_value in
    record { result_value = told_on _ _ c.from_residual-in_err-obey_move-2.ensures.1 _ r.0; pebbles_value = r.1 }

-- the move that comes in is obeyed, in whichever yard the moves before it were
pub edge_at-come-requires-in-loop-gone : goal.edge_at-come-requires-in-loop-gone
edge_at-come-requires-in-loop-gone c =
    let b = begun c.requires c.loop-i.invariant (omega arith) c.most_crossings-most.ensures c.lowest_edge-worst.ensures in
    let l : c.loop-gone.gone + c.args.width < length (moves_of c.args.plan.now) = omega (arith, moves_half c.args.plan.now) in
    let f = c.in_ok-obey_move-2.ensures in
    let o = obeying_next (c.loop-gone.invariant _ c.requires.0 b).obeying l (sym f.result_value) f.pebbles_value in
    edge_asked o _ (omega arith) l

pub edge_at-requires : goal.edge_at-requires
edge_at-requires c =
    let b = begun c.requires c.loop-i.invariant (omega arith) c.most_crossings-most.ensures c.lowest_edge-worst.ensures in
    let s = c.loop-gone.invariant _ c.requires.0 b in
    edge_asked s.obeying _ (omega (arith, c.requires.1.some)) (omega (arith, moves_half c.args.plan.now))

pub shift-crossings-requires : goal.shift-crossings-requires
shift-crossings-requires c =
    let b = begun c.requires c.loop-i.invariant (omega arith) c.most_crossings-most.ensures c.lowest_edge-worst.ensures in
    let s = c.loop-gone.invariant _ c.requires.0 b in
    let l : c.loop-gone.gone + c.args.width < length (moves_of c.args.plan.now) = omega (arith, moves_half c.args.plan.now) in
    let f = c.in_ok-obey_move-2.ensures in
    let o = obeying_next s.obeying l (sym f.result_value) f.pebbles_value in
    shift_asked c.requires.0 c.requires.1 o s.entries l c.edge_at-come-in-loop-gone.ensures c.edge_at.ensures

pub loop-gone-preserved : goal.loop-gone-preserved
loop-gone-preserved c qs t b =
    let s = c.loop-gone.invariant qs t b in
    let l : c.loop-gone.gone + c.args.width < length (moves_of c.args.plan.now) = omega (arith, moves_half c.args.plan.now) in
    let f = c.in_ok-obey_move-2.ensures in
    let o = obeying_next s.obeying l (sym f.result_value) f.pebbles_value in
    let h = c.shift-crossings.ensures in
    let e = c.edge_at-come-in-loop-gone.ensures in
    elim c.if-most-crossings.branch [
      | then-most-crossings w ↦ rw (w.most-is, w.first-is) (slide_rises t c.requires.1 o s.entries l e c.edge_at.ensures s.best h.0 h.1 _ w.if-most-crossings.true)
      | else-most-crossings w ↦ rw (w.most-is, w.first-is) (slide_stays t c.requires.1 o s.entries l e c.edge_at.ensures s.best h.0 h.1 w.if-most-crossings.false)
    ]

-- the end: every move is made
pub returns-then-first-eq0 : goal.returns-then-first-eq0
returns-then-first-eq0 c =
    let b = begun c.requires c.loop-i.invariant (omega arith) c.most_crossings-most.ensures c.lowest_edge-worst.ensures in
    let s = c.loop-gone.invariant _ c.requires.0 b in
    let r = worn_end _ _ _ (edge_of_first _ s c.if-first-eq0.true) (omega (arith, moves_half c.args.plan.now)) in
    record { result_value = r.0; pebbles_value = r.1 }

pub overflow_add-first-2 : goal.overflow_add-first-2
overflow_add-first-2 c =
    let b = begun c.requires c.loop-i.invariant (omega arith) c.most_crossings-most.ensures c.lowest_edge-worst.ensures in
    let s = c.loop-gone.invariant _ c.requires.0 b in
    omega (arith, slide_past c.requires.0 s, s.few, c.requires.1.few)

pub edge_at-requires-2 : goal.edge_at-requires-2
edge_at-requires-2 c =
    let b = begun c.requires c.loop-i.invariant (omega arith) c.most_crossings-most.ensures c.lowest_edge-worst.ensures in
    let s = c.loop-gone.invariant _ c.requires.0 b in
    let p = slide_past c.requires.0 s in
    edge_asked s.obeying _ (omega (arith, p, c.if-first-eq0.false)) (omega (arith, p, s.few, c.if-first-eq0.false))

pub returns : goal.returns
returns c =
    let b = begun c.requires c.loop-i.invariant (omega arith) c.most_crossings-most.ensures c.lowest_edge-worst.ensures in
    let s = c.loop-gone.invariant _ c.requires.0 b in
    let r = worn_end _ _ _ (edge_of_last _ s c.if-first-eq0.false c.edge_at-2.ensures) (omega (arith, moves_half c.args.plan.now)) in
    record { result_value = r.0; pebbles_value = r.1 }

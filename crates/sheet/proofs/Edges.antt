-- The lines of the crossing report: the line of an edge is short; those of the edges below v + 1 are those below v and then that of v, if v is not the root;
-- with the crossings of some moves as columns they are the report of those moves.
use mathlib.Core.Path.{◌≡◌, refl, sym, ap, ◌∙◌}
use mathlib.Core.Bool.{Bool, true, false, not, cond}
use mathlib.Core.List.{List, [], ◌∷◌, ◌++◌, map, append_assoc, append-nil}
use Prim.Native.Nat.{ℕ, zero, suc, ◌+◌, ◌*◌, ◌≤◌, ◌<◌}
use native.Mathlib.Numerals.{add-one}
use native.Mathlib.Omega.{arith}
use lib.ListN.{length, get_or, length-append}
use lib.Dec.{eqb}
use Rattle.model.specs.Yard.{Yard, size, max_size, below, root}
use Rattle.model.specs.Push.{Move, ups, downs}
use Rattle.model.specs.Calls.Answers.{rowUnit}
use Rattle.model.specs.Sheets.{text, line, lines, edges, report_row, report}
use Rattle.laws.proofs.Basics.{all_below}
use Rattle.laws.proofs.Ranges.{map_all}
use Rattle.sheet.specs.Report.{line_unless_root, edge_lines, report_of, Columns, edge_room, report_room}
use Rattle.sheet.proofs.Decimals.{decimal_short, decimal_six}

pub edge_short : (r v a b : ℕ) → v < max_size → a < rowUnit → b < rowUnit → length (line_unless_root r v a b) ≤ edge_room
unfolding line
edge_short r v a b h k l = go (not (eqb v r))
  where
    go : (t : Bool) → length (cond t (line (v ∷ a ∷ b ∷ [])) []) ≤ edge_room
    go true = simp length-append (omega (arith, decimal_short v (omega arith), decimal_six a k, decimal_six b l))
    go false = omega arith

-- the lines of the edges below v
lines_append : (xs ys : List (List ℕ)) → lines (xs ++ ys) ≡ lines xs ++ lines ys
unfolding lines
lines_append [] ys = refl
lines_append (x ∷ xs) ys = ap (λ (l : List ℕ). line x ++ l) (lines_append xs ys) ∙ sym (append_assoc (line x) (lines xs) (lines ys))

map_append : (f : ℕ → List ℕ) (xs ys : List ℕ) → map f (xs ++ ys) ≡ map f xs ++ map f ys
map_append f [] ys = refl
map_append f (x ∷ xs) ys = ap (λ (l : List (List ℕ)). f x ∷ l) (map_append f xs ys)

module _ (xs zs : List ℕ) (r : ℕ) where
  pub edges_none : edge_lines xs zs r 0 ≡ []
  unfolding below lines
  edges_none = refl

  pub edges_next : (v : ℕ) → edge_lines xs zs r (v + 1) ≡ edge_lines xs zs r v ++ line_unless_root r v (get_or xs v 0) (get_or zs v 0)
  unfolding below lines
  edges_next v = rw (add-one v, map_append, lines_append) (ap (λ (l : List ℕ). edge_lines xs zs r v ++ l) (go (not (eqb v r))))
    where
      go : (b : Bool) → lines (map (λ u. u ∷ get_or xs u 0 ∷ get_or zs u 0 ∷ []) (cond b (v ∷ []) [])) ≡ cond b (line (v ∷ get_or xs v 0 ∷ get_or zs v 0 ∷ [])) []
      go true = append-nil _
      go false = refl

  module _ (c : Columns xs zs) where
    pub edges_short : (v : ℕ) → v ≤ length xs → length (edge_lines xs zs r v) ≤ edge_room * v
    edges_short zero l = rw edges_none (omega arith)
    edges_short (suc v) l =
        rw (← (add-one v), edges_next v, length-append)
        (omega (arith, edges_short v (omega arith), edge_short r v (get_or xs v 0) (get_or zs v 0) (omega (arith, c.few)) (c.up_small v) (c.down_small v)))

-- the total's line
pub total_short : (n : ℕ) → n < rowUnit → length (line (n ∷ [])) ≤ 7
unfolding line
total_short n h = simp length-append (omega (arith, decimal_six n h))

pub report_short : (xs zs : List ℕ) (r n : ℕ) → Columns xs zs → n < rowUnit → length (report_of xs zs r n) ≤ report_room (length xs)
unfolding text
report_short xs zs r n c h = simp length-append (omega (arith, edges_short xs zs r c (length xs) (omega arith), total_short n h))

-- the report of some moves
pub report_is : (y : Yard) (ms : List Move) (xs zs : List ℕ) (r n : ℕ) → length xs ≡ size y → ((v : ℕ) → v < size y → (get_or xs v 0 ≡ ups y ms v) × (get_or zs v 0 ≡ downs y ms v))
    → r ≡ root y → n ≡ length ms → report_of xs zs r n ≡ report y ms
unfolding report edges
report_is y ms xs zs r n l e q m =
    rw (l, q, m)
    (ap (λ (rows : List (List ℕ)). text "track up down\n" ++ (lines rows ++ (text "total\n" ++ line (length ms ∷ []))))
    (map_all (λ v. v ∷ get_or xs v 0 ∷ get_or zs v 0 ∷ []) (report_row y ms) (edges y)
    (all_below _ (λ v. not (eqb v (root y))) (size y) (λ v h _. ap (λ (a : ℕ). v ∷ a ∷ get_or zs v 0 ∷ []) (e v h).0 ∙ ap (λ (b : ℕ). v ∷ ups y ms v ∷ b ∷ []) (e v h).1))))

-- `put_edge` writes nothing for the root, and else the line of the edge, which is short.
use mathlib.Core.Path.{◌≡◌, ap}
use mathlib.Core.List.{[], ◌∷◌}
use Prim.Native.Nat.{ℕ}
use native.Mathlib.Omega.{arith}
use lib.ListN.{length}
use borrow.Author.Tests.{ne_eqb}
use Rattle.model.specs.Sheets.{line}
use Rattle.sheet.specs.Report.{line_unless_root}
use Rattle.sheet.proofs.Edges.{edge_short}
use Rattle.sheet.proofs.report.put_edge.Goals as goal

-- off the root the line is there
line_is : (v root up down : ℕ) → (v ≡ root → ⊥) → line (v ∷ up ∷ down ∷ []) ≡ line_unless_root root v up down
line_is v root up down h = rw (ne_eqb v root h)

pub put_line-requires : goal.put_line-requires
put_line-requires c =
    let a = c.args in
    let q = c.requires in
    omega (arith, ap length (line_is a.v a.root a.up a.down c.if-v-root.false), edge_short a.root a.v a.up a.down q.0 q.1 q.2, q.3)

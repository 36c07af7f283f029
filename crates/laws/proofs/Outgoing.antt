-- With room for one at each node, which pebbles move is told by the demands alone: a pebble moves exactly if some push leaves its node, and
-- the pushes of a list with none to spare leave a node over its own edge and its children's as often as their demands say.
use mathlib.Core.Path.{◌≡◌, refl, sym, ap, ◌∙◌}
use mathlib.Core.Logic.{◌≢◌, ◌↔◌, ◌⊎◌, inl, inr}
use mathlib.Core.Bool.{Bool, true, false, not, ◌&&◌}
use mathlib.Core.List.{List}
use Prim.Native.Nat.{ℕ, ◌+◌, ◌*◌, ◌≤◌, ◌<◌}
use native.Mathlib.Omega.{arith}
use native.Mathlib.Decide.{ℕ_discrete, dec_lt}
use lib.ListN.{length, get_or, set, length-set}
use lib.Seq.{get_or-set_other}
use lib.Dec.{eqb}
use borrow.Author.Tests.{eq-eqb, ne_eqb}
use Rattle.model.specs.Yard.{Yard, size, parent, capacity, is_child, one, root, lacking, surplus, shortest}
use Rattle.model.specs.Judge.{Tree}
use Rattle.model.specs.Push.{Move, run, accepted, Solved, is_up, is_down, count, ups, downs}
use Rattle.model.specs.Follow.{starts, occurs, Follows}
use Rattle.laws.proofs.Basics.{eqb_sym}
use Rattle.laws.proofs.Sums.{sum_cong, sum_add, sum_zero, sum_some}
use Rattle.laws.specs.Choice.{Child}
use Rattle.laws.proofs.Trees.{Wood, is_child_law, child_is}
use Rattle.laws.proofs.Judged.{facts, wood}
use Rattle.laws.proofs.Demands.{over_children, child_le, pick, solved_even, solved_iff}
use Rattle.laws.specs.Algorithms.{crossing}
use Rattle.laws.proofs.Step.{Step, ends, crosses}
use Rattle.laws.proofs.Runs.{Obeys, obeys, run_tree}
use Rattle.laws.proofs.Shortest.{thrifty_crosses}
use Rattle.laws.proofs.Follow.{at_only, Counts, starts_counts, start_lt, counts_moved}

-- a move leaves u over the edge of u, or over that of a child
pub leaves_step : (y : Yard) (m : Move) → Step y m → (u : ℕ) → one (eqb u m.from) ≡ one (is_up y u m) + over_children y.parents (λ c. one (is_down y c m)) u
leaves_step y m s u = rw ((crosses y m s u).1, sum_cong (size y) _ _ (λ c _. ap (λ (b : Bool). one (is_child y.parents u c) * one b) (crosses y m s c).0), s.is) (go s.away)
  where
    w : Wood y.parents (root y)
    w = wood y s.tree

    away : Dec (u ≡ parent y s.node) → one (eqb u (parent y s.node)) ≡ one (is_child y.parents u s.node)
    away (yes e) = ap one (eq-eqb u (parent y s.node) e ∙ sym (child_is y.parents u s.node (record {
      lt = s.node_lt;
      up = sym e;
      other = λ q. s.off_root (w.root_only s.node s.node_lt (sym e ∙ sym q));
    })))
    away (no n) = rw (ne_eqb u (parent y s.node) n, ne_eqb (parent y s.node) u (λ q. n (sym q)))

    go : (b : Bool) → one (eqb u (crossing y.parents b s.node).from) ≡ one ((not b) && (eqb u s.node)) + over_children y.parents (λ c. one (b && (eqb c s.node))) u
    go true = omega (
      arith,
      away (ℕ_discrete u (parent y s.node)),
      pick w u s.node s.node_lt,
      sum_cong (size y) (λ c. one (is_child y.parents u c) * one (eqb c s.node)) (λ c. one (is_child y.parents u c) * one (eqb s.node c)) (λ c _. rw (eqb_sym c s.node)),
    )
    go false = omega (arith, sum_zero (size y) (λ c. one (is_child y.parents u c) * 0) (λ c _. omega arith))

-- the moves that leave u
abbrev pub leaving : List Move → ℕ → ℕ
leaving ms u = count (λ m. eqb u m.from) ms

pub leaving_crossings : {y z : Yard} {ms : List Move} → Obeys y ms z → (u : ℕ) → leaving ms u ≡ count (is_up y u) ms + over_children y.parents (λ c. count (is_down y c) ms) u
unfolding count
leaving_crossings (Obeys.done {y}) u = omega (arith, sum_zero (size y) (λ c. one (is_child y.parents u c) * 0) (λ c _. omega arith))
leaving_crossings (Obeys.next {y} {m = m} {ms = ms} s o) u = omega (
  arith,
  leaves_step y m s u,
  leaving_crossings o u,
  sum_cong (size y) (λ c. one (is_child y.parents u c) * (one (is_down y c m) + count (is_down y c) ms)) (λ c. one (is_child y.parents u c) * one (is_down y c m) + one (is_child y.parents u c) * count (is_down y c) ms) (λ c _. omega arith),
  sum_add (size y) (λ c. one (is_child y.parents u c) * one (is_down y c m)) (λ c. one (is_child y.parents u c) * count (is_down y c) ms),
)

-- a pebble that takes part in a move leaves its node with one, and with room for one at each node it is the one that a move from there takes
pub part_leaves : {ps is qs : List ℕ} {ms : List Move} → Follows ps ms is qs → (i : ℕ) → 0 < occurs i is → 0 < leaving ms (get_or ps i 0)
unfolding occurs count
part_leaves Follows.done i h = absurd (omega arith)
part_leaves (Follows.next {ps = ps} {is = is} {m = m} {ms = ms} {i = j} a f) i h = go (ℕ_discrete i j) (part_leaves f i)
  where
    go : Dec (i ≡ j) → (0 < occurs i is → 0 < leaving ms (get_or (set ps j m.to) i 0)) → 0 < one (eqb (get_or ps i 0) m.from) + leaving ms (get_or ps i 0)
    go (yes e) ih = omega (arith, ap one (eq-eqb (get_or ps i 0) m.from (ap (λ (x : ℕ). get_or ps x 0) e ∙ a.1)))
    go (no n) ih = omega (arith, rw (get_or-set_other ps j i m.to 0 n) at (ih (omega (arith, ap one (ne_eqb i j n)))))

pub leaves_part : {y z : Yard} {ms : List Move} {ps is qs : List ℕ} → Obeys y ms z → ((v : ℕ) → v < size y → capacity y v ≤ 1) → Counts y ps → Follows ps ms is qs
    → (i : ℕ) → i < length ps → occurs i is ≡ 0 → leaving ms (get_or ps i 0) ≡ 0
unfolding occurs count
leaves_part Obeys.done c k Follows.done i l h = refl
leaves_part (Obeys.next {y} {m = m} {ms = ms} s o) c k (Follows.next {ps = ps} {is = is} {i = j} a f) i l h =
    omega (arith, ap one (ne_eqb (get_or ps i 0) m.from other), rw (get_or-set_other ps j i m.to 0 apart) at (leaves_part o c (counts_moved y m s ps j a k) f i (rw length-set l) (omega arith)))
  where
    apart : i ≢ j
    apart e = omega (arith, h, ap one (eq-eqb i j e))

    other : (get_or ps i 0) ≢ m.from
    other e = apart (at_only ps i j m.from (omega (arith, k m.from (ends y m s).0, (facts y s.tree).pebble_le m.from (ends y m s).0, c m.from (ends y m s).0)) (l, e) a)

-- the pushes that leave a node in a list with none to spare: what its subtree has too many, and what its children's lack
abbrev pub outgoing : Yard → ℕ → ℕ
outgoing y u = surplus y u + over_children y.parents (lacking y) u

-- there are such, exactly if its subtree has too many or that of a child lacks some
pub outgoing_some : (y : Yard) (u : ℕ) → (0 < outgoing y u) ↔ ((0 < surplus y u) ⊎ ((c : ℕ) × Child y.parents u c × (0 < lacking y c)))
outgoing_some y u = (λ h. to (dec_lt 0 (surplus y u)) h, from)
  where
    some : (c : ℕ) × (c < size y) × (0 < one (is_child y.parents u c) * lacking y c) → (c : ℕ) × Child y.parents u c × (0 < lacking y c)
    some r = go (is_child y.parents u r.0) refl r.2
      where
        go : (b : Bool) → is_child y.parents u r.0 ≡ b → 0 < one b * lacking y r.0 → (c : ℕ) × Child y.parents u c × (0 < lacking y c)
        go true e l = (r.0, is_child_law y.parents u r.0 r.1 e, omega arith)
        go false e l = absurd (omega arith)

    to : Dec (0 < surplus y u) → 0 < outgoing y u → (0 < surplus y u) ⊎ ((c : ℕ) × Child y.parents u c × (0 < lacking y c))
    to (yes l) h = inl l
    to (no n) h = inr (some (sum_some (size y) _ (omega arith)))

    from : (0 < surplus y u) ⊎ ((c : ℕ) × Child y.parents u c × (0 < lacking y c)) → 0 < outgoing y u
    from (inl l) = omega arith
    from (inr r) = omega (arith, child_le y.parents (lacking y) u r.0 r.1, r.2)

module _ (y : Yard) (t : Tree y) (ms : List Move) (h : Solved (run y ms)) (e : length (accepted y ms) ≡ shortest y) where
  leaving_outgoing : (u : ℕ) → u < size y → leaving (accepted y ms) u ≡ outgoing y u
  leaving_outgoing u l = omega (
    arith,
    leaving_crossings (obeys ms y t) u,
    parts u l,
    sum_cong (size y) (λ c. one (is_child y.parents u c) * lacking y c) (λ c. one (is_child y.parents u c) * downs y ms c) (λ c k. ap (λ (x : ℕ). one (is_child y.parents u c) * x) (parts c k).0),
  )
    where
      parts : (v : ℕ) → v < size y → (lacking y v ≡ downs y ms v) × (surplus y v ≡ ups y ms v)
      parts v k = omega (arith, thrifty_crosses y t ms (omega (arith, e, (solved_iff (run y ms) (run_tree (obeys ms y t) t)).0 h)) v k, solved_even (run y ms) h v)

  module _ (c : (v : ℕ) → v < size y → capacity y v ≤ 1) {is qs : List ℕ} (f : Follows (starts y) (accepted y ms) is qs) where
    -- with room for one at each node, a pebble takes part exactly if its subtree has too many pebbles, or that of a child lacks some
    pub part_outgoing : (i : ℕ) → i < length (starts y) → (0 < occurs i is) ↔ (0 < outgoing y (get_or (starts y) i 0))
    part_outgoing i l = (
      (λ p. omega (arith, part_leaves f i p, o)),
      λ p. go (ℕ_discrete (occurs i is) 0) p,
    )
      where
        o : leaving (accepted y ms) (get_or (starts y) i 0) ≡ outgoing y (get_or (starts y) i 0)
        o = leaving_outgoing (get_or (starts y) i 0) (start_lt y i l)

        go : Dec (occurs i is ≡ 0) → 0 < outgoing y (get_or (starts y) i 0) → 0 < occurs i is
        go (yes q) p = absurd (omega (arith, o, leaves_part (obeys ms y t) c (starts_counts y) f i l q))
        go (no n) p = omega arith

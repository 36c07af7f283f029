-- The last in leaves first: the computed way is one such, and follows every list of pushes.
use mathlib.Core.Path.{◌≡◌, refl, sym, ap, subst, ◌∙◌}
use mathlib.Core.Logic.{◌≢◌, ◌↔◌}
use mathlib.Core.Bool.{Bool, true, false, cond}
use mathlib.Core.List.{List, [], ◌∷◌, ◌++◌}
use Prim.Native.Nat.{ℕ, zero, suc, ◌+◌, ◌≤◌, ◌<◌}
use native.Mathlib.Omega.{arith}
use native.Mathlib.Decide.{ℕ_discrete}
use lib.ListN.{length, get_or, set, length-set}
use lib.Dec.{eqb}
use borrow.Author.Tests.{eq-eqb, ne_eqb}
use Rattle.model.specs.Yard.{Yard, size, capacity, one, below}
use Rattle.model.specs.Judge.{Tree}
use Rattle.model.specs.Push.{Move, accepted}
use Rattle.model.specs.Follow.{starts, occurs, At, Follows, came, LastFirst, first_at, last_in, lifo}
use Rattle.laws.proofs.Basics.{All, all_below}
use Rattle.laws.proofs.Step.{Step, ends}
use Rattle.laws.proofs.Runs.{Obeys, obeys}
use Rattle.laws.proofs.Follow.{occurs_append, occurs_at, Counts, starts_counts, counts_moved, follows_only}

-- a list of all pebbles below k
abbrev Lists : ℕ → List ℕ → Type 0
Lists k came = ((i : ℕ) → i < k → 0 < occurs i came) × All (λ i. i < k) came

-- came
came_here : (i : ℕ) (js : List ℕ) → came i (i ∷ js) ≡ suc (length js)
unfolding came
came_here i js = rw (eq-eqb i i refl)

came_behind : (i j : ℕ) (js : List ℕ) → i ≢ j → came i (j ∷ js) ≡ came i js
unfolding came
came_behind i j js n = rw (ne_eqb i j n)

came_le : (i : ℕ) (js : List ℕ) → came i js ≤ length js
unfolding came
came_le i [] = omega arith
came_le i (j ∷ js) = go (eqb i j) (came_le i js)
  where
    go : (b : Bool) → came i js ≤ length js → cond b (suc (length js)) (came i js) ≤ suc (length js)
    go true h = omega arith
    go false h = omega arith

came_mono : (i j : ℕ) (js : List ℕ) → came i js ≤ came i (j ∷ js)
came_mono i j js = go (ℕ_discrete i j)
  where
    go : Dec (i ≡ j) → came i js ≤ came i (j ∷ js)
    go (yes e) = rw (← e) (omega (arith, came_here i js, came_le i js))
    go (no n) = omega (arith, came_behind i j js n)

-- a pebble came at some time exactly if it was taken
pub came_taken : (i : ℕ) (js : List ℕ) → (came i js ≡ 0) ↔ (occurs i js ≡ 0)
unfolding came occurs
came_taken i [] = ((λ e. e), λ e. e)
came_taken i (j ∷ js) = go (eqb i j) (came_taken i js)
  where
    go : (b : Bool) → (came i js ≡ 0) ↔ (occurs i js ≡ 0) → (cond b (suc (length js)) (came i js) ≡ 0) ↔ (one b + occurs i js ≡ 0)
    go true h = ((λ e. absurd (omega arith)), λ e. absurd (omega arith))
    go false h = ((λ e. omega (arith, h.0 e)), λ e. h.1 (omega arith))

-- first_at
module _ (ps : List ℕ) (a : ℕ) where
  first_at_here : (i : ℕ) (is : List ℕ) → get_or ps i 0 ≡ a → first_at ps a (i ∷ is) ≡ i
  unfolding first_at
  first_at_here i is e = rw (eq-eqb (get_or ps i 0) a e)

  first_at_behind : (i : ℕ) (is : List ℕ) → (get_or ps i 0) ≢ a → first_at ps a (i ∷ is) ≡ first_at ps a is
  unfolding first_at
  first_at_behind i is n = rw (ne_eqb (get_or ps i 0) a n)

  first_at_at : (came : List ℕ) → All (λ i. i < length ps) came → (i : ℕ) → get_or ps i 0 ≡ a → 0 < occurs i came → At ps (first_at ps a came) a
  unfolding occurs
  first_at_at [] l i e h = absurd (omega arith)
  first_at_at (j ∷ js) l i e h = go (ℕ_discrete (get_or ps j 0) a) (first_at_at js l.1 i e)
    where
      go : Dec (get_or ps j 0 ≡ a) → (0 < occurs i js → At ps (first_at ps a js) a) → At ps (first_at ps a (j ∷ js)) a
      go (yes q) ih = rw (first_at_here j js q) (l.0, q)
      go (no n) ih = rw (first_at_behind j js n) (ih (omega (arith, ap one (ne_eqb i j (λ q. n (ap (λ (x : ℕ). get_or ps x 0) (sym q) ∙ e))))))

  -- none that stands there came later
  first_at_last : (taken order : List ℕ) (i : ℕ) → get_or ps i 0 ≡ a → came i taken ≤ came (first_at ps a (taken ++ order)) taken
  unfolding came
  first_at_last [] order i e = omega arith
  first_at_last (j ∷ js) order i e = go (ℕ_discrete (get_or ps j 0) a) (first_at_last js order i e)
    where
      go : Dec (get_or ps j 0 ≡ a) → came i js ≤ came (first_at ps a (js ++ order)) js → came i (j ∷ js) ≤ came (first_at ps a (j ∷ js ++ order)) (j ∷ js)
      go (yes q) ih = rw (first_at_here j (js ++ order) q, eq-eqb j j refl) (came_le i (j ∷ js))
      go (no n) ih = subst (λ (x : ℕ). came i (j ∷ js) ≤ came x (j ∷ js)) (sym (first_at_behind j (js ++ order) n)) (omega (arith, came_behind i j js (λ q. n (ap (λ (x : ℕ). get_or ps x 0) (sym q) ∙ e)), came_mono (first_at ps a (js ++ order)) j js, ih))

-- last_in
module _ (y : Yard) (m : Move) (s : Step y m) (ps came : List ℕ) (h : Counts y ps) (l : Lists (length ps) came) where
  first_at_law : At ps (first_at ps m.from came) m.from
  first_at_law =
      let r = occurs_at ps m.from (omega (arith, h m.from (ends y m s).0, s.holds)) in
      first_at_at ps m.from came l.1 r.0 r.1.1 (l.0 r.0 r.1.0)

  lists_next : Lists (length (set ps (first_at ps m.from came) m.to)) (first_at ps m.from came ∷ came)
  unfolding occurs
  lists_next =
      subst (λ (n : ℕ). Lists n (first_at ps m.from came ∷ came)) (sym (length-set ps (first_at ps m.from came) m.to))
      ((λ i k. omega (arith, l.0 i k)), (first_at_law.0, l.1))

pub last_in_last : (ms : List Move) (taken order ps : List ℕ) → LastFirst taken ps ms (last_in (taken ++ order) ps ms)
unfolding last_in
last_in_last [] taken order ps = LastFirst.done
last_in_last (m ∷ ms) taken order ps =
    let i = first_at ps m.from (taken ++ order) in
    LastFirst.next (λ j a. first_at_last ps m.from taken order j a.1) (last_in_last ms (i ∷ taken) order (set ps i m.to))

pub last_in_follows : {y z : Yard} {ms : List Move} → Obeys y ms z → (came ps : List ℕ) → Lists (length ps) came → Counts y ps → (qs : List ℕ) × Follows ps ms (last_in came ps ms) qs
unfolding last_in
last_in_follows Obeys.done came ps l h = (ps, Follows.done)
last_in_follows (Obeys.next {y} {m = m} s o) came ps l h =
    let a = first_at_law y m s ps came h l in
    let r = last_in_follows o (first_at ps m.from came ∷ came) (set ps (first_at ps m.from came) m.to) (lists_next y m s ps came h l) (counts_moved y m s ps _ a h) in
    (r.0, Follows.next a r.1)

occurs_below : (k i : ℕ) → i < k → 0 < occurs i (below k (λ _. true))
unfolding occurs below
occurs_below zero i l = absurd (omega arith)
occurs_below (suc k) i l = go (ℕ_discrete i k) (occurs_below k i)
  where
    go : Dec (i ≡ k) → (i < k → 0 < occurs i (below k (λ _. true))) → 0 < occurs i (below k (λ _. true) ++ (k ∷ []))
    go (yes e) ih = rw (occurs_append, eq-eqb i k e) (omega arith)
    go (no n) ih = rw occurs_append (omega (arith, ih (omega arith)))

lists_below : (k : ℕ) → Lists k (below k (λ _. true))
lists_below k = (occurs_below k, all_below (λ i. i < k) (λ _. true) k (λ i l _. l))

module _ (y : Yard) where
  pub lifo_last : (ms : List Move) → LastFirst [] (starts y) ms (lifo y ms)
  lifo_last ms = last_in_last ms [] (below (length (starts y)) (λ _. true)) (starts y)

  module _ (t : Tree y) (ms : List Move) where
    pub lifo_follows : (qs : List ℕ) × Follows (starts y) (accepted y ms) (lifo y (accepted y ms)) qs
    lifo_follows = last_in_follows (obeys ms y t) _ (starts y) (lists_below (length (starts y))) (starts_counts y)

    -- and with room for one at each node in this way only
    pub lifo_only : ((v : ℕ) → v < size y → capacity y v ≤ 1) → {is qs : List ℕ} → Follows (starts y) (accepted y ms) is qs → is ≡ lifo y (accepted y ms)
    lifo_only c f = (follows_only (obeys ms y t) c (starts_counts y) f lifo_follows.1).0

-- Minglings of the parts' plans (request 2.11). A move of a part reads and changes the marks of that part alone, so the moves of other parts
-- between two of its moves make no difference: each part goes through the yards of its own plan, and ends solved. The parts' shortest lengths
-- together are the yard's, as each demand is counted in the part of its node.
use mathlib.Core.Path.{◌≡◌, refl, sym, ap, ◌∙◌}
use mathlib.Core.Logic.{◌≢◌}
use mathlib.Core.Bool.{Bool, true, false, cond, ◌&&◌, and-eq-true_iff}
use mathlib.Core.List.{List, [], ◌∷◌}
use Prim.Native.Nat.{ℕ, ◌+◌, ◌*◌, ◌<◌}
use native.Mathlib.Omega.{arith}
use native.Mathlib.Decide.{ℕ_discrete}
use lib.ListN.{length}
use lib.Dec.{ltb, eqb}
use borrow.Author.Tests.{ltb-true, eqb-true, eq-eqb, ne_eqb}
use Rattle.model.specs.Yard.{Yard, yard_of, size, pebble, target, holding, one, sum, imbalance, shortest, Matched}
use Rattle.model.specs.Judge.{Tree}
use Rattle.model.specs.Push.{Move, shifted, moved, run, accepted, Solved}
use Rattle.model.specs.Plan.{plan}
use Rattle.model.specs.Parts.{topmost, in_part, masked, part_yard}
use Rattle.model.specs.Calls.Answers.{answered}
use Rattle.model.specs.Calls.Plans.{bytes}
use Rattle.model.specs.Calls.Checks.{check_answer}
use Rattle.laws.specs.Demand3.{Optimal}
use Rattle.laws.specs.Parts.{Top, lies_in, lies_in_one, kept, Mingling}
use Rattle.laws.proofs.Basics.{All, all_map}
use Rattle.laws.proofs.Sums.{sum_cong, sum_add, sum_zero, sum_pick, sum_swap}
use Rattle.laws.proofs.Step.{Step, ends, moved_tree}
use Rattle.laws.proofs.Runs.{Obeys, done, next}
use Rattle.laws.proofs.Moves.{obeys_accepted, accepted_obeys}
use Rattle.laws.proofs.Demand3.{plan_optimal, plan_length, optimal}
use Rattle.laws.proofs.Demand2.{check_shortest}
use Rattle.laws.proofs.Struck.{Struck, masked_struck, struck_step, struck_moved}
use Rattle.laws.proofs.Kept.{kept_none, kept_passes}
use Rattle.laws.proofs.Parts.{topmost_top, part_tree, part_matched, part_imbalance}

-- a move lies in a part
abbrev pub Lies : Yard → Move → Type 0
Lies y m = (s : ℕ) × Top y s × (lies_in (in_part y s) m ≡ true)

-- its two nodes are in that part, and so in the same part
lies_both : (y : Yard) (s : ℕ) (m : Move) → lies_in (in_part y s) m ≡ true → (in_part y s m.from ≡ true) × (in_part y s m.to ≡ true)
lies_both y s m e = (and-eq-true_iff (in_part y s m.from) (in_part y s m.to)).0 e

pub lies_same : (y : Yard) (s : ℕ) (m : Move) → lies_in (in_part y s) m ≡ true → (topmost y m.from ≡ s) × (topmost y m.to ≡ s)
lies_same y s m e = let b = lies_both y s m e in (eqb-true (topmost y m.from) s b.0, eqb-true (topmost y m.to) s b.1)

obeys_none : {x w : Yard} → Obeys x [] w → w ≡ x
obeys_none done = refl

obeys_first : {x w : Yard} {m : Move} {ms : List Move} → Obeys x (m ∷ ms) w → Step x m × Obeys (moved x m) ms w
obeys_first (next s o) = (s, o)

pub obeys_in : {x w : Yard} {ms : List Move} → Obeys x ms w → All (λ m. m.from < size x) ms
obeys_in done = tt
obeys_in (next {y = x} {m = m} s o) = ((ends x m s).0, obeys_in o)

-- moves each of which lies in a part, where those of each part are obeyed in a yard with the marks of that part alone
mingle : (y : Yard) (ms : List Move) (x : Yard) → Tree x → All (Lies y) ms → (qs ts : ℕ → List ℕ) (e : ℕ → Yard)
    → ((s : ℕ) → Top y s → Struck (in_part y s) x (qs s) (ts s))
    → ((s : ℕ) → Top y s → Obeys (yard_of x.parents (qs s) (ts s) x.depths) (kept (lies_in (in_part y s)) ms) (e s))
    → (rs : List ℕ) × Obeys x ms (holding x rs) × ((s : ℕ) → Top y s → Struck (in_part y s) (holding x rs) (e s).pebbles (ts s))
unfolding kept
mingle y [] x t a qs ts e k o = (x.pebbles, done, λ s h. rw (obeys_none (o s h)) (k s h))
mingle y (m ∷ ms) x t a qs ts e k o =
    let s : ℕ = a.0.0 in
    let both = lies_both y s m a.0.2 in
    let same = lies_same y s m a.0.2 in
    let f = obeys_first (rw a.0.2 at (o s a.0.1)) in
    let step : Step x m = struck_step t (k s a.0.1) m f.0 both.0 both.1 in
    let r = mingle y ms (moved x m) (moved_tree x m step) a.1 (λ s. cond (in_part y s m.from) (shifted (qs s) m) (qs s)) ts e
    (λ s h. struck_moved t (k s h) m step (ap (λ (u : ℕ). eqb u s) (same.0 ∙ sym same.1)))
    (λ s h. rest s (in_part y s m.from) refl (same.0 ∙ sym same.1) (o s h)) in
    (r.0, next {z = holding x r.0} step r.1, r.2)
  where
    rest : (s : ℕ) (b : Bool) → in_part y s m.from ≡ b → topmost y m.from ≡ topmost y m.to
        → Obeys (yard_of x.parents (qs s) (ts s) x.depths) (cond (lies_in (in_part y s) m) (m ∷ kept (lies_in (in_part y s)) ms) (kept (lies_in (in_part y s)) ms)) (e s)
        → Obeys (yard_of x.parents (cond b (shifted (qs s) m) (qs s)) (ts s) x.depths) (kept (lies_in (in_part y s)) ms) (e s)
    rest s true c d h = (obeys_first (rw (← d, c) at h)).1
    rest s false c d h = rw c at h

-- lengths
lengths : (y : Yard) (ms : List Move) → All (Lies y) ms → sum (size y) (λ s. length (kept (lies_in (in_part y s)) ms)) ≡ length ms
unfolding kept
lengths y [] a = sum_zero (size y) _ (λ s _. refl)
lengths y (m ∷ ms) a =
    let f = lies_same y a.0.0 m a.0.2 in
    sum_cong (size y) _ (λ s. one (eqb s a.0.0) * 1 + length (kept (lies_in (in_part y s)) ms)) (λ s _. rw (f.0, f.1) (go s (ℕ_discrete a.0.0 s)))
    ∙ sum_add (size y) _ _
    ∙ omega (arith, sum_pick (size y) a.0.0 (λ _. 1) a.0.1.lt, lengths y ms a.1)
  where
    go : (s : ℕ) → Dec (a.0.0 ≡ s)
        → length (cond (eqb a.0.0 s && eqb a.0.0 s) (m ∷ kept (lies_in (in_part y s)) ms) (kept (lies_in (in_part y s)) ms)) ≡ one (eqb s a.0.0) * 1 + length (kept (lies_in (in_part y s)) ms)
    go s (yes q) = rw (eq-eqb a.0.0 s q, eq-eqb s a.0.0 (sym q)) (omega arith)
    go s (no q) = rw (ne_eqb a.0.0 s q, ne_eqb s a.0.0 (λ r. q (sym r))) (omega arith)

module _ (y : Yard) (t : Tree y) (m : Matched y) where
  -- each demand is counted in the part of its node
  pub shortest_parts : sum (size y) (λ s. shortest (part_yard y s)) ≡ shortest y
  unfolding shortest
  shortest_parts =
      sum_cong (size y) _ (λ s. sum (size y) (λ v. one (eqb s (topmost y v)) * imbalance y v)) (λ s _. sum_cong (size y) _ _ (λ v l. part_imbalance y t m s v l ∙ go v s (ℕ_discrete (topmost y v) s)))
      ∙ sum_swap (size y) (size y) (λ s v. one (eqb s (topmost y v)) * imbalance y v)
      ∙ sum_cong (size y) _ _ (λ v l. sum_pick (size y) (topmost y v) (λ _. imbalance y v) (topmost_top y t m v l).lt)
    where
      go : (v s : ℕ) → Dec (topmost y v ≡ s) → cond (in_part y s v) (imbalance y v) 0 ≡ one (eqb s (topmost y v)) * imbalance y v
      go v s (yes q) = rw (eq-eqb (topmost y v) s q, eq-eqb s (topmost y v) (sym q)) (omega arith)
      go v s (no q) = rw (ne_eqb (topmost y v) s q, ne_eqb s (topmost y v) (λ r. q (sym r))) (omega arith)

  -- a move that lies in a part
  lies_one : (n : Move) → lies_in_one y n ≡ true → Lies y n
  lies_one n e =
      let b = (and-eq-true_iff (ltb n.from (size y)) (eqb (topmost y n.from) (topmost y n.to))).0 e in
      (topmost y n.from, topmost_top y t m n.from (ltb-true n.from (size y) b.0), rw (eqb-true (topmost y n.from) (topmost y n.to) b.1, eq-eqb (topmost y n.to) (topmost y n.to) refl))

  module _ (ms : List Move) (g : Mingling y ms) where
    lies : All (Lies y) ms
    lies = all_map (λ n. lies_in_one y n ≡ true) (Lies y) ms lies_one (kept_passes (lies_in_one y) ms g.lie)

    part_length : (s : ℕ) → s < size y → length (kept (lies_in (in_part y s)) ms) ≡ shortest (part_yard y s)
    unfolding shortest
    part_length s l = go (ℕ_discrete (topmost y s) s)
      where
        apart : (v : ℕ) → v < size y → topmost y s ≢ s → in_part y s v ≡ false
        apart v l d = ne_eqb (topmost y v) s (λ e. d (ap (topmost y) (sym e) ∙ (topmost_top y t m v l).own ∙ e))

        none : topmost y s ≢ s → (ns : List Move) → All (Lies y) ns → All (λ n. lies_in (in_part y s) n ≡ false) ns
        none d [] a = tt
        none d (n ∷ ns) a =
            let e = lies_same y a.0.0 n a.0.2 in
            (rw (e.0, ne_eqb a.0.0 s (λ q. d (ap (topmost y) (sym q) ∙ a.0.1.own ∙ q))), none d ns a.1)

        go : Dec (topmost y s ≡ s) → length (kept (lies_in (in_part y s)) ms) ≡ shortest (part_yard y s)
        go (yes e) = ap length (g.parts s (record { lt = l; own = e })) ∙ plan_length (part_yard y s) (part_tree y t m s) (part_matched y t m s)
        go (no d) = ap length (kept_none (lies_in (in_part y s)) ms (none d ms lies)) ∙ sym (sum_zero (size y) _ (λ v k. part_imbalance y t m s v k ∙ rw (apart v k d)))

    pub mingled_length : length ms ≡ shortest y
    mingled_length = sym (lengths y ms lies) ∙ sum_cong (size y) _ _ part_length ∙ shortest_parts

    obeyed : (rs : List ℕ) × Obeys y ms (holding y rs) × ((s : ℕ) → Top y s → Struck (in_part y s) (holding y rs) (run (part_yard y s) (plan (part_yard y s))).pebbles (masked (in_part y s) y.targets))
    obeyed = mingle y ms y t lies (λ s. masked (in_part y s) y.pebbles) (λ s. masked (in_part y s) y.targets) (λ s. run (part_yard y s) (plan (part_yard y s)))
        (λ s h. masked_struck (in_part y s) y t)
        (λ s h. rw (g.parts s h) (accepted_obeys (part_yard y s) (part_tree y t m s) (plan (part_yard y s)) (plan_optimal (part_yard y s) (part_tree y t m s) (part_matched y t m s)).obeyed))

    pub mingled_accepted : accepted y ms ≡ ms
    mingled_accepted = (obeys_accepted obeyed.1).0

    pub mingled_solves : Solved (run y ms)
    mingled_solves v l = rw (obeys_accepted obeyed.1).1 (go (topmost y v) (topmost_top y t m v l) (eq-eqb (topmost y v) (topmost y v) refl))
      where
        go : (s : ℕ) → Top y s → in_part y s v ≡ true → pebble (holding y obeyed.0) v ≡ target y v
        go s h e =
            sym (rw e at ((obeyed.2 s h).pebbles v l))
            ∙ (plan_optimal (part_yard y s) (part_tree y t m s) (part_matched y t m s)).solves v l
            ∙ rw e at ((masked_struck (in_part y s) y t).targets v l)

    -- so no move is spare, and the checker accepts them with no excess
    pub mingled_optimal : Optimal y ms
    mingled_optimal = optimal y t ms mingled_accepted mingled_solves mingled_length

    pub mingled_checked : check_answer y (bytes ms) ≡ answered (record { moves = length (plan y); excess = 0 })
    mingled_checked = check_shortest y t m ms mingled_accepted mingled_solves mingled_length ∙ ap (λ (n : ℕ). answered (record { moves = n; excess = 0 })) (mingled_length ∙ sym (plan_length y t m))

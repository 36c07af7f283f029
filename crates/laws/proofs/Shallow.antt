-- Request 2.10, 'All depths 1 must print the sheets of before'. Two sides of turns that agree wherever a turn is taken make the same plan. In a
-- yard whose depths are all 1 the side of before (`held`: fill if u holds a pebble, else draw) agrees with the new one (`fills`): an even node with
-- a child that is not even, if it holds a pebble, holds no fewer than its targets, so some child lacks one.
use mathlib.Core.Path.{◌≡◌, refl, ◌∙◌, subst}
use mathlib.Core.Bool.{Bool, true, false, ◌&&◌}
use mathlib.Core.List.{List, [], ◌∷◌, ◌++◌}
use Prim.Native.Nat.{ℕ, ◌<◌}
use native.Mathlib.Omega.{arith}
use borrow.Author.Tests.{ltb-true}
use Rattle.model.specs.Yard.{Yard, size, pebble, Shallow, held, holding, lacking, surplus, imbalance, Matched}
use Rattle.model.specs.Judge.{Tree}
use Rattle.model.specs.Push.{Move}
use Rattle.model.specs.Plan.{needy, nonempty, Rule, choice, Side, fills, plan_by, plan}
use Rattle.model.specs.Calls.Answers.{answered}
use Rattle.model.specs.Sheets.{read_yard, move_sheet, program}
use Rattle.laws.proofs.Basics.{All}
use Rattle.laws.specs.Choice.{Child}
use Rattle.laws.proofs.Judged.{facts}
use Rattle.laws.proofs.Demands.{child_le, parts_children}
use Rattle.laws.specs.Algorithms.{need, Serves, Settles, settled, turned, Balances, none, next}
use Rattle.laws.proofs.Shortest.{good_append, good_tree, keeps}
use Rattle.laws.proofs.Choice.{Sound, none_over, choice_sound}
use Rattle.laws.proofs.Balance.{Even, first_needy, Fit, fit_children, fit_run, Open, Steers, fills_steers, turned_shift, settles_good, balances_good, root_fit, plan_by_balances, plan_by_only}
use Rattle.laws.proofs.Demand3.{plan_fits_shallow}
use Rattle.laws.proofs.Sheets.{program_cut}

-- two sides agree in a yard, whatever its pebbles, at the even nodes with a child that is not
abbrev pub Agree : Side → Side → Yard → Type 0
Agree side other y = (ps : List ℕ) → Tree (holding y ps) → (u : ℕ) → u < size y → Even (holding y ps) u → (c : ℕ) → Child y.parents u c → 0 < imbalance (holding y ps) c
    → side (holding y ps) u ≡ other (holding y ps) u

module _ (side other : Side) (rule : Rule) (sound : Sound rule) where
  settles_agree : {y : Yard} {u : ℕ} {ms : List Move} → Settles side rule y u ms → Tree y → Steers side y → Agree side other y → u < size y → Even y u → Settles other rule y u ms
  settles_agree (settled q) t st a l e = settled q
  settles_agree {y} {u} (turned {c = c} {cs = cs} {ms = ms} q v r) t st a l e =
      let n = first_needy y u c cs q in
      let g = (turned_shift side rule sound t st l e q v).0 in
      turned q (subst (λ (b : Bool). Serves rule y b (rule (need y b) y u) ms) (a y.pebbles t u l e c n.0 n.1) v)
      (settles_agree r (good_tree y t ms g) st a l (omega (arith, keeps y t ms g u l)))

  balances_agree : {y : Yard} {us : List ℕ} {ms : List Move} → Balances side rule y us ms → Tree y → Steers side y → Agree side other y → All (Fit y) us → Balances other rule y us ms
  balances_agree none t st a f = none
  balances_agree {y} (next {u = u} {us = us} {ms = ms} {ns = ns} s b r) t st a f =
      let h = settles_good side rule sound s t st f.0.0 f.0.1 in
      let z = good_tree y t ms h.good in
      let g = good_append y ms ns h.good (balances_good side rule sound b z st (fit_children y u ms h)).0 in
      next (settles_agree s t st a f.0.0 f.0.1) (balances_agree b z st a (fit_children y u ms h))
      (balances_agree r (good_tree y t (ms ++ ns) g) st a (fit_run y t (ms ++ ns) g us f.1))

  pub plan_by_agree : (y : Yard) → Tree y → Matched y → Steers side y → Agree side other y → plan_by side rule y ≡ plan_by other rule y
  plan_by_agree y t m st a =
      plan_by_only other rule sound y t (λ ps z u l e c k n. subst (Open (holding y ps) u) (a ps z u l e c k n) (st ps z u l e c k n)) m (plan_by side rule y)
      (balances_agree (plan_by_balances side rule sound y t st m) t st a (root_fit y t m))

shallow_agree : (y : Yard) → Shallow y → Agree fills held y
unfolding fills
shallow_agree o d ps t u l e c k n = go (held y u) refl (needy (lacking y) y u) refl
  where
    y : Yard
    y = holding o ps

    go : (h : Bool) → held y u ≡ h → (vs : List ℕ) → needy (lacking y) y u ≡ vs → (h && (nonempty vs)) ≡ h
    go false h vs q = refl
    go true h (v ∷ vs) q = refl
    go true h [] q =
        absurd (omega (arith, none_over (lacking y) y u q, child_le y.parents (lacking y) u c k, child_le y.parents (surplus y) u c k, parts_children y t u l, (facts y t).target_le u l, d u l, ltb-true 0 (pebble y u) h))

-- the plan of before, under any sound rule of choice
pub plan_by_shallow : (rule : Rule) → Sound rule → (y : Yard) → Tree y → Matched y → Shallow y → plan_by fills rule y ≡ plan_by held rule y
plan_by_shallow rule sound y t m d = plan_by_agree fills held rule sound y t m (fills_steers y) (shallow_agree y d)

module _ (y : Yard) (t : Tree y) (m : Matched y) (d : Shallow y) where
  pub plan_shallow : plan y ≡ plan_by held choice y
  unfolding plan
  plan_shallow = plan_by_shallow choice choice_sound y t m d

  -- the sheets of before
  pub program_shallow : (input : List ℕ) → read_yard input ≡ answered y → program input ≡ move_sheet y (plan_by held choice y)
  program_shallow input e = program_cut input ∙ rw (e, plan_fits_shallow y t m d, plan_shallow)

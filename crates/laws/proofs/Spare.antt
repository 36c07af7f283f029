-- Where the spare of an accepted plan lies. A list of pushes that solves the yard crosses each edge one way as often as its demand asks, and each
-- crossing more is undone by one the other way. So the excess is even (request 2.13).
use mathlib.Core.Path.{◌≡◌, ◌∙◌}
use mathlib.Core.Logic.{◌↔◌, ◌⊎◌, inl, inr}
use mathlib.Core.List.{List}
use Prim.Native.Nat.{ℕ, ◌+◌, ◌*◌, ◌%◌, ◌<◌, min}
use native.Mathlib.Nat.{mul-mod_right}
use native.Mathlib.Omega.{arith}
use native.Mathlib.Decide.{dec_lt}
use lib.ListN.{length}
use Rattle.model.specs.Yard.{Yard, size, sum, lacking, surplus, imbalance, shortest, Matched}
use Rattle.model.specs.Judge.{Tree}
use Rattle.model.specs.Push.{Move, run, accepted, Solved, ups, downs}
use Rattle.model.specs.Calls.Answers.{answered}
use Rattle.model.specs.Calls.Plans.{moves_of}
use Rattle.model.specs.Calls.Checks.{Verdict, check_tests, check_fault, check_answer}
use Rattle.laws.specs.Spare.{returns, SpareFound}
use Rattle.laws.proofs.Basics.{none_all}
use Rattle.laws.proofs.Sums.{sum_cong, sum_add, sum_scale, sum_term, sum_zero}
use Rattle.laws.proofs.Demands.{solved_even}
use Rattle.laws.proofs.Runs.{obeys, pebbles_in_run, root_run, crossings_length}
use Rattle.laws.proofs.Calls.{answer_answered, totals_none}
use Rattle.laws.proofs.Demand2.{check_fault_none, check_excess}

-- any list of pushes that solves the yard, refused ones included
module _ (y : Yard) (t : Tree y) (ms : List Move) (h : Solved (run y ms)) where
  pub solved_ways : (v : ℕ) → (ups y ms v ≡ surplus y v + returns y ms v) × (downs y ms v ≡ lacking y v + returns y ms v)
  solved_ways v = omega (arith, pebbles_in_run (obeys ms y t) v, solved_even (run y ms) h v)

  pub solved_length : length (accepted y ms) ≡ shortest y + 2 * sum (size y) (returns y ms)
  unfolding shortest
  solved_length = omega (
    arith,
    crossings_length (obeys ms y t),
    sum_cong (size y) (λ v. ups y ms v + downs y ms v) (λ v. imbalance y v + 2 * returns y ms v) (λ v _. omega (arith, solved_ways v)),
    sum_add (size y) (imbalance y) (λ v. 2 * returns y ms v),
    sum_scale (size y) 2 (returns y ms),
  )

-- crossed one way only: no returns
one_way : (a b : ℕ) → (min a b ≡ 0) ↔ ((a ≡ 0) ⊎ (b ≡ 0))
one_way a b = ((λ e. go (dec_lt 0 a) e), back)
  where
    go : Dec (0 < a) → min a b ≡ 0 → (a ≡ 0) ⊎ (b ≡ 0)
    go (yes l) e = inr (omega arith)
    go (no l) e = inl (omega arith)

    back : (a ≡ 0) ⊎ (b ≡ 0) → min a b ≡ 0
    back (inl e) = omega arith
    back (inr e) = omega arith

-- what the checker accepts
pub check_solves : (y : Yard) (bs : List ℕ) (r : Verdict) → check_answer y bs ≡ answered r → Tree y × Matched y × (accepted y (moves_of bs) ≡ moves_of bs) × Solved (run y (moves_of bs))
unfolding check_fault
check_solves y bs r e =
    let a = (answer_answered (check_fault y bs) _ r e).0 in
    let p = none_all (check_tests y bs) a in
    let m = (totals_none y).0 p.1.0 in
    let h = (check_fault_none y p.0 m bs).0 a in
    (p.0, m, h.1, h.2)

pub spare_found : (y : Yard) (bs : List ℕ) (r : Verdict) → check_answer y bs ≡ answered r → SpareFound y bs r
spare_found y bs r e =
    let s = check_solves y bs r e in
    let ways = solved_ways y s.0 (moves_of bs) s.3 in
    let x = check_excess y s.0 s.1 bs r e in
    let long : r.moves ≡ shortest y + 2 * sum (size y) (returns y (moves_of bs)) = x.0 ∙ rw s.2 at (solved_length y s.0 (moves_of bs) s.3) in
    record {
      towards = λ v _. (ways v).0;
      away = λ v _. (ways v).1;
      crossed = λ v _. omega (arith, ways v);
      both_ways = λ v _. omega (arith, ways v);
      root_none = omega (arith, root_run (obeys (moves_of bs) y s.0));
      moves = long;
      excess = omega (arith, long, x.1);
      none_spare = (
        (λ e v l. (one_way _ _).0 (omega (arith, long, x.1, sum_term (size y) v (returns y (moves_of bs)) l))),
        λ h. omega (arith, long, x.1, sum_zero (size y) (returns y (moves_of bs)) (λ v l. (one_way _ _).1 (h v l))),
      );
    }

-- so it is even
pub excess_even : (y : Yard) (bs : List ℕ) (r : Verdict) → check_answer y bs ≡ answered r → r.excess % 2 ≡ 0
excess_even y bs r e = rw (spare_found y bs r e).excess (mul-mod_right 2 (sum (size y) (returns y (moves_of bs))))

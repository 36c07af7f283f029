-- `test_matched` is refused as the lists are. Of a tree the lists have one length, so their totals are those that refusal 7 compares.
use native.Mathlib.Omega.{arith}
use Prim.Native.Nat.{ℕ}
use mathlib.Core.Path.{◌≡◌, sym, ap, ◌∙◌}
use lib.ListN.{length}
use Rattle.model.specs.Yard.{Yard, pebble, target, sum, pebbleCount, targetCount}
use Rattle.model.specs.Given.{listed}
use Rattle.model.specs.Judge.{Tree}
use Rattle.laws.proofs.Judged.{facts}
use Rattle.laws.proofs.Calls.{matched_refused, matched_totals, matched_none}
use Rattle.laws.proofs.Refused.{passed_on}
use Rattle.judge.proofs.totals.test_matched.Goals as goal

-- the two totals
pebbles : (y : Yard) → Tree y → {n : ℕ} → n ≡ sum (length y.pebbles) (pebble y) → n ≡ pebbleCount y
pebbles y t e = e ∙ ap (λ (k : ℕ). sum k (pebble y)) (facts y t).pebbles_size

targets : (y : Yard) → Tree y → {n : ℕ} → n ≡ sum (length y.targets) (target y) → n ≡ targetCount y
targets y t e = e ∙ ap (λ (k : ℕ). sum k (target y)) (facts y t).targets_size

pub returns-in_err-tree-clause-result_value : goal.returns-in_err-tree-clause-result_value
returns-in_err-tree-clause-result_value c =
    let f = sym (matched_refused _ (sym c.in_err-tree.ensures.result_value)) in
    passed_on _ c.in_err-tree.field-0.0 c.from_residual.ensures.1 f

pub total-pebble_count-requires : goal.total-pebble_count-requires
total-pebble_count-requires c =
    let f = facts _ (sym c.in_ok-tree.ensures.result_value) in omega (arith, f.few, f.pebbles_size)

pub total-target_count-requires : goal.total-target_count-requires
total-target_count-requires c =
    let f = facts _ (sym c.in_ok-tree.ensures.result_value) in omega (arith, f.few, f.targets_size)

pub returns-then-pebble_count-target_count-clause-result_value : goal.returns-then-pebble_count-target_count-clause-result_value
returns-then-pebble_count-target_count-clause-result_value c =
    let t : Tree (listed c.args.yard.now) = sym c.in_ok-tree.ensures.result_value in
    let p = pebbles (listed c.args.yard.now) t c.total-pebble_count.ensures in
    let q = targets (listed c.args.yard.now) t c.total-target_count.ensures in
    sym (matched_totals _ t (λ m. omega (arith, p, q)))

pub returns-clause-result_value : goal.returns-clause-result_value
returns-clause-result_value c =
    let t : Tree (listed c.args.yard.now) = sym c.in_ok-tree.ensures.result_value in
    let p = pebbles (listed c.args.yard.now) t c.total-pebble_count.ensures in
    let q = targets (listed c.args.yard.now) t c.total-target_count.ensures in
    sym (matched_none _ t (omega (arith, p, q)))

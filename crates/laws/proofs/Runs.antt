-- Lists of pushes from a tree yard. The accepted pushes of any list are legal one after another, so what holds of each legal push adds up.
use mathlib.Core.Path.{◌≡◌, refl, ap, ◌∙◌}
use mathlib.Core.Bool.{Bool, true, false, cond}
use mathlib.Core.List.{List, [], ◌∷◌, ◌++◌}
use Prim.Native.Nat.{ℕ, ◌+◌}
use native.Mathlib.Omega.{arith}
use lib.ListN.{length}
use Rattle.model.specs.Yard.{Yard, size, pebble, holding, one, sum, root, pebbles_in, pebbleCount}
use Rattle.model.specs.Judge.{Tree}
use Rattle.model.specs.Push.{Move, legal, shifted, moved, pushed, after, run, accepted, is_up, is_down, count}
use Rattle.laws.proofs.Sums.{sum_cong, sum_add, sum_zero}
use Rattle.laws.proofs.Judged.{wood}
use Rattle.laws.proofs.Demands.{root_subtotal}
use Rattle.laws.proofs.Step.{Step, step, moved_tree, pebbles_in_moved, one_edge, root_uncrossed}

-- a list of legal pushes from y to z
pub data Obeys : Yard → List Move → Yard → Type 0 where
  done : {y : Yard} → Obeys y [] y
  next : {y z : Yard} {m : Move} {ms : List Move} → Step y m → Obeys (moved y m) ms z → Obeys y (m ∷ ms) z

pub obeys : (ms : List Move) (y : Yard) → Tree y → Obeys y (accepted y ms) (run y ms)
unfolding accepted after
obeys [] y t = done
obeys (m ∷ ms) y t = go (legal y m) refl (obeys ms)
  where
    then : Bool → Yard
    then b = holding y (cond b (shifted y.pebbles m) y.pebbles)

    go : (b : Bool) → legal y m ≡ b → ((z : Yard) → Tree z → Obeys z (accepted z ms) (run z ms)) → Obeys y (cond b (m ∷ accepted (then b) ms) (accepted (then b) ms)) (run (then b) ms)
    go true e ih = next (step y m e) (ih (moved y m) (moved_tree y m (step y m e)))
    go false e ih = ih y t

pub run_tree : {y z : Yard} {ms : List Move} → Obeys y ms z → Tree y → Tree z
run_tree done t = t
run_tree (next {y} {m = m} s o) t = run_tree o (moved_tree y m s)

-- the pebbles beyond each edge
pub pebbles_in_run : {y z : Yard} {ms : List Move} → Obeys y ms z → (v : ℕ) → pebbles_in z v + count (is_up y v) ms ≡ pebbles_in y v + count (is_down y v) ms
unfolding count
pebbles_in_run done v = refl
pebbles_in_run (next {y} {m = m} s o) v = omega (arith, pebbles_in_moved y m s v, pebbles_in_run o v)

pub root_run : {y z : Yard} {ms : List Move} → Obeys y ms z → (count (is_up y (root y)) ms ≡ 0) × (count (is_down y (root y)) ms ≡ 0)
unfolding count
root_run done = (refl, refl)
root_run (next {y} {m = m} s o) = omega (arith, root_run o, ap one (root_uncrossed y m s).0, ap one (root_uncrossed y m s).1)

-- pushes bring no pebble in or out
pub pebble_count_run : (y : Yard) → Tree y → (ms : List Move) → pebbleCount (run y ms) ≡ pebbleCount y
pebble_count_run y t ms =
    let o = obeys ms y t in
    omega (arith, pebbles_in_run o (root y), root_run o, root_subtotal (wood y t) (pebble y), root_subtotal (wood y t) (pebble (run y ms)))

-- each push crosses one edge
pub crossings_length : {y z : Yard} {ms : List Move} → Obeys y ms z → sum (size y) (λ v. count (is_up y v) ms + count (is_down y v) ms) ≡ length ms
unfolding count
crossings_length (done {y}) = sum_zero (size y) _ (λ v _. refl)
crossings_length (next {y} {m = m} {ms = ms} s o) =
    sum_cong (size y) _ (λ v. (one (is_up y v m) + one (is_down y v m)) + (count (is_up y v) ms + count (is_down y v) ms)) (λ v _. omega arith)
    ∙ sum_add (size y) _ _ ∙ omega (arith, one_edge y m s, crossings_length o)

-- two lists, one after the other
pub after_append : (ms ns : List Move) (y : Yard) → after y (ms ++ ns) ≡ after (run y ms) ns
unfolding after
after_append [] ns y = refl
after_append (m ∷ ms) ns y = after_append ms ns (pushed y m)

pub accepted_append : (ms ns : List Move) (y : Yard) → accepted y (ms ++ ns) ≡ accepted y ms ++ accepted (run y ms) ns
unfolding after accepted
accepted_append [] ns y = refl
accepted_append (m ∷ ms) ns y = go (legal y m) (accepted_append ms ns (pushed y m))
  where
    go : (b : Bool) → accepted (pushed y m) (ms ++ ns) ≡ accepted (pushed y m) ms ++ accepted (run (pushed y m) ms) ns
        → cond b (m ∷ accepted (pushed y m) (ms ++ ns)) (accepted (pushed y m) (ms ++ ns)) ≡ cond b (m ∷ accepted (pushed y m) ms) (accepted (pushed y m) ms) ++ accepted (run (pushed y m) ms) ns
    go true e = ap {B = List Move} (λ (l : List Move). m ∷ l) e
    go false e = e

-- a list of one legal push
pub run_one : (y : Yard) (m : Move) → legal y m ≡ true → (after y (m ∷ []) ≡ shifted y.pebbles m) × (accepted y (m ∷ []) ≡ m ∷ [])
unfolding after accepted
run_one y m e = (rw e, rw e)

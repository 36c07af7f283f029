-- The recursion equations of the plan. The proofs about it go by these.
use mathlib.Core.Path.{◌≡◌, refl}
use mathlib.Core.Bool.{true, false}
use mathlib.Core.List.{List, [], ◌∷◌, ◌++◌}
use Prim.Native.Nat.{ℕ, suc}
use Rattle.model.specs.Yard.{Yard, parent, full, held, children, lacking, surplus, imbalance}
use Rattle.model.specs.Push.{Move, push, run}
use Rattle.model.specs.Plan.{needy, Rule, Side, inject, clear, extract, turn, settle, each, balance}

module _ (rule : Rule) (k : ℕ) (y : Yard) (v : ℕ) where
  pub inject_full : full y v ≡ true → inject rule (suc k) y v ≡ clear rule k y v ++ (push (parent y v) v ∷ [])
  unfolding inject
  inject_full e = rw (e, inject)

  pub inject_free : full y v ≡ false → inject rule (suc k) y v ≡ push (parent y v) v ∷ []
  unfolding inject
  inject_free e = rw (e, inject)

  pub clear_child : clear rule (suc k) y v ≡ inject rule k y (rule (lacking y) y v)
  unfolding inject
  clear_child = refl

  pub extract_held : held y v ≡ true → extract rule (suc k) y v ≡ push v (parent y v) ∷ []
  unfolding extract
  extract_held e = rw (e, extract)

  pub extract_empty : held y v ≡ false → extract rule (suc k) y v ≡ extract rule k y (rule (surplus y) y v) ++ (push v (parent y v) ∷ [])
  unfolding extract
  extract_empty e = rw (e, extract)

module _ (side : Side) (rule : Rule) (k : ℕ) (y : Yard) (v : ℕ) where
  pub turn_fills : side y v ≡ true → turn side rule k y v ≡ inject rule k y (rule (lacking y) y v)
  unfolding turn
  turn_fills e = rw (e, turn)

  pub turn_draws : side y v ≡ false → turn side rule k y v ≡ extract rule k y (rule (surplus y) y v)
  unfolding turn
  turn_draws e = rw (e, turn)

  pub settle_end : (t : ℕ) → needy (imbalance y) y v ≡ [] → settle side rule k (suc t) y v ≡ []
  unfolding settle
  settle_end t e = rw (e, settle)

  pub settle_turn : (t c : ℕ) (cs : List ℕ) → needy (imbalance y) y v ≡ c ∷ cs
      → settle side rule k (suc t) y v ≡ turn side rule k y v ++ settle side rule k t (run y (turn side rule k y v)) v
  unfolding settle
  settle_turn t c cs e = rw (e, settle)

  pub balance_children : (d : ℕ) → balance side rule k (suc d) y v ≡ settle side rule k k y v ++ each (balance side rule k d) (run y (settle side rule k k y v)) (children y v)
  unfolding balance
  balance_children d = refl

pub each_cons : (f : Yard → ℕ → List Move) (y : Yard) (v : ℕ) (vs : List ℕ) → each f y (v ∷ vs) ≡ f y v ++ each f (run y (f y v)) vs
unfolding each
each_cons f y v vs = refl

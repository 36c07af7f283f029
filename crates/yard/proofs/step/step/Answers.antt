-- `step` refuses what is not free, by the fault that meets it. Both counts are read before either is written, so the pebbles are the shifted ones.
use mathlib.Core.Path.{◌≡◌, refl, sym, ◌∙◌}
use mathlib.Core.Bool.{Bool, true}
use Prim.Native.Nat.{ℕ}
use native.Mathlib.Omega.{arith}
use lib.ListN.{length-set}
use Rattle.model.specs.Yard.{Yard}
use Rattle.model.specs.Push.{Move, move_fault, is_none, shifted}
use Rattle.laws.proofs.Step.{Free, free, none_is}
use Rattle.yard.proofs.step.step.Goals as goal

-- what a move that is free keeps to
met : (y : Yard) (m : Move) (place : ℕ) {b : Bool} → b ≡ is_none (move_fault y m place) → b ≡ true → Free y m
met y m place e t = free _ _ _ (none_is _ (sym e ∙ t))

pub bounds-pebbles-from : goal.bounds-pebbles-from
bounds-pebbles-from c = omega (arith, (met _ _ _ (c.free.ensures c.args.place) c.if-not-free.false).from_lt, c.requires)

pub bounds-pebbles-to : goal.bounds-pebbles-to
bounds-pebbles-to c = omega (arith, (met _ _ _ (c.free.ensures c.args.place) c.if-not-free.false).to_lt, c.requires)

pub overflow_sub-pebbles : goal.overflow_sub-pebbles
overflow_sub-pebbles c = omega (arith, (met _ _ _ (c.free.ensures c.args.place) c.if-not-free.false).holds)

pub bounds-pebbles-from-2 : goal.bounds-pebbles-from-2
bounds-pebbles-from-2 c = omega (arith, (met _ _ _ (c.free.ensures c.args.place) c.if-not-free.false).from_lt, c.requires)

pub overflow_add-pebbles : goal.overflow_add-pebbles
overflow_add-pebbles c =
    record { fits = omega (arith, (met _ _ _ (c.free.ensures c.args.place) c.if-not-free.false).room, c.type_inv.depths c.args.to) }

pub bounds-pebbles-to-2 : goal.bounds-pebbles-to-2
bounds-pebbles-to-2 c = simp length-set (omega (arith, (met _ _ _ (c.free.ensures c.args.place) c.if-not-free.false).to_lt, c.requires))

pub returns : goal.returns
unfolding shifted
returns c = record {
  result_value = sym (none_is _ (sym (c.free.ensures c.args.place) ∙ c.if-not-free.false));
  pebbles_value = refl;
}

-- A refusal that a call passes on by `?`, in the words of the answer that it passes it on in.
use mathlib.Core.Path.{◌≡◌, refl}
use mathlib.Core.Option.{Option, some}
use Rattle.std.specs.Prelude.{Result, Err}
use Rattle.std.specs.Result.{IsErrAnd}
use Rattle.std.proofs.lemmas.Result.{err_from_is_err_and}
use Rattle.model.specs.declared.Refusal.{Refusal}
use Rattle.model.specs.Judge.{Fault}
use Rattle.model.specs.Calls.Answers.{Answer, refused}
use Rattle.model.specs.Paper.{paper, paper_done, paper_told}

module _ {A : Type 0} (d : Result A Refusal) (r : Refusal) (e : IsErrAnd d (λ s. s ≡ r)) where
  pub is_passed : d ≡ Err r
  is_passed = let p = err_from_is_err_and d e in rw (p.1, p.2) refl

  pub passed_on : {f : Option Fault} → some (paper r) ≡ f → paper_done d ≡ f
  passed_on q = let p = err_from_is_err_and d e in rw (p.1, p.2) q

  pub told_on : {B : Type 0} (meaning : A → B) {a : Answer B} → refused (paper r) ≡ a → paper_told meaning d ≡ a
  told_on meaning q = let p = err_from_is_err_and d e in rw (p.1, p.2) q

-- `number` gives what `parse` gives: by cases on the two results.
use mathlib.Core.Path.{refl, sym}
use Rattle.std.proofs.Common.{◌≡◌, Ok, Err, Some, None}
use Rattle.std.specs.Prelude.{Result, MatchResult, IsErr}
use Rattle.std.specs.Result.{result_ok}
use Rattle.cases.proofs.lists.number.Goals as goal

told : {N E F : Type 0} (M : F → Type 0) (r : Result N E) (q : Result N F)
    → MatchResult q (λ n. result_ok r ≡ Some n) (λ e. (result_ok r ≡ None) × M e)
    → MatchResult q (λ n. r ≡ Ok n) (λ e. IsErr r × M e)
told M (Ok x) (Ok n) h = cc
told M (Ok x) (Err e) h = absurd cc
told M (Err x) (Ok n) h = absurd cc
told M (Err x) (Err e) h = (refl, h.1)

pub returns : goal.returns
returns g c =
    (c.parse.result, c.parse.ensures.value, told _ c.parse.result c.context.result (rw (sym c.ok.ensures.value) c.context.ensures))

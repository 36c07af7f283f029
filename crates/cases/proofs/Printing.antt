-- Joining texts, each known or left open, and writing one after another.
use mathlib.Core.Path.{◌≡◌, refl, sym, ap, ◌∙◌}
use mathlib.Core.List.{append_assoc, append-nil}
use Rattle.std.proofs.Common.{List, ℕ, [], ◌∷◌, ◌++◌, Some, None}
use Rattle.std.specs.Prelude.{Option, Result, IsOk, codes}
use Rattle.std.specs.declared.fmt.Error.{Error}
use Rattle.std.specs.declared.fmt.Formatter.{Formatter}
use Rattle.std.specs.Fmt.{◌++?◌, DisplaysOnOk}
use Rattle.std.proofs.Output.{has_written_append}
use Rattle.cases.specs.Printing.{entries_text}

-- joining is associative
joined : (a b c : Option (List ℕ)) → (a ++? b) ++? c ≡ a ++? (b ++? c)
joined None b c = refl
joined (Some a) None c = refl
joined (Some a) (Some b) None = refl
joined (Some a) (Some b) (Some c) = ap Some (append_assoc a b c)

-- with one entry more, its text comes last
pub entries_more : {T : Type 0} (text : T → Option (List ℕ)) (xs : List T) (x : T)
    → entries_text text (xs ++ (x ∷ [])) ≡ entries_text text xs ++? (Some (codes " ") ++? text x)
entries_more text [] x = go (text x)
  where
    go : (t : Option (List ℕ)) → (Some (codes " ") ++? t) ++? Some [] ≡ Some [] ++? (Some (codes " ") ++? t)
    go None = refl
    go (Some t) = ap Some (append-nil (codes " " ++ t))
entries_more text (y ∷ ys) x =
    ap (λ (o : Option (List ℕ)). (Some (codes " ") ++? text y) ++? o) (entries_more text ys x)
    ∙ sym (joined (Some (codes " ") ++? text y) (entries_text text ys) (Some (codes " ") ++? text x))

-- a is written, and then b
module _ {W : Type 0} (took : W → List ℕ → W → Type 0) (f g h : Formatter W) (r s : Result (Unit {0}) Error) where
  pub written_then : (a b : Option (List ℕ)) → IsOk r → DisplaysOnOk took f r a g → DisplaysOnOk took g s b h
      → DisplaysOnOk took f s (a ++? b) h
  written_then None b ok p q = tt
  written_then (Some a) None ok p q = tt
  written_then (Some a) (Some b) ok p q = λ plain done.
      let w = p plain ok in has_written_append took f a g b h w (q w.plain done)

-- What a text says: the fields of a case, and a number.
use Rattle.std.specs.Prelude.{◌≡◌, ◌==◌, ℕ, ◌-◌, if◌then◌else◌, Some, Result, Ok, MatchResult, IsErr}
use Rattle.std.specs.Prelude.{List, length, take, drop, map, slice_index}
use Rattle.std.specs.List.{slice_split}
use Rattle.anyhow.specs.declared.error.Error.{Error}
use Rattle.anyhow.specs.Error.{IsMadeOf}

-- a text without the space (32) that it begins with, or ends with
abbrev pub without_first : List ℕ → List ℕ
without_first l = if slice_index l 0 == 32 then drop 1 l else l

abbrev pub without_last : List ℕ → List ℕ
without_last l = if slice_index l (length l - 1) == 32 then take (length l - 1) l else l

-- what stands between the bars (124) of a line, each without the space on either side of it
abbrev pub fields_of : List ℕ → List (List ℕ)
fields_of line = map (λ part. without_last (without_first part)) (slice_split (λ b. b == 124) line)

-- the number that a text is read as, by its type's own `reads`; if that fails, an error made of the
-- text
abbrev pub NumberOf : {N E : Type 0} → (List ℕ → Result N E → Type 0) → List ℕ → Result N Error → Type 0
NumberOf {N} {E} reads text result =
    (r : Result N E) × reads text r × MatchResult result (λ n. r ≡ Ok n) (λ e. IsErr r × IsMadeOf (Some text) e)

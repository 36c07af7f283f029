-- A space cut off the front or the back of a text, from what the library says of `strip_prefix` and
-- `strip_suffix`.
use mathlib.Core.Path.{◌≡◌, refl, sym, ap, ◌∙◌}
use mathlib.Core.Logic.{◌≢◌}
use Prim.Native.Nat.{◌-◌, ◌+◌, ◌<◌}
use native.Mathlib.Omega.{arith}
use native.Mathlib.Decide.{ℕ_discrete}
use borrow.Author.Tests.{ne_eqb}
use denote.Ref.{Bor}
use Rattle.std.proofs.Common.{List, ℕ, [], ◌∷◌, ◌++◌, length, take, Some, None}
use Rattle.std.proofs.lemmas.List.{length_push, get_or_push, take_all, take_at, take_more}
use Rattle.std.specs.Prelude.{Option, slice_index}
use Rattle.std.specs.Option.{MatchOption, unwrap_or}
use Rattle.cases.specs.Reading.{without_first, without_last}

-- what is left of a text, or the text itself, is the text without a space at its front
pub cut_first : (o : Option (Bor (List ℕ))) (text : Bor (List ℕ))
    → MatchOption o ((rest : List ℕ) → text.now ≢ 32 ∷ rest) (λ x. text.now ≡ 32 ∷ x.now)
    → (unwrap_or o text).now ≡ without_first text.now
cut_first (Some x) text h = rw h refl
cut_first None text h = go text.now h
  where
    go : (l : List ℕ) → ((rest : List ℕ) → l ≢ 32 ∷ rest) → l ≡ without_first l
    go [] n = refl
    go (b ∷ l) n = at (ℕ_discrete b 32)
      where
        at : Dec (b ≡ 32) → b ∷ l ≡ without_first (b ∷ l)
        at (yes e) = absurd (n l (ap (λ (c : ℕ). c ∷ l) e))
        at (no d) = rw (ne_eqb b 32 d) refl

-- a text that is not empty is its front and its last byte
last_of : (l : List ℕ) → 0 < length l → l ≡ take (length l - 1) l ++ (slice_index l (length l - 1) ∷ [])
last_of l h =
    let n : length l - 1 + 1 ≡ length l = omega arith in
    sym (take_all (length l - 1 + 1) l (omega arith)) ∙ take_more l (length l - 1) 0 (omega arith)

-- the same at its end
pub cut_last : (o : Option (Bor (List ℕ))) (text : Bor (List ℕ))
    → MatchOption o ((front : List ℕ) → text.now ≢ front ++ (32 ∷ [])) (λ x. text.now ≡ x.now ++ (32 ∷ []))
    → (unwrap_or o text).now ≡ without_last text.now
cut_last (Some x) text h =
    let n : length x.now + 1 - 1 ≡ length x.now = omega arith in
    rw (h, length_push x.now 32, n, get_or_push x.now 32 0, take_at x.now (32 ∷ []) (length x.now) refl) refl
cut_last None text h = go text.now h
  where
    by : (l : List ℕ) → 0 < length l → ((front : List ℕ) → l ≢ front ++ (32 ∷ []))
        → Dec (slice_index l (length l - 1) ≡ 32) → l ≡ without_last l
    by l k n (yes e) = absurd (n (take (length l - 1) l) (last_of l k ∙ ap (λ (c : ℕ). take (length l - 1) l ++ (c ∷ [])) e))
    by l k n (no d) = rw (ne_eqb (slice_index l (length l - 1)) 32 d) refl

    go : (l : List ℕ) → ((front : List ℕ) → l ≢ front ++ (32 ∷ [])) → l ≡ without_last l
    go [] n = refl
    go (b ∷ bs) n = by (b ∷ bs) (omega arith) n (ℕ_discrete (slice_index (b ∷ bs) (length (b ∷ bs) - 1)) 32)

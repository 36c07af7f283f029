-- `without_spaces` cuts one space off the front, and then one off the back.
use mathlib.Core.Path.{◌∙◌, ap}
use Rattle.std.proofs.Common.{List, ℕ}
use native.Mathlib.Omega.{arith}
use denote.Ref.{Bor}
use Rattle.std.proofs.lemmas.Str.Pattern.{strip_prefix_char, strip_suffix_char}
use Rattle.cases.specs.Reading.{without_last}
use Rattle.cases.proofs.Spaces.{cut_first, cut_last}
use Rattle.cases.proofs.lines.without_spaces.Goals as goal

pub returns : goal.returns
returns c =
    let text = c.args.field in
    let front = c.unwrap_or-field.result in
    let first = cut_first c.strip_prefix.result text
    (strip_prefix_char 32 text.now c.strip_prefix.result c.strip_prefix.ensures.cases (omega arith)) in
    let last = cut_last c.strip_suffix.result front
    (strip_suffix_char 32 front.now c.strip_suffix.result c.strip_suffix.ensures.cases (omega arith)) in
    ap (λ (b : Bor (List ℕ)). b.now) c.unwrap_or.ensures ∙ last
    ∙ ap without_last (ap (λ (b : Bor (List ℕ)). b.now) c.unwrap_or-field.ensures ∙ first)

-- `put_refused` prints number and place of the refusal.
use mathlib.Core.Path.{◌≡◌, refl}
use mathlib.Core.List.{[], ◌∷◌, ◌++◌}
use Prim.Native.Nat.{ℕ}
use Rattle.model.specs.Judge.{Fault}
use Rattle.model.specs.Paper.{paper}
use Rattle.model.specs.Sheets.{text, line, refusal_sheet}
use Rattle.sheet.proofs.Writing.{printed_as}
use Rattle.sheet.proofs.output.put_refused.Goals as goal

-- the head and the line are the sheet
said : (f : Fault) {n p : ℕ} → n ≡ f.number → p ≡ f.place → text "refusal place\n" ++ line (n ∷ p ∷ []) ≡ refusal_sheet f
unfolding refusal_sheet
said f a b = rw (a, b) refl

pub returns : goal.returns
unfolding text
returns c =
    let e = c.put_pair.ensures in
    let f = printed_as c.args.out.now (said (paper c.args.r) c.number-row.ensures c.place-at.ensures) (e.value, e.out_value) in
    record { value = f.0; out_value = f.1 }

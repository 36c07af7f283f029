-- The text that each value of `print` prints.
use Rattle.std.specs.Prelude.{ℕ, ◌+◌, ◌-◌, ◌*◌, ◌%◌, nat_lt, if◌then◌else◌, Option, Some, Result, Ok, Err}
use Rattle.std.specs.Prelude.{List, [], ◌∷◌, ◌++◌, length, take, drop, fold, codes}
use Rattle.std.specs.Fmt.{decimal, ◌++?◌}
use Rattle.model.specs.declared.Refusal.{Refusal}
use Rattle.model.specs.declared.Checked.{Checked}
use Rattle.model.specs.declared.Tried.{Tried}
use Rattle.model.specs.declared.Tried.TheVariants.{PlanEnded, BudgetEnded}
use Rattle.model.specs.declared.Measured.{Measured}
use Rattle.model.specs.declared.Located.{Located}
use Rattle.model.specs.declared.Worn.{Worn}
use Rattle.model.specs.declared.Signalled.{Signalled}
use Rattle.model.specs.declared.Signalled.TheVariants.{Raised, Quiet}
use Rattle.model.specs.Paper.{paper}

-- a refusal, by its number and its place
abbrev pub refusal_text : Refusal → List ℕ
refusal_text r = codes "refusal " ++ decimal (paper r).number ++ codes " place " ++ decimal (paper r).place

-- an answer: its value as f says, or the refusal
abbrev pub answer_text : {A : Type 0} → (A → List ℕ) → Result A Refusal → List ℕ
answer_text f (Ok a) = f a
answer_text f (Err r) = refusal_text r

-- the numbers of an answer, each after its name
abbrev pub checked_text : Checked → List ℕ
checked_text c = codes "moves " ++ decimal c.moves ++ codes " spare " ++ decimal c.excess

abbrev pub tried_text : Tried → List ℕ
tried_text (PlanEnded taken) = codes "plan ended after " ++ decimal taken
tried_text (BudgetEnded taken) = codes "budget ended after " ++ decimal taken

abbrev pub measured_text : Measured → List ℕ
measured_text m = codes "moves " ++ decimal m.moves ++ codes " bytes " ++ decimal m.bytes

abbrev pub located_text : Located → List ℕ
located_text l = codes "node " ++ decimal l.node ++ codes " distance " ++ decimal l.distance

abbrev pub worn_text : Worn → List ℕ
worn_text w = codes "crossings " ++ decimal w.crossings ++ codes " first " ++ decimal w.first ++ codes " edge " ++ decimal w.edge

-- a step of the cabinet: one word
abbrev pub signalled_text : Signalled → List ℕ
signalled_text Raised = codes "raised"
signalled_text Quiet = codes "quiet"

-- the entries of a list, each as `text` says, after a space
abbrev pub entries_text : {T : Type 0} → (T → Option (List ℕ)) → List T → Option (List ℕ)
entries_text text [] = Some []
entries_text text (x ∷ xs) = (Some (codes " ") ++? text x) ++? entries_text text xs

-- a digest, with one entry more
abbrev pub digest_step : ℕ → ℕ → ℕ
digest_step h b = (h % 1000003 * 31 + b) % 1000003

-- a list of bytes; its last four, if it has four; its ends, with its digest
abbrev pub bytes_text : List ℕ → Option (List ℕ)
bytes_text = entries_text (λ b. Some (decimal b))

abbrev pub last_text : List ℕ → Option (List ℕ)
last_text list = if nat_lt (length list) 4 then Some [] else (Some (codes ", last") ++? bytes_text (drop (length list - 4) list))

abbrev pub ends_text : List ℕ → Option (List ℕ)
ends_text list = (bytes_text (take 4 list) ++? last_text list) ++? Some (codes ", digest " ++ decimal (fold digest_step 0 list))

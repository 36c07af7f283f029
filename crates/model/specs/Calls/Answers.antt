-- What a call answers and what a list lent to it then holds (demand 1), and the answer as one number for C ('What the yard is').
use Rattle.std.specs.Prelude.{◌≢◌, cond, List, [], ◌∷◌, ◌++◌, ℕ, zero, suc, ◌+◌, ◌*◌, ◌/◌, ◌%◌, ◌≤◌, ◌<◌, length, drop, ltb}
use Rattle.std.proofs.Math.Option.{Option, none, some}
use Rattle.model.specs.Judge.{Fault, row_count}

-- a full result, or a refusal (demand 1)
pub data Answer (A : Type 0) : Type 0 where
  answered : A → Answer A
  refused : Fault → Answer A

abbrev pub answer : {A : Type 0} → Option Fault → A → Answer A
answer none a = answered a
answer (some f) a = refused f

abbrev pub mapAnswer : {A B : Type 0} → (A → B) → Answer A → Answer B
mapAnswer f (answered a) = answered (f a)
mapAnswer f (refused r) = refused r

-- what a lent list then holds: the new entries, or after a refusal what it held before (demand 1)
abbrev pub lent : {A : Type 0} → Option Fault → List A → List A → List A
lent none new old = new
lent (some f) new old = old

-- a list with its front overwritten, and what lies behind untouched
abbrev pub overwrite : {A : Type 0} → List A → List A → List A
overwrite front list = front ++ drop (length front) list

-- the k numbers from a on
unfoldable pub range : ℕ → ℕ → List ℕ
range a zero = []
range a (suc k) = a ∷ range (suc a) k

-- The C program's calls ('What the yard is'): one number each, the value, or the refusal's number × 1,000,000 plus its place.
abbrev pub rowUnit : ℕ
rowUnit = 1_000_000

abbrev pub in_c : Answer ℕ → ℕ
in_c (answered n) = n
in_c (refused f) = f.number * rowUnit + f.place

-- the answer that such a number tells
abbrev pub told : ℕ → Answer ℕ
told r = cond (ltb r rowUnit) (answered r) (refused (record { number = r / rowUnit; place = r % rowUnit }))

-- an accepted call with no value of its own answers 0, the checker among them
abbrev pub zeroInC : Option Fault → ℕ
zeroInC f = in_c (answer f 0)

-- a further value of an accepted call, written through a pointer to a number, which holds what it held before after a refusal (demand 1)
abbrev pub noted : {A : Type 0} → Answer A → (A → ℕ) → ℕ → ℕ
noted (answered a) value old = value a
noted (refused f) value old = old

-- an answer that one number tells: a value below 1,000,000, or a refusal of the table, which has no rows 3 and 21, with such a place. So all fits 32 bits, and value or number
-- and place can be read off again (`tells`)
abbrev pub InTable : ℕ → Type 0
InTable n = (0 < n) × (n ≤ row_count) × (n ≢ 3) × (n ≢ 21)

pub record Row (f : Fault) : Type 0 where
  pub numbered : InTable f.number
  pub placed : f.place < rowUnit

abbrev pub Small : Answer ℕ → Type 0
Small (answered n) = n < rowUnit
Small (refused f) = Row f

-- the version of the calls for C: raised whenever one is added, or gets further arguments or another meaning under its name
abbrev pub version : ℕ
version = 12

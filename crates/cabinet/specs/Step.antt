-- What a step is told of the plan, the registers that it then leaves, and what a step leaves.
use Rattle.std.specs.Prelude.{◌≡◌, Bool, List, ℕ, Result}
use Rattle.model.specs.declared.Registers.{Registers}
use Rattle.model.specs.declared.Refusal.{Refusal}
use Rattle.model.specs.declared.Signalled.{Signalled}
use Rattle.model.specs.Push.{push}
use Rattle.model.specs.Calls.Registers.{whole_moves, next_move, registers_of, registers_then, Stepped}
use Rattle.model.specs.Paper.{paper_signalled}
use Rattle.cabinet.specs.declared.registers.Told.{Told}

abbrev pub told_of : List ℕ → Registers → Bool → Told
told_of bs r failed = record { moves = whole_moves bs; from = (next_move bs r).from; to = (next_move bs r).to; failed = failed }

abbrev pub next_of : Registers → Told → Registers
next_of r told = registers_then told.moves (push told.from told.to) told.failed r

-- what a step leaves, as the definition has it of the bytes of its registers: its answer, the registers and the pebbles
abbrev pub LeftBy : Stepped → Result Signalled Refusal → Registers → List ℕ → Type 0
LeftBy s line next pebbles = (paper_signalled line ≡ s.line) × ((next ≡ registers_of s.block) × (pebbles ≡ s.pebbles))

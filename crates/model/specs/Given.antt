-- What lent lists hold, in one word for contracts: the yard of four of them, and what the reader finds in a sheet.
use Rattle.std.specs.Prelude.{List, ℕ}
use Rattle.model.specs.declared.Lists.{Lists}
use Rattle.model.specs.Yard.{Yard, yard_of}
use Rattle.model.specs.Calls.Answers.{Answer}
use Rattle.model.specs.Sheets.{reader}

-- as the call found them, for an `ensures`
abbrev pub given : List ℕ → List ℕ → List ℕ → List ℕ → Yard
given parents pebbles targets depths = yard_of parents pebbles targets depths

-- what the reader's call finds in a lent sheet, with the lists that it is to fill
abbrev pub read_from : List ℕ → List ℕ → List ℕ → List ℕ → List ℕ → Answer Yard
read_from sheet parents pebbles targets depths = reader sheet parents pebbles targets depths

-- as they are, for a `requires`
abbrev pub handed : List ℕ → List ℕ → List ℕ → List ℕ → Yard
handed parents pebbles targets depths = yard_of parents pebbles targets depths

-- the yard that a struct of four lists says
abbrev pub listed : Lists → Yard
listed l = yard_of l.parents.now l.pebbles.now l.targets.now l.depths.now

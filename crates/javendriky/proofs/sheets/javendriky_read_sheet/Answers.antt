-- `javendriky_read_sheet` answers and leaves what `read_sheet` does, and its answer is small.
use Rattle.laws.proofs.Places.{read_small}
use Rattle.javendriky.proofs.sheets.javendriky_read_sheet.Goals as goal

pub counted-requires : goal.counted-requires
counted-requires c = rw c.read_sheet.ensures.result_value (read_small _ _ _ _ _)

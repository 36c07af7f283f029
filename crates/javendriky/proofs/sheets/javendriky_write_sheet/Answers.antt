-- `javendriky_write_sheet` answers and leaves what `write_sheet` does, and its answer is small, as the lists hold bytes.
use Rattle.laws.proofs.Places.{write_small}
use Rattle.javendriky.proofs.sheets.javendriky_write_sheet.Goals as goal

pub counted-requires : goal.counted-requires
counted-requires c =
    let r = c.type_inv in
    rw c.write_sheet.ensures.result_value
    (write_small _ ((λ i. (r.parents i).fits), (λ i. (r.pebbles i).fits), (λ i. (r.targets i).fits), λ i. (r.depths i).fits) _)

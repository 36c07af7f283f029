-- `distance::far::know` meets its contract: v is known already, or beside its parent, or by the climbs (the laws are in Climbing and
-- Marking).
use native.Mathlib.Omega.{arith}
use mathlib.Core.Path.{refl}
use Rattle.distance.proofs.Climbing.{write_beside}
use Rattle.distance.proofs.Marking.{as_long, partly_beside}
use Rattle.distance.proofs.far.know.Goals as goal

pub returns-then-above-lt255 : goal.returns-then-above-lt255
returns-then-above-lt255 c =
    let p = c.requires in
    let w = write_beside p.0 p.1 p.2 c.if-list-v-ne256.false c.if-above-lt255.true in record {
      list_len = (w.entries.long, λ _. w);
      value = λ y a f q. (refl, partly_beside f q (omega (arith, p.2, as_long f)) c.if-list-v-ne256.false c.if-above-lt255.true);
    }

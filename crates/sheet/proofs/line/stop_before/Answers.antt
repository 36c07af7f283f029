-- `stop_before` tells the last value of a line from the others.
use Rattle.sheet.proofs.Rows.{stop_last, stop_inner}
use Rattle.sheet.proofs.line.stop_before.Goals as goal

pub returns-then-others-eq0 : goal.returns-then-others-eq0
returns-then-others-eq0 c = stop_last _ c.if-others-eq0.true

pub returns-else-others-eq0 : goal.returns-else-others-eq0
returns-else-others-eq0 c = stop_inner _ c.if-others-eq0.false

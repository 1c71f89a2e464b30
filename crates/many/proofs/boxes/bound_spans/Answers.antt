-- `many::boxes::bound_spans` meets its contract.
-- Assumes nothing.
use Rattle.many.proofs.RowsHold.{spans-meet, spans-promised}
use Rattle.many.proofs.boxes.bound_spans.Goals as goal

pub returns : goal.returns
returns c = let all = let a = c.args in
    spans-promised a.curve.degree a.curve.knots.now a.curve.points.now a.curve.rational a.curve.weights.now _ _ _ _ _ (spans-meet a.curve.degree a.curve.knots.now a.curve.points.now a.curve.rational a.curve.weights.now _ _ _ _ _ c.bound_all.ensures) in
    record { spans_meet = all.0; rows_hold = all.1 }

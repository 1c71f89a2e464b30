-- `many::boxes::bound_points` meets its contract.
-- Assumes nothing.
use Rattle.many.proofs.RowsHold.{points-promised}
use Rattle.many.proofs.boxes.bound_points.Goals as goal

pub returns : goal.returns
returns c = let all = let a = c.args in
    points-promised a.curve.degree a.curve.knots.now a.curve.points.now a.curve.rational a.curve.weights.now _ _ _ _ _ c.bound_all.ensures in
    record { point_spans_meet = all.0; point_rows_hold = all.1 }

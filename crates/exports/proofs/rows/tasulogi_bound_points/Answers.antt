-- `exports::rows::tasulogi_bound_points` meets its contract.
-- Assumes nothing.
use Rattle.many.proofs.RowsHold.{points-promised}
use Rattle.exports.proofs.Settled.{settled-rows}
use Rattle.exports.specs.Rows.{rows_count}
use Rattle.exports.proofs.rows.tasulogi_bound_points.Goals as goal

pub returns : goal.returns
returns c = let a = c.args in
    let z = settled-rows rows_count c.rows_count.ensures c.bound_points.ensures.point_spans_meet in
    let p = points-promised a.degree a.knots.now a.points.now a.rational a.weights.now _ _ _ _ _ z.1 in
    record { value = z.0; point_spans_meet = p.0; point_rows_hold = p.1 }

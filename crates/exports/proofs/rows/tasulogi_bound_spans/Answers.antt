-- `exports::rows::tasulogi_bound_spans` meets its contract.
-- Assumes nothing.
use Rattle.many.proofs.RowsHold.{spans-promised}
use Rattle.exports.proofs.Settled.{settled-rows}
use Rattle.exports.specs.Rows.{rows_count}
use Rattle.exports.proofs.rows.tasulogi_bound_spans.Goals as goal

pub returns : goal.returns
returns c = let a = c.args in
    let z = settled-rows rows_count c.rows_count.ensures c.bound_spans.ensures.spans_meet in
    let p = spans-promised a.degree a.knots.now a.points.now a.rational a.weights.now _ _ _ _ _ z.1 in
    record { value = z.0; spans_meet = p.0; rows_hold = p.1 }

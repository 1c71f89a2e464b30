-- `edits::lay::take_rows` meets its contract.
-- Assumes nothing.
use native.Mathlib.Omega.{arith}
use Rattle.edits.proofs.IntoRun.{take_more}
use Rattle.edits.proofs.lay.take_rows.Goals as goal

pub loop-i-preserved : goal.loop-i-preserved
loop-i-preserved c = let a = c.args in
    let l = c.loop-i in
    let q = c.requires in
    let e = q.points_len in
    let s = l.invariant.long-points in
    let t = c.loop-i-test.true in
    take_more
    a.rational a.n a.rows.now a.points.now a.weights.now _ _ l.i l.invariant (omega arith) (omega arith) q.n_in_bounds_2 _
    c.whole_row-q.ensures _ c.vector_of.ensures _ _
    c.put_point.ensures c.put_weight.ensures

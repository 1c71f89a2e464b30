-- `elevation::segments::load_rows` meets its contract.
-- Assumes nothing.
use native.Mathlib.Omega.{arith}
use Prim.Native.Nat.{◌+◌}
use lib.ListN.{length}
use Rattle.edits.specs.Passes.{row_of}
use Rattle.elevation.proofs.RaiseLoop.{hold-more}
use Rattle.elevation.proofs.segments.load_rows.Goals as goal

pub loop-i-preserved : goal.loop-i-preserved
loop-i-preserved c = let a = c.args in
    let l = c.loop-i in
    let q = c.requires.m_in_bounds_2 in
    let t = c.loop-i-test.true in
    hold-more
    (λ i. row_of a.rational a.from.now (a.first + i)) (length a.rows.now) l.rows l.i l.invariant (omega arith) _ c.row_at-q.ensures _ c.put_row.ensures

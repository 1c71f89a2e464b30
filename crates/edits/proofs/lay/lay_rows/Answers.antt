-- `edits::lay::lay_rows` meets its contract.
-- Assumes nothing.
use Prim.Native.Nat.{◌/◌}
use lib.ListN.{length}
use native.Mathlib.Omega.{arith}
use Rattle.edits.proofs.LayLoop.{lay-more}
use mathlib.Core.Path.{◌∙◌, ap₂}
use Rattle.edits.specs.Passes.{kept_row}
use Rattle.edits.proofs.RowStores.{row_put-done}
use Rattle.edits.proofs.lay.lay_rows.Goals as goal

pub loop-i-preserved : goal.loop-i-preserved
loop-i-preserved c = let a = c.args in
    let lp = c.loop-i in
    lay-more
    (length a.points.now / 3) a.points.now a.rational a.weights.now a.rows.now _ lp.i lp.invariant
    c.loop-i-test.true _
    (c.kept_row-q.ensures
    ∙ ap₂ kept_row c.point_at.ensures c.weight_at.ensures)
    _ c.put_whole.auto.rows
    (row_put-done
    lp.i _ _
    (let t = c.loop-i-test.true in
    let p = c.requires.points_in_bounds_2 in let l = lp.invariant.done.long in omega arith)
    a.rational _ c.put_whole.ensures)

-- `elevation::segments::put_rows` meets its contract.
-- Assumes nothing.
use native.Mathlib.Omega.{arith}
use Prim.Native.Nat.{◌+◌, ◌*◌}
use mathlib.Core.Path.{sym, ◌∙◌}
use Rattle.elevation.specs.Passes.{control_in}
use Rattle.edits.proofs.RowReads.{given-room}
use Rattle.elevation.proofs.Putting.{put-stop, put-more, put-end}
use Rattle.elevation.proofs.Overlaid.{over-three, weight-over}
use Rattle.elevation.proofs.segments.put_rows.Goals as goal

pub returns-then-not-is_blended : goal.returns-then-not-is_blended
returns-then-not-is_blended c = let a = c.args in
    let l = c.loop-i in
    put-stop
    a.o a.rational (control_in a.rows.now) a.first a.m a.place a.points.now a.weights.now l.points l.weights l.i l.invariant
    c.loop-i-test.true _ c.row_at-q.ensures _ _ (sym c.is_blended.ensures ∙ c.if-not-is_blended.true)

pub loop-i-preserved : goal.loop-i-preserved
loop-i-preserved c = let a = c.args in
    let lp = c.loop-i in
    let q = c.requires in
    let l = q.m_in_bounds_2 in
    let L = lp.invariant.going.long-points in
    let t = c.loop-i-test.true in
    let M = lp.invariant.going.long-weights in
    put-more
    a.o a.rational (control_in a.rows.now) a.first a.m a.place a.points.now a.weights.now lp.points lp.weights lp.i lp.invariant
    c.loop-i-test.true _
    c.row_at-q.ensures _ _ q.m_in_bounds_2 q.m_in_bounds_3
    (sym c.is_blended.ensures
    ∙ c.if-not-is_blended.false)
    _ c.lower_of.ensures
    (c.put_point.ensures ∙ over-three ((a.place + lp.i) * 3) _ lp.points (omega arith))
    (c.put_weight.ensures ∙ weight-over a.rational (a.place + lp.i) _ lp.weights (λ g. let w = given-room a.rational (a.place + a.m) _ q.m_in_bounds_3 g in omega arith))

pub returns : goal.returns
returns c = let a = c.args in
    put-end
    a.o a.rational (control_in a.rows.now) a.first a.m a.place a.points.now a.weights.now c.loop-i.points c.loop-i.weights c.loop-i.i
    c.loop-i.invariant c.loop-i-test.false

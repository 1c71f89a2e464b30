-- `many::boxes::bound_each_by` meets its contract.
-- Assumes nothing.
use native.Mathlib.Omega.{arith}
use mathlib.Core.Path.{refl, ◌∙◌}
use Rattle.many.proofs.Bounded.{spans-start, spans-skip, spans_fit, spans-more}
use Rattle.many.proofs.boxes.bound_each_by.Goals as goal
use Rattle.many.proofs.boxes.bound_each_by.Goals.{then-lo-hi, else-lo-hi}

pub loop-s-init : goal.loop-s-init
loop-s-init c = let a = c.args in (refl, spans-start a.alone a.curve.degree a.curve.knots.now a.curve.points.now a.curve.rational a.curve.weights.now c.requires.valid_curve a.marks.now a.boxes.now)

pub put_row_by-requires-clause-i_in_bounds : goal.put_row_by-requires-clause-i_in_bounds
put_row_by-requires-clause-i_in_bounds c = let a = c.args in
    let l = c.loop-s in
    let q = c.requires in
    (spans_fit a.alone a.curve.degree a.curve.knots.now a.curve.points.now a.curve.rational a.curve.weights.now
    q.valid_curve a.marks.now a.boxes.now l.marks l.boxes l.i l.s l.invariant.1
    (omega (arith, c.loop-s-test, l.invariant.0)) c.if-lo-hi.true q.points_in_bounds).0

pub put_row_by-requires-clause-i_bound : goal.put_row_by-requires-clause-i_bound
put_row_by-requires-clause-i_bound c = let a = c.args in
    let l = c.loop-s in
    let q = c.requires in
    (spans_fit a.alone a.curve.degree a.curve.knots.now a.curve.points.now a.curve.rational a.curve.weights.now
    q.valid_curve a.marks.now a.boxes.now l.marks l.boxes l.i l.s l.invariant.1
    (omega (arith, c.loop-s-test, l.invariant.0)) c.if-lo-hi.true q.points_in_bounds).1

pub overflow_add-i : goal.overflow_add-i
overflow_add-i c = let a = c.args in
    let l = c.loop-s in
    let q = c.requires in
    omega (
      arith,
      (spans_fit a.alone a.curve.degree a.curve.knots.now a.curve.points.now a.curve.rational a.curve.weights.now
          q.valid_curve a.marks.now a.boxes.now l.marks l.boxes l.i l.s l.invariant.1
          (omega (arith, c.loop-s-test, l.invariant.0)) c.if-lo-hi.true q.points_in_bounds).1,
    )

pub loop-s-preserved : goal.loop-s-preserved
loop-s-preserved c = let a = c.args in
    let l = c.loop-s in
    let q = c.requires in
    elim c.if-lo-hi.branch [
      | then-lo-hi w ↦
          rw w.i-is (
            l.invariant.0,
            spans-more a.alone a.curve.degree a.curve.knots.now a.curve.points.now a.curve.rational a.curve.weights.now
                q.valid_curve a.marks.now a.boxes.now l.marks l.boxes l.i l.s l.invariant.1
                (omega (arith, c.loop-s-test, l.invariant.0)) w.if-lo-hi.true q.points_in_bounds q.alone_in_bounds _
                w.row_on-row.ensures _ _ (w.marks-is ∙ w.put_row_by.ensures.marks_after) (w.boxes-is ∙ w.put_row_by.ensures.boxes_after),
          )
      | else-lo-hi w ↦
          rw (w.i-is, w.marks-is, w.boxes-is) (
            l.invariant.0,
            spans-skip a.alone a.curve.degree a.curve.knots.now a.curve.points.now a.curve.rational a.curve.weights.now
                q.valid_curve a.marks.now a.boxes.now l.marks l.boxes l.i l.s l.invariant.1
                (omega (arith, c.loop-s-test, l.invariant.0)) w.if-lo-hi.false,
          )
    ]

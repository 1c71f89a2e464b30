-- `elevation::elevate::form` meets its contract.
-- Assumes nothing.
use lib.ListN.{length}
use Rattle.elevation.proofs.Outcomes.{copy-ready, copied, raised-up, start-ready, meets-moved}
use Rattle.elevation.proofs.elevate.form.Goals as goal

pub copy_curve-requires : goal.copy_curve-requires
copy_curve-requires c = let all = let a = c.args in
    copy-ready
    a.curve.degree a.curve.knots.now a.curve.points.now a.curve.rational a.curve.weights.now a.raised (length a.out_knots.now) (length a.out_points.now) (length a.out_weights.now)
    (length a.work.now) c.requires c.if-raised-curve.true in
    record { knots_in_bounds = all.0; weights_in_bounds = all.1 }

pub returns-then-raised-curve : goal.returns-then-raised-curve
returns-then-raised-curve c = let a = c.args in
    copied
    a.curve.degree a.curve.knots.now a.curve.points.now a.curve.rational a.curve.weights.now a.raised (length a.out_knots.now) (length a.out_points.now) (length a.out_weights.now) _ _ _
    c.if-raised-curve.true
    c.copy_curve.ensures

pub raise_into-requires : goal.raise_into-requires
raise_into-requires c = let a = c.args in
    let s =
    start-ready
    a.curve.degree a.curve.knots.now a.curve.points.now a.curve.rational a.curve.weights.now a.raised (length a.out_knots.now) (length a.out_points.now) (length a.out_weights.now)
    (length a.work.now) _ _ _ c.clear.ensures
    c.clear-2.ensures c.clear-3.ensures
    c.requires in
    record {
      work_value = s.0;
      fact = c.if-raised-curve.false;
      out_knots_value = s.1;
    }

pub returns : goal.returns
returns c = let a = c.args in
    raised-up
    a.curve.degree a.curve.knots.now a.curve.points.now a.curve.rational a.curve.weights.now a.raised (length a.out_knots.now) (length a.out_points.now) (length a.out_weights.now) _ _ _ _
    c.if-raised-curve.false
    (meets-moved
    a.curve.degree a.curve.knots.now a.curve.points.now a.curve.rational a.curve.weights.now a.raised (length a.out_knots.now) (length a.out_points.now) (length a.out_weights.now)
    (length a.work.now) _ _ _
    c.clear.ensures
    c.clear-2.ensures
    c.clear-3.ensures _ _ _ _ _
    c.raise_into.ensures)

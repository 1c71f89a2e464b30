-- The refusal of the fronts of three runs: each front is as long as the layout says.
-- Assumes nothing.
use mathlib.Core.Path.{sym, ◌∙◌}
use lib.Seq.{length-take-le}
use Rattle.record.proofs.table.layout_refusal.Goals as goal

pub slice_bounds-curve_refusal-end : goal.slice_bounds-curve_refusal-end
slice_bounds-curve_refusal-end c = let a = c.args in
    sym (length-take-le a.l.knots a.knots.now c.requires.knots_in_bounds)

pub slice_bounds-curve_refusal-end-2 : goal.slice_bounds-curve_refusal-end-2
slice_bounds-curve_refusal-end-2 c = let a = c.args in
    sym (length-take-le a.l.points a.points.now c.requires.points_in_bounds)

pub slice_bounds-curve_refusal-end-3 : goal.slice_bounds-curve_refusal-end-3
slice_bounds-curve_refusal-end-3 c = let a = c.args in
    sym (length-take-le a.l.weights a.weights.now c.requires.weights_in_bounds)

pub returns : goal.returns
returns c = c.curve_refusal.ensures ∙ rw c.is_rational.ensures

-- `many::boxes::row_on` meets its contract.
-- Assumes nothing.
use mathlib.Core.Path.{◌∙◌, sym, ap}
use mathlib.Core.Bool.{Bool}
use Rattle.bounds.specs.Curve.{bound_at}
use Rattle.many.specs.Spans.{box_row, point_box_row, row_by}
use Rattle.many.proofs.boxes.row_on.Goals as goal

pub returns-then-alone : goal.returns-then-alone
returns-then-alone c = let a = c.args in
    c.point_row_of.ensures
    ∙ (ap point_box_row c.point_span.ensures.value
    ∙ ap (λ (d : Bool). row_by d (bound_at a.curve.degree a.s a.curve.knots.now a.curve.points.now a.curve.rational a.curve.weights.now a.lo a.hi)) (sym c.if-alone.true))

pub returns : goal.returns
returns c = let a = c.args in
    c.row_of.ensures
    ∙ (ap box_row c.bound_span.ensures.value
    ∙ ap (λ (d : Bool). row_by d (bound_at a.curve.degree a.s a.curve.knots.now a.curve.points.now a.curve.rational a.curve.weights.now a.lo a.hi)) (sym c.if-alone.false))

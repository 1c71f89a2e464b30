-- `many::points::row_at` meets its contract.
-- Assumes nothing.
use mathlib.Core.Path.{◌∙◌, ap}
use Rattle.many.specs.Points.{point_row, point_row2}
use Rattle.many.proofs.Evaluated.{valid-answered, valid-answered2}
use Rattle.many.proofs.points.row_at.Goals as goal

pub returns-then-two : goal.returns-then-two
returns-then-two c = let a = c.args in
    rw
    c.if-two.true
    (c.row2_of.ensures
    ∙ ap
    point_row2
    (c.eval2_step.ensures ∙ valid-answered2 a.clamps a.curve.degree a.curve.knots.now a.curve.points.now a.curve.rational a.curve.weights.now c.requires a.t))

pub returns : goal.returns
returns c = let a = c.args in
    rw
    c.if-two.false
    (c.row_of.ensures
    ∙ ap
    point_row
    (c.eval_step.ensures ∙ valid-answered a.clamps a.curve.degree a.curve.knots.now a.curve.points.now a.curve.rational a.curve.weights.now c.requires a.t))

-- `many::points::eval_each` meets its contract.
-- Assumes nothing.
use mathlib.Core.Path.{refl, ◌∙◌, ap}
use mathlib.Core.List.{[], ◌∷◌}
use Rattle.doubles.specs.Run.{at}
use Rattle.many.specs.Points.{width, numbers_of, number_at, numbers_at}
use Rattle.many.specs.declared.row.PointRow.{PointRow}
use Rattle.many.proofs.Said.{row-says}
use Rattle.many.proofs.Evaluated.{each_start, each_more}
use Rattle.many.proofs.points.eval_each.Goals as goal

pub loop-i-init : goal.loop-i-init
loop-i-init c = let a = c.args in
    each_start
    (number_at a.clamps a.curve.degree a.curve.knots.now a.curve.points.now a.curve.rational a.curve.weights.now a.two) (λ t. refl)
    (numbers_at a.clamps a.curve.degree a.curve.knots.now a.curve.points.now a.curve.rational a.curve.weights.now a.two) (width a.two)
    (λ t. (row-says a.clamps a.curve.degree a.curve.knots.now a.curve.points.now a.curve.rational a.curve.weights.now a.two t).count) a.ts.now a.numbers.now a.rows.now

pub loop-i-preserved : goal.loop-i-preserved
loop-i-preserved c = let l = c.loop-i in
    let q = c.requires in
    let a = c.args in
    let s = row-says a.clamps a.curve.degree a.curve.knots.now a.curve.points.now a.curve.rational a.curve.weights.now a.two (at a.ts.now l.i) in
    each_more
    (number_at a.clamps a.curve.degree a.curve.knots.now a.curve.points.now a.curve.rational a.curve.weights.now a.two) (λ t. refl)
    (numbers_at a.clamps a.curve.degree a.curve.knots.now a.curve.points.now a.curve.rational a.curve.weights.now a.two) (width a.two)
    (λ t. (row-says a.clamps a.curve.degree a.curve.knots.now a.curve.points.now a.curve.rational a.curve.weights.now a.two t).count) a.ts.now a.numbers.now a.rows.now q.ts_in_bounds q.two_in_bounds
    l.numbers l.rows l.i l.invariant c.loop-i-test.true _ _ _ _
    (ap (λ (x : PointRow). x.number ∷ []) c.row_at-row.ensures ∙ s.number)
    (ap (numbers_of a.two) c.row_at-row.ensures ∙ s.numbers) c.put_row.ensures.numbers_after
    c.put_row.ensures.rows_after

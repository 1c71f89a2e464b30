-- `many::points::eval_each` meets its contract.
-- Assumes nothing.
use Rattle.many.specs.Points.{width, number_at, numbers_at}
use Rattle.many.proofs.Evaluated.{InEach}
use Rattle.many.proofs.points.eval_each.Given as goal

abbrev pub invariant-loop-i : goal.invariant-loop-i
invariant-loop-i l = InEach (number_at l.clamps l.curve.degree l.curve.knots.now l.curve.points.now l.curve.rational l.curve.weights.now l.two) (numbers_at l.clamps l.curve.degree l.curve.knots.now l.curve.points.now l.curve.rational l.curve.weights.now l.two) (width l.two) l.ts l.initial.numbers l.initial.rows l.numbers l.rows l.i

-- `many::boxes::bound_each_by` meets its contract.
-- Assumes nothing.
use mathlib.Core.Path.{◌≡◌}
use Rattle.knots.specs.Curve.{count_of}
use Rattle.many.proofs.Bounded.{InSpans}
use Rattle.many.proofs.boxes.bound_each_by.Given as goal

abbrev pub invariant-loop-s : goal.invariant-loop-s
invariant-loop-s l = (l.count ≡ count_of l.curve.points.now) × InSpans l.alone l.curve.degree l.curve.knots.now l.curve.points.now l.curve.rational l.curve.weights.now l.initial.marks l.initial.boxes l.marks l.boxes l.i l.s

-- `elevation::segments::put_segments` meets its contract.
-- Assumes nothing.
use Rattle.elevation.specs.Passes.{breaks_left}
use Rattle.elevation.proofs.SegmentWalk.{InRest}
use Rattle.elevation.proofs.segments.put_segments.Given as goal

abbrev pub invariant-loop-t : goal.invariant-loop-t
invariant-loop-t l = InRest l.p l.e l.n l.knots l.work l.o l.rational l.fn.points l.fn.weights l.points l.weights (breaks_left l.t-iterator) l.first l.place

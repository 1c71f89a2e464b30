-- `elevation::put_knots::put_breaks` meets its contract.
-- Assumes nothing.
use Rattle.elevation.specs.Breaks.{breaks_of}
use Rattle.elevation.specs.Passes.{breaks_left}
use Rattle.elevation.proofs.KnotWalks.{InKnots}
use Rattle.elevation.proofs.put_knots.put_breaks.Given as goal

abbrev pub invariant-loop-t : goal.invariant-loop-t
invariant-loop-t l = InKnots l.p l.e l.knots (breaks_of l.p l.n l.knots) l.from l.initial.out l.out (breaks_left l.t-iterator) l.at

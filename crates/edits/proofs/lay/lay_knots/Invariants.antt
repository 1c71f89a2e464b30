-- `edits::lay::lay_knots` meets its contract.
-- Assumes nothing.
use Rattle.edits.proofs.IntoRun.{InKnots}
use Rattle.edits.proofs.lay.lay_knots.Given as goal

abbrev pub invariant-loop-i : goal.invariant-loop-i
invariant-loop-i l = InKnots l.a l.knots l.initial.work l.work l.i

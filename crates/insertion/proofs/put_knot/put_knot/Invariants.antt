-- `insertion::put_knot::put_knot` meets its contract.
-- Assumes nothing.
use Rattle.insertion.proofs.Storing.{InPut}
use Rattle.insertion.proofs.put_knot.put_knot.Given as goal

abbrev pub invariant-loop-i : goal.invariant-loop-i
invariant-loop-i l = InPut l.k l.m l.t l.initial.knots l.knots l.carry l.i

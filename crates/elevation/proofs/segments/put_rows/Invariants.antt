-- `elevation::segments::put_rows` meets its contract.
-- Assumes nothing.
use Rattle.elevation.specs.Passes.{control_in}
use Rattle.elevation.proofs.Putting.{InPut}
use Rattle.elevation.proofs.segments.put_rows.Given as goal

abbrev pub invariant-loop-i : goal.invariant-loop-i
invariant-loop-i l = InPut l.o l.rational (control_in l.rows) l.first l.m l.place l.initial.points l.initial.weights l.points l.weights l.i

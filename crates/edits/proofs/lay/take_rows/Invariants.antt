-- `edits::lay::take_rows` meets its contract.
-- Assumes nothing.
use Rattle.edits.proofs.IntoRun.{InTake}
use Rattle.edits.proofs.lay.take_rows.Given as goal

abbrev pub invariant-loop-i : goal.invariant-loop-i
invariant-loop-i l = InTake l.rational l.n l.rows l.initial.points l.initial.weights l.points l.weights l.i

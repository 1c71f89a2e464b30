-- `edits::rows::lift_rows` meets its contract.
-- Assumes nothing.
use Rattle.edits.specs.Work.{points_from, weights_from}
use Rattle.edits.proofs.LiftLoop.{InLift}
use Rattle.edits.specs.Rows.{lift_at}
use Rattle.edits.proofs.rows.lift_rows.Given as goal

abbrev pub invariant-loop-i : goal.invariant-loop-i
invariant-loop-i l = InLift l.rational (lift_at l.scale l.o (points_from l.n l.initial.rows) l.rational (weights_from l.rational l.n l.initial.rows)) l.n l.initial.rows l.rows l.i

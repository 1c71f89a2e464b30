-- `edits::lay::lay_rows` meets its contract.
-- Assumes nothing.
use Prim.Native.Nat.{◌/◌}
use lib.ListN.{length}
use Rattle.edits.proofs.LayLoop.{InLay}
use Rattle.edits.proofs.lay.lay_rows.Given as goal

abbrev pub invariant-loop-i : goal.invariant-loop-i
invariant-loop-i l = InLay (length l.points / 3) l.points l.rational l.weights l.initial.rows l.rows l.i

-- `insertion::lower::lower_rows` meets its contract.
-- Assumes nothing.
use Prim.Native.Nat.{◌+◌}
use Rattle.insertion.specs.Insert.{blend_at}
use Rattle.edits.specs.Work.{knots_from}
use Rattle.edits.specs.Passes.{row_of}
use Rattle.insertion.proofs.LowerLoop.{InLower}
use Rattle.insertion.proofs.lower.lower_rows.Given as goal

abbrev pub invariant-loop-i : goal.invariant-loop-i
invariant-loop-i l = InLower l.o l.rational
    (blend_at l.spot.p l.spot.k l.spot.s l.spot.t (knots_from l.a l.spot.p l.n l.initial.rows) (row_of l.rational l.initial.rows)) (l.n + 1) l.initial.rows l.rows l.fine l.before l.i

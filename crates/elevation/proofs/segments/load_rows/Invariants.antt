-- `elevation::segments::load_rows` meets its contract.
-- Assumes nothing.
use Prim.Native.Nat.{◌+◌}
use lib.ListN.{length}
use Rattle.edits.specs.Passes.{row_of}
use Rattle.elevation.specs.Passes.{RowsAre}
use Rattle.elevation.proofs.segments.load_rows.Given as goal

abbrev pub invariant-loop-i : goal.invariant-loop-i
invariant-loop-i l = RowsAre (λ j. row_of l.rational l.from (l.first + j)) l.i (length l.initial.rows) l.rows

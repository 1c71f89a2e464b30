-- `edits::rows::edge_row` meets its contract.
-- Assumes nothing.
use mathlib.Core.Path.{◌∙◌}
use native.Mathlib.Omega.{arith}
use Rattle.edits.proofs.RowReads.{rows-by, row_out}
use Rattle.edits.proofs.rows.edge_row.Goals as goal

pub returns-then-i-rows : goal.returns-then-i-rows
returns-then-i-rows c = let a = c.args in
    c.row_of.ensures
    ∙ rows-by
    a.rational a.rows.now a.i c.number_at-x.ensures c.number_at-y.ensures c.number_at.ensures
    c.number_at-w.ensures

pub returns : goal.returns
returns c = c.row_of-2.ensures ∙ row_out c.args.rational c.args.rows.now c.args.i (omega arith)

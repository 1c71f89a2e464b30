-- `many::row::row2_of` meets its contract.
-- Assumes nothing.
use mathlib.Core.Path.{◌∙◌, sym, ap}
use Rattle.many.specs.Points.{point_row2}
use Rattle.many.proofs.row.row2_of.Goals as goal

pub returns-in-Ok : goal.returns-in-Ok
returns-in-Ok c = ap point_row2 (sym c.in-Ok.is)

pub returns-in-Err : goal.returns-in-Err
returns-in-Err c = c.no_row.ensures ∙ ap point_row2 (sym c.in-Err.is)

-- `many::row::row_of` meets its contract.
-- Assumes nothing.
use mathlib.Core.Path.{◌∙◌, sym, ap}
use Rattle.many.specs.Points.{point_row}
use Rattle.many.proofs.Evaluated.{bare}
use Rattle.many.proofs.row.row_of.Goals as goal

pub returns-in-Ok : goal.returns-in-Ok
returns-in-Ok c = ap (bare 0 c.in-Ok.field-0.point c.in-Ok.field-0.d1) c.origin.ensures
    ∙ ap point_row (sym c.in-Ok.is)

pub returns-in-Err : goal.returns-in-Err
returns-in-Err c = c.no_row.ensures ∙ ap point_row (sym c.in-Err.is)

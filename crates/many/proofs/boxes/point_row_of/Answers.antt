-- `many::boxes::point_row_of` meets its contract.
-- Assumes nothing.
use mathlib.Core.Path.{◌∙◌, sym, ap}
use Rattle.many.specs.Spans.{point_box_row}
use Rattle.many.proofs.Bounded.{numbered_row}
use Rattle.many.proofs.boxes.point_row_of.Goals as goal

pub returns-in-Ok : goal.returns-in-Ok
returns-in-Ok c = ap (numbered_row 0) c.point_bounds.ensures ∙ ap point_box_row (sym c.in-Ok.is)

pub returns-in-Err : goal.returns-in-Err
returns-in-Err c = ap (numbered_row c.in-Err.r.number) c.no_bounds.ensures ∙ ap point_box_row (sym c.in-Err.is)

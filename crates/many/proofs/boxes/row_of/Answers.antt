-- `many::boxes::row_of` meets its contract.
-- Assumes nothing.
use mathlib.Core.Path.{◌∙◌, sym, ap}
use Rattle.many.specs.Spans.{box_row}
use Rattle.many.proofs.Bounded.{numbered_row}
use Rattle.many.proofs.boxes.row_of.Goals as goal

pub returns-in-Ok : goal.returns-in-Ok
returns-in-Ok c = ap box_row (sym c.in-Ok.is)

pub returns-in-Err : goal.returns-in-Err
returns-in-Err c = ap (numbered_row c.in-Err.r.number) c.no_bounds.ensures ∙ ap box_row (sym c.in-Err.is)

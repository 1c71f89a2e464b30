-- `many::boxes::no_bounds` meets its contract.
-- Assumes nothing.
use mathlib.Core.Path.{◌∙◌, ap}
use Rattle.many.specs.Spans.{point_bounds}
use Rattle.many.proofs.boxes.no_bounds.Goals as goal

pub returns : goal.returns
returns c = c.point_bounds.ensures ∙ ap point_bounds c.no_triple.ensures

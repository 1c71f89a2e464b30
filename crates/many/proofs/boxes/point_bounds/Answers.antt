-- `many::boxes::point_bounds` meets its contract.
-- Assumes nothing.
use mathlib.Core.Path.{ap}
use Rattle.many.proofs.Bounded.{beside}
use Rattle.many.proofs.boxes.point_bounds.Goals as goal

pub returns : goal.returns
returns c = ap (beside c.args.point) c.no_triple-t.ensures

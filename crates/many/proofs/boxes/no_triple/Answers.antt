-- `many::boxes::no_triple` meets its contract.
-- Assumes nothing.
use mathlib.Core.Path.{ap}
use lib.Ieee.{of_bits, is_nan}
use Rattle.interval.specs.Ops.{point_of}
use Rattle.many.proofs.Bounded.{all_of}
use Rattle.many.proofs.boxes.no_triple.Goals as goal

pub returns : goal.returns
unfolding point_of of_bits is_nan
returns c = ap all_of c.point-i.ensures

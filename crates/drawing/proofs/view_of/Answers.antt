-- The extremes of x and y, and how far they are apart.
-- Assumes nothing.
use mathlib.Core.Path.{refl}
use Rattle.drawing.specs.Drawing.{view_of}
use Rattle.drawing.proofs.view_of.Goals as goal

pub returns : goal.returns
unfolding view_of
returns c = rw (
  c.extent-2.ensures,
  c.extent.ensures,
  c.extreme-top.ensures,
  c.extreme-bottom.ensures,
  c.extreme-right.ensures,
  c.extreme-left.ensures,
) refl

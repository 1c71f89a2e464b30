-- Four tests.
-- Assumes nothing.
use mathlib.Core.Path.{refl}
use Rattle.drawing.specs.Drawing.{both_finite}
use Rattle.drawing.proofs.paths.both_finite.Goals as goal

pub returns : goal.returns
unfolding both_finite
returns c = rw (
  c.is_finite-4.ensures,
  c.hi-2.ensures,
  c.is_finite-3.ensures,
  c.lo-2.ensures,
  c.is_finite-2.ensures,
  c.hi.ensures,
  c.is_finite.ensures,
  c.lo.ensures,
)
    refl

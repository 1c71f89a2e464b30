-- `evaluate::curve::quotient_of` meets its contract.
-- Assumes nothing.
use mathlib.Core.Path.{refl}
use Rattle.evaluate.specs.Curve.{quotient}
use Rattle.evaluate.proofs.curve.quotient_of.Goals as goal

pub returns : goal.returns
unfolding quotient
returns c = refl

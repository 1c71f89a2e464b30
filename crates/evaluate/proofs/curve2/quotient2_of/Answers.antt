-- `evaluate::curve2::quotient2_of` meets its contract.
-- Assumes nothing.
use mathlib.Core.Path.{refl}
use Rattle.evaluate.specs.Curve2.{quotient2}
use Rattle.evaluate.proofs.curve2.quotient2_of.Goals as goal

pub returns : goal.returns
unfolding quotient2
returns c = refl

-- `evaluate::sums::plus_of` meets its contract.
-- Assumes nothing.
use mathlib.Core.Path.{refl}
use Rattle.evaluate.specs.Controls.{plus}
use Rattle.evaluate.proofs.sums.plus_of.Goals as goal

pub returns : goal.returns
unfolding plus
returns c = refl

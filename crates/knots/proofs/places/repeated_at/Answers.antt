-- `knots::places::repeated_at` meets its contract.
-- Assumes nothing.
use mathlib.Core.Path.{sym}
use native.Mathlib.Omega.{arith}
use Rattle.knots.specs.Knots.{repeated_at}
use Rattle.knots.proofs.Below.{off-none}
use Rattle.knots.proofs.places.repeated_at.Goals as goal

pub returns-then-xs-degree : goal.returns-then-xs-degree
unfolding repeated_at
returns-then-xs-degree c = sym (off-none _ _ (omega arith))

pub returns : goal.returns
unfolding repeated_at
returns c = c.first_pair.ensures

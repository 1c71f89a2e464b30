-- `knots::places::is_before` meets its contract.
-- Assumes nothing.
use mathlib.Core.Path.{refl}
use Rattle.knots.proofs.places.is_before.Goals as goal

pub returns-then-strict : goal.returns-then-strict
returns-then-strict c = rw c.if-strict.true c.is_below.ensures

pub returns : goal.returns
returns c = rw c.if-strict.false refl

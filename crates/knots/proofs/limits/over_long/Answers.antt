-- `knots::limits::over_long` meets its contract: by cases on whether the run is given.
-- Assumes nothing.
use Rattle.knots.specs.Curve.{over_long}
use Rattle.knots.proofs.limits.over_long.Goals as goal

pub returns-then-given : goal.returns-then-given
unfolding over_long
returns-then-given c = simp c.if-given.true

pub returns-else-given : goal.returns-else-given
unfolding over_long
returns-else-given c = simp c.if-given.false

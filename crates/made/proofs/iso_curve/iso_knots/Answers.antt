-- `made::iso_curve::iso_knots` meets its contract: the run is chosen by the direction alone.
-- Assumes nothing.

use Rattle.made.proofs.iso_curve.iso_knots.Goals as goal

pub returns-then-constant_u : goal.returns-then-constant_u
returns-then-constant_u c = simp c.if-constant_u.true

pub returns-else-constant_u : goal.returns-else-constant_u
returns-else-constant_u c = simp c.if-constant_u.false

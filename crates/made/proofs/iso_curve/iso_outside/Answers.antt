-- `made::iso_curve::iso_outside` meets its contract.
-- Assumes nothing.
use Rattle.std.proofs.Common.{sym, ◌∙◌}
use Rattle.made.specs.IsoCurve.{iso_outside}
use Rattle.made.proofs.iso_curve.iso_outside.Goals as goal

pub returns-then-not-is_finite : goal.returns-then-not-is_finite
unfolding iso_outside
returns-then-not-is_finite c = simp (sym c.is_finite.ensures ∙ c.if-not-is_finite.true, c.if-not-is_finite.true)

pub returns-else-not-is_finite : goal.returns-else-not-is_finite
unfolding iso_outside
returns-else-not-is_finite c = simp (sym c.is_finite.ensures ∙ c.if-not-is_finite.false) c.is_outside.ensures

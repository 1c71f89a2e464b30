-- `knots::curve::any_long` meets its contract: each return is the first run that is too long, or the last run's test.
-- Assumes nothing.
use mathlib.Core.Path.{sym, ◌∙◌}
use Rattle.knots.specs.Curve.{any_long}
use Rattle.knots.proofs.curve.any_long.Goals as goal

pub returns-then-over_long : goal.returns-then-over_long
unfolding any_long
returns-then-over_long c = simp (sym c.over_long.ensures ∙ c.if-over_long.true)

pub returns-then-over_long-2 : goal.returns-then-over_long-2
unfolding any_long
returns-then-over_long-2 c = simp (
  sym c.over_long.ensures ∙ c.if-over_long.false,
  sym c.over_long-2.ensures ∙ c.if-over_long-2.true,
)

pub returns : goal.returns
unfolding any_long
returns c = simp (
  sym c.over_long.ensures ∙ c.if-over_long.false,
  sym c.over_long-2.ensures ∙ c.if-over_long-2.false,
) c.over_long-3.ensures

-- `knots::knots::is_ordered` meets its contract: by what its two tests say.
-- Assumes nothing.
use mathlib.Core.Path.{sym, ◌∙◌}
use native.Mathlib.Omega.{arith}
use Rattle.knots.specs.Below.{all_below}
use Rattle.knots.specs.Knots.{all_finite, in_order, ordered}
use Rattle.knots.proofs.knots.is_ordered.Goals as goal

pub returns-then-xs-eq0 : goal.returns-then-xs-eq0
unfolding ordered all_finite in_order all_below
returns-then-xs-eq0 c = rw c.if-xs-eq0.true

pub in_order-requires : goal.in_order-requires
in_order-requires c = let h = c.if-xs-eq0.false in omega arith

pub returns-then-all_finite : goal.returns-then-all_finite
unfolding ordered
returns-then-all_finite c = simp (sym c.all_finite.ensures ∙ c.if-all_finite.true) c.in_order.ensures

pub returns-else-all_finite : goal.returns-else-all_finite
unfolding ordered
returns-else-all_finite c = simp (sym c.all_finite.ensures ∙ c.if-all_finite.false)

-- `runs::vector::finite_vector` meets its contract.
-- Assumes nothing.
use mathlib.Core.Path.{sym, ◌∙◌}
use Rattle.runs.specs.Point.{finite_vector}
use Rattle.runs.proofs.vector.finite_vector.Goals as goal

pub returns-then-is_finite-2 : goal.returns-then-is_finite-2
unfolding finite_vector
returns-then-is_finite-2 c = simp
    (sym c.is_finite.ensures ∙ c.if-is_finite.true, sym c.is_finite-then-is_finite.ensures ∙ c.if-is_finite-2.true) c.is_finite-then-is_finite-2.ensures

pub returns-else-is_finite-2 : goal.returns-else-is_finite-2
unfolding finite_vector
returns-else-is_finite-2 c = simp (sym c.is_finite.ensures ∙ c.if-is_finite.true, sym c.is_finite-then-is_finite.ensures ∙ c.if-is_finite-2.false)

pub returns-else-is_finite : goal.returns-else-is_finite
unfolding finite_vector
returns-else-is_finite c = simp (sym c.is_finite.ensures ∙ c.if-is_finite.false)

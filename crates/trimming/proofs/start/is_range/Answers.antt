use mathlib.Core.Path.{sym, ◌∙◌}
use Rattle.trimming.specs.Trim.{in_range}
use Rattle.trimming.proofs.start.is_range.Goals as goal

pub returns-then-not-is_finite : goal.returns-then-not-is_finite
unfolding in_range
returns-then-not-is_finite c = simp (sym c.is_finite.ensures ∙ c.if-not-is_finite.true)

pub returns-then-not-is_finite-2 : goal.returns-then-not-is_finite-2
unfolding in_range
returns-then-not-is_finite-2 c = simp (sym c.is_finite.ensures ∙ c.if-not-is_finite.false, sym c.is_finite-2.ensures ∙ c.if-not-is_finite-2.true)

pub returns-then-lo-hi : goal.returns-then-lo-hi
unfolding in_range
returns-then-lo-hi c = simp (
  sym c.is_finite.ensures ∙ c.if-not-is_finite.false,
  sym c.is_finite-2.ensures ∙ c.if-not-is_finite-2.false,
  c.if-lo-hi.true,
)

pub returns-then-lo-a : goal.returns-then-lo-a
unfolding in_range
returns-then-lo-a c = simp (
  sym c.is_finite.ensures ∙ c.if-not-is_finite.false,
  sym c.is_finite-2.ensures ∙ c.if-not-is_finite-2.false,
  c.if-lo-hi.false,
  c.if-lo-a.true,
)

pub returns : goal.returns
unfolding in_range
returns c = simp (
  sym c.is_finite.ensures ∙ c.if-not-is_finite.false,
  sym c.is_finite-2.ensures ∙ c.if-not-is_finite-2.false,
  c.if-lo-hi.false,
  c.if-lo-a.false,
)

use Rattle.std.proofs.Common.{◌≡◌, ℕ, ◌/◌, sym, ap, ◌∙◌}
use Rattle.std.specs.Prelude.{Err}
use borrow.Author.Tests.{eq-eqb, ne_eqb, le-leb, lt-leb, lt-ltb, le-ltb, eqb-true}
use Rattle.knots.specs.Refusal.{refuse, placed, checked, PointNotFinite, WeightBad, KnotsUnordered, KnotRepeated}
use Rattle.knots.specs.Span.{domain_refusal}
use Rattle.knots.proofs.span.domain_refusal.Goals as goal

pub returns-then-not-is_finite : goal.returns-then-not-is_finite
unfolding domain_refusal checked
returns-then-not-is_finite c = simp (sym c.is_finite.ensures ∙ c.if-not-is_finite.true) (ap Err c.refuse.ensures)

pub returns-then-clamps : goal.returns-then-clamps
unfolding domain_refusal checked
returns-then-clamps c = simp (sym c.is_finite.ensures ∙ c.if-not-is_finite.false, c.if-clamps.true)

pub returns-then-is_outside : goal.returns-then-is_outside
unfolding domain_refusal checked
returns-then-is_outside c = simp (sym c.is_finite.ensures ∙ c.if-not-is_finite.false, c.if-clamps.false, sym c.is_outside.ensures ∙ c.if-is_outside.true) (ap Err c.refuse-then-is_outside.ensures)

pub returns : goal.returns
unfolding domain_refusal checked
returns c = simp (sym c.is_finite.ensures ∙ c.if-not-is_finite.false, c.if-clamps.false, sym c.is_outside.ensures ∙ c.if-is_outside.false)

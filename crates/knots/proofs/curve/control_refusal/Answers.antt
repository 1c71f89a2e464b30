use Rattle.std.proofs.Common.{◌≡◌, ℕ, ◌/◌, sym, ap, ◌∙◌}
use Rattle.std.specs.Prelude.{Err}
use borrow.Author.Tests.{eq-eqb, ne_eqb, le-leb, lt-leb, lt-ltb, le-ltb, eqb-true}
use Rattle.knots.specs.Refusal.{checked}
use Rattle.knots.specs.Placed.{control_placed}
use Rattle.knots.specs.Curve.{control_refusal}
use Rattle.knots.proofs.curve.control_refusal.Goals as goal

pub returns-then-not-all_finite : goal.returns-then-not-all_finite
unfolding control_refusal checked control_placed
returns-then-not-all_finite c = simp (sym c.all_finite.ensures ∙ c.if-not-all_finite.true) (ap Err (c.control_placed.ensures ∙ ap (λ (k : ℕ). control_placed k c.args.points.now c.args.weights.now) c.number-number.ensures))

pub returns-then-not-rational : goal.returns-then-not-rational
unfolding control_refusal checked
returns-then-not-rational c = simp (sym c.all_finite.ensures ∙ c.if-not-all_finite.false, c.if-not-rational.true)

pub returns-then-weights-count : goal.returns-then-weights-count
unfolding control_refusal checked
returns-then-weights-count c = simp (sym c.all_finite.ensures ∙ c.if-not-all_finite.false, c.if-not-rational.false, ne_eqb _ _ c.if-weights-count.true) (ap Err c.refuse.ensures)

pub returns-then-not-all_weights : goal.returns-then-not-all_weights
unfolding control_refusal checked control_placed
returns-then-not-all_weights c = simp (sym c.all_finite.ensures ∙ c.if-not-all_finite.false, c.if-not-rational.false, eq-eqb _ _ c.if-weights-count.false, sym c.all_weights.ensures ∙ c.if-not-all_weights.true) (ap Err (c.control_placed-then-not-all_weights.ensures ∙ ap (λ (k : ℕ). control_placed k c.args.points.now c.args.weights.now) c.number-number-then-not-all_weights.ensures))

pub returns : goal.returns
unfolding control_refusal checked
returns c = simp (sym c.all_finite.ensures ∙ c.if-not-all_finite.false, c.if-not-rational.false, eq-eqb _ _ c.if-weights-count.false, sym c.all_weights.ensures ∙ c.if-not-all_weights.false)

use Rattle.std.proofs.Common.{◌≡◌, ℕ, ◌/◌, sym, ap, ◌∙◌}
use Rattle.std.specs.Prelude.{Err}
use borrow.Author.Tests.{eq-eqb, ne_eqb, le-leb, lt-leb, lt-ltb, le-ltb, eqb-true}
use Rattle.knots.specs.Refusal.{checked}
use Rattle.knots.specs.Placed.{knot_placed}
use Rattle.knots.specs.Knots.{order_refusal}
use Rattle.knots.proofs.knots.order_refusal.Goals as goal

pub returns-then-not-ordered : goal.returns-then-not-ordered
unfolding order_refusal checked knot_placed
returns-then-not-ordered c = simp (sym c.is_ordered-ordered.ensures ∙ c.if-not-ordered.true) (ap Err (c.knot_placed.ensures ∙ ap (λ (k : ℕ). knot_placed k c.args.degree c.args.knots.now) c.number-number.ensures))

pub returns-then-lo-hi : goal.returns-then-lo-hi
unfolding order_refusal checked
returns-then-lo-hi c = simp (sym c.is_ordered-ordered.ensures ∙ c.if-not-ordered.false, c.if-lo-hi.true) (ap Err c.refuse.ensures)

pub returns-then-not-is_finite : goal.returns-then-not-is_finite
unfolding order_refusal checked
returns-then-not-is_finite c = simp (sym c.is_ordered-ordered.ensures ∙ c.if-not-ordered.false, c.if-lo-hi.false, sym c.is_finite.ensures ∙ c.if-not-is_finite.true) (ap Err c.refuse-then-not-is_finite.ensures)

pub returns-then-not-apart_by : goal.returns-then-not-apart_by
unfolding order_refusal checked knot_placed
returns-then-not-apart_by c = simp (sym c.is_ordered-ordered.ensures ∙ c.if-not-ordered.false, c.if-lo-hi.false, sym c.is_finite.ensures ∙ c.if-not-is_finite.false, sym c.apart_by.ensures ∙ c.if-not-apart_by.true) (ap Err (c.knot_placed-then-not-apart_by.ensures ∙ ap (λ (k : ℕ). knot_placed k c.args.degree c.args.knots.now) c.number-number-then-not-apart_by.ensures))

pub returns : goal.returns
unfolding order_refusal checked
returns c = simp (sym c.is_ordered-ordered.ensures ∙ c.if-not-ordered.false, c.if-lo-hi.false, sym c.is_finite.ensures ∙ c.if-not-is_finite.false, sym c.apart_by.ensures ∙ c.if-not-apart_by.false)

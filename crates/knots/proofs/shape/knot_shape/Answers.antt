use Rattle.std.proofs.Common.{◌≡◌, ℕ, ◌/◌, sym, ap, ◌∙◌}
use Rattle.std.specs.Prelude.{Err}
use borrow.Author.Tests.{eq-eqb, ne_eqb, le-leb, lt-leb, lt-ltb, le-ltb, eqb-true}
use Rattle.knots.specs.Refusal.{refuse, placed, checked, PointNotFinite, WeightBad, KnotsUnordered, KnotRepeated}
use Rattle.knots.specs.Shape.{knot_shape}
use Rattle.knots.proofs.shape.knot_shape.Goals as goal

pub returns-then-degree-eq0 : goal.returns-then-degree-eq0
unfolding knot_shape checked
returns-then-degree-eq0 c = simp (eq-eqb _ 0 c.if-degree-eq0.true) (ap Err c.refuse.ensures)

pub returns-then-count-degree : goal.returns-then-count-degree
unfolding knot_shape checked
returns-then-count-degree c = simp (ne_eqb _ 0 c.if-degree-eq0.false, le-leb _ _ c.if-count-degree.true) (ap Err c.refuse-then-count-degree.ensures)

pub returns-then-not-is_sum : goal.returns-then-not-is_sum
unfolding knot_shape checked
returns-then-not-is_sum c = simp (ne_eqb _ 0 c.if-degree-eq0.false, lt-leb _ _ c.if-count-degree.false, sym c.is_sum.ensures ∙ c.if-not-is_sum.true) (ap Err c.refuse-then-not-is_sum.ensures)

pub returns : goal.returns
unfolding knot_shape checked
returns c = simp (ne_eqb _ 0 c.if-degree-eq0.false, lt-leb _ _ c.if-count-degree.false, sym c.is_sum.ensures ∙ c.if-not-is_sum.false)

use Rattle.std.proofs.Common.{◌≡◌, ℕ, ◌/◌, sym, ap, ◌∙◌}
use Rattle.std.specs.Prelude.{Err}
use borrow.Author.Tests.{eq-eqb, ne_eqb, le-leb, lt-leb, lt-ltb, le-ltb, eqb-true}
use Rattle.knots.specs.Refusal.{refuse, placed, checked, PointNotFinite, WeightBad, KnotsUnordered, KnotRepeated}
use Rattle.knots.specs.Shape.{weight_shape}
use Rattle.knots.proofs.shape.weight_shape.Goals as goal

pub returns-then-not-rational : goal.returns-then-not-rational
unfolding weight_shape checked
returns-then-not-rational c = simp c.if-not-rational.true

pub returns-then-weights-count : goal.returns-then-weights-count
unfolding weight_shape checked
returns-then-weights-count c = simp (c.if-not-rational.false, ne_eqb _ _ c.if-weights-count.true) (ap Err c.refuse.ensures)

pub returns : goal.returns
unfolding weight_shape checked
returns c = simp (c.if-not-rational.false, eq-eqb _ _ c.if-weights-count.false)

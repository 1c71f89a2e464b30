use Rattle.std.proofs.Common.{◌≡◌, ℕ, ◌/◌, sym, ap, ◌∙◌}
use Rattle.std.specs.Prelude.{Err}
use borrow.Author.Tests.{eq-eqb, ne_eqb, le-leb, lt-leb, lt-ltb, le-ltb, eqb-true}
use Rattle.knots.specs.Refusal.{refuse, placed, checked, PointNotFinite, WeightBad, KnotsUnordered, KnotRepeated}
use Rattle.std.proofs.lemmas.Result.{err_from_is_err_and}
use Rattle.knots.specs.Shape.{curve_shape}
use Rattle.knots.proofs.Refusals.{skip, refused-first}
use Rattle.knots.proofs.shape.curve_shape.Goals as goal

pub returns-then-curve-ne0 : goal.returns-then-curve-ne0
unfolding curve_shape checked
returns-then-curve-ne0 c = simp (ne_eqb _ 0 c.if-curve-ne0.true) (ap Err c.refuse.ensures)

pub returns-in_err-knot_shape : goal.returns-in_err-knot_shape
unfolding curve_shape
returns-in_err-knot_shape c = let p = err_from_is_err_and c.from_residual.result c.from_residual.ensures.1 in rw (p.1, p.2) (simp (eq-eqb _ 0 c.if-curve-ne0.false) (refused-first _ _ c.in_err-knot_shape.ensures))

pub returns : goal.returns
unfolding curve_shape
returns c = simp (eq-eqb _ 0 c.if-curve-ne0.false, skip _ c.in_ok-knot_shape.ensures) c.weight_shape.ensures

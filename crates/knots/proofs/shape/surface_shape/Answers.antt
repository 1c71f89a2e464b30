use Rattle.std.proofs.Common.{◌≡◌, ℕ, ◌/◌, sym, ap, ◌∙◌}
use Rattle.std.specs.Prelude.{Err}
use borrow.Author.Tests.{eq-eqb, ne_eqb, le-leb, lt-leb, lt-ltb, le-ltb, eqb-true}
use Rattle.knots.specs.Refusal.{refuse, placed, checked, PointNotFinite, WeightBad, KnotsUnordered, KnotRepeated}
use Rattle.std.proofs.lemmas.Result.{err_from_is_err_and}
use Rattle.knots.specs.Shape.{surface_shape}
use Rattle.knots.proofs.Refusals.{skip, refused-first}
use Rattle.knots.proofs.shape.surface_shape.Goals as goal

pub returns-then-surface-ne0 : goal.returns-then-surface-ne0
unfolding surface_shape checked
returns-then-surface-ne0 c = simp (ne_eqb _ 0 c.if-surface-ne0.true) (ap Err c.refuse.ensures)

pub returns-then-not-is_product : goal.returns-then-not-is_product
unfolding surface_shape checked
returns-then-not-is_product c = simp (eq-eqb _ 0 c.if-surface-ne0.false, sym c.is_product.ensures ∙ c.if-not-is_product.true) (ap Err c.refuse-then-not-is_product.ensures)

pub returns-in_err-along : goal.returns-in_err-along
unfolding surface_shape
returns-in_err-along c = let p = err_from_is_err_and c.from_residual.result c.from_residual.ensures.1 in rw (p.1, p.2) (simp (eq-eqb _ 0 c.if-surface-ne0.false, sym c.is_product.ensures ∙ c.if-not-is_product.false) (refused-first _ _ (c.in_err-along.ensures _ c.knot_shape-u.ensures)))

pub returns-in_err-along-2 : goal.returns-in_err-along-2
unfolding surface_shape
returns-in_err-along-2 c = let p = err_from_is_err_and c.from_residual-in_err-along-2.result c.from_residual-in_err-along-2.ensures.1 in rw (p.1, p.2) (simp (eq-eqb _ 0 c.if-surface-ne0.false, sym c.is_product.ensures ∙ c.if-not-is_product.false, skip _ (c.in_ok-along.ensures _ c.knot_shape-u.ensures)) (refused-first _ _ (c.in_err-along-2.ensures _ c.knot_shape-v.ensures)))

pub returns : goal.returns
unfolding surface_shape
returns c = simp (eq-eqb _ 0 c.if-surface-ne0.false, sym c.is_product.ensures ∙ c.if-not-is_product.false, skip _ (c.in_ok-along.ensures _ c.knot_shape-u.ensures), skip _ (c.in_ok-along-2.ensures _ c.knot_shape-v.ensures)) c.weight_shape.ensures

-- `evaluate::refusals::step_refusal` meets its contract.
-- Assumes nothing.
use Rattle.std.proofs.lemmas.Result.{err_from_is_err_and}
use Rattle.knots.proofs.Refusals.{skip, refused-first}
use Rattle.evaluate.specs.Curve.{step_refusal}
use Rattle.evaluate.proofs.refusals.step_refusal.Goals as goal

pub returns-in_err-curve_shape : goal.returns-in_err-curve_shape
unfolding step_refusal
returns-in_err-curve_shape c = let p = err_from_is_err_and c.from_residual.result c.from_residual.ensures.1 in rw (p.1, p.2) (refused-first _ _ c.in_err-curve_shape.ensures)

pub returns : goal.returns
unfolding step_refusal
returns c = simp (skip _ c.in_ok-curve_shape.ensures) c.parameter_refusal.ensures

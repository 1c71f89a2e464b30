-- `evaluate::surface::eval_surface_clamped` meets its contract.
-- Assumes nothing.
use Rattle.std.proofs.lemmas.Result.{err_from_is_err_and}
use Rattle.knots.specs.Span.{clamping}
use Rattle.knots.proofs.Refusals.{let_by}
use Rattle.evaluate.proofs.Surfaces.{surface-eval-fits, surface-eval-refused, surface-eval-is}
use Rattle.evaluate.proofs.surface.eval_surface_clamped.Goals as goal

pub returns-in_err-surface_eval_refusal : goal.returns-in_err-surface_eval_refusal
returns-in_err-surface_eval_refusal c = let a = c.args in
    let p = err_from_is_err_and c.from_residual.result c.from_residual.ensures.1 in rw (p.1, p.2)
    (surface-eval-refused a.surface.u_degree a.surface.v_degree a.surface.u_knots.now a.surface.v_knots.now a.surface.u_count a.surface.v_count a.surface.points.now a.surface.rational a.surface.weights.now clamping a.u a.v c.in_err-surface_eval_refusal.ensures)

pub surface_found-requires : goal.surface_found-requires
surface_found-requires c = let a = c.args in
    let o = surface-eval-fits a.surface.u_degree a.surface.v_degree a.surface.u_knots.now a.surface.v_knots.now a.surface.u_count a.surface.v_count a.surface.points.now a.surface.rational a.surface.weights.now clamping a.u a.v (let_by _ c.in_ok-surface_eval_refusal.ensures) in
    record { p_bound = o.0; q_bound = o.1.0; weights_value = o.1.1 }

pub returns : goal.returns
returns c = let a = c.args in
    surface-eval-is a.surface.u_degree a.surface.v_degree a.surface.u_knots.now a.surface.v_knots.now a.surface.u_count a.surface.v_count a.surface.points.now a.surface.rational a.surface.weights.now clamping a.u a.v (let_by _ c.in_ok-surface_eval_refusal.ensures) _ c.surface_found.ensures

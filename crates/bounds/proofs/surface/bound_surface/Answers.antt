use Rattle.std.proofs.lemmas.Result.{err_from_is_err_and}
use Rattle.std.specs.Prelude.{Err}
use mathlib.Core.Path.{ap}
use Rattle.bounds.specs.Surface.{surface_of}
use Rattle.knots.proofs.Refusals.{let_by, stopped_by, stop, skip}
use Rattle.bounds.proofs.Promised.{surface-promised}
use Rattle.bounds.proofs.surface.bound_surface.Goals as goal

pub returns-in_err-surface_refusal : goal.returns-in_err-surface_refusal
unfolding surface_of
returns-in_err-surface_refusal c = let a = c.args in
    let p = err_from_is_err_and c.from_residual.result c.from_residual.ensures.1 in
    let h = c.in_err-surface_refusal.ensures in
    let all = surface-promised a.surface.u_degree a.surface.v_degree a.surface.u_knots.now a.surface.v_knots.now a.surface.u_count a.surface.v_count a.surface.points.now a.surface.weights.now a.surface.rational a.u_lo a.u_hi a.v_lo a.v_hi c.from_residual.result
    (rw (p.1, p.2, stop _ h) (ap Err (stopped_by _ h).0)) in
    record { value = all.0; surface_holds = all.1.0; not_idle = all.1.1 }

pub bound_valid-requires : goal.bound_valid-requires
bound_valid-requires c = let_by _ c.in_ok-surface_refusal.ensures

pub returns : goal.returns
unfolding surface_of
returns c = let a = c.args in
    let all = surface-promised a.surface.u_degree a.surface.v_degree a.surface.u_knots.now a.surface.v_knots.now a.surface.u_count a.surface.v_count a.surface.points.now a.surface.weights.now a.surface.rational a.u_lo a.u_hi a.v_lo a.v_hi _
    (rw (skip _ c.in_ok-surface_refusal.ensures) c.bound_valid.ensures) in
    record { value = all.0; surface_holds = all.1.0; not_idle = all.1.1 }

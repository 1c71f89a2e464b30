-- `made::iso_curve::iso_start` meets its contract.
-- Assumes nothing.
use Rattle.std.proofs.lemmas.Result.{err_from_is_err_and}
use Rattle.knots.proofs.Refusals.{let_by, skip, refused-first}
use Rattle.knots.proofs.Surfaces.{valid-surface}
use Rattle.made.specs.IsoCurve.{iso_start}
use Rattle.made.proofs.IsoCurves.{few-u, few-v}
use Rattle.made.proofs.iso_curve.iso_start.Goals as goal

pub returns-in_err-surface_refusal : goal.returns-in_err-surface_refusal
unfolding iso_start
returns-in_err-surface_refusal c = let p = err_from_is_err_and c.from_residual.result c.from_residual.ensures.1 in rw (p.1, p.2) (refused-first _ _ c.in_err-surface_refusal.ensures)

pub returns-in_err-degrees_refusal : goal.returns-in_err-degrees_refusal
unfolding iso_start
returns-in_err-degrees_refusal c =
    let p = err_from_is_err_and c.from_residual-in_err-degrees_refusal.result c.from_residual-in_err-degrees_refusal.ensures.1 in rw (p.1, p.2)
    (simp (skip _ c.in_ok-surface_refusal.ensures) (refused-first _ _ c.in_err-degrees_refusal.ensures))

pub along_start-requires : goal.along_start-requires
along_start-requires c = let a = c.args in
    let s =
    valid-surface
    a.surface.u_degree a.surface.v_degree a.surface.u_knots.now a.surface.v_knots.now a.surface.u_count a.surface.v_count a.surface.points.now a.surface.rational a.surface.weights.now
    (let_by _ c.in_ok-surface_refusal.ensures) in
    few-v a.surface.u_degree a.surface.v_degree a.surface.u_knots.now a.surface.v_knots.now a.surface.u_count a.surface.v_count a.surface.points.now a.surface.rational a.surface.weights.now s

pub returns-then-constant_u : goal.returns-then-constant_u
unfolding iso_start
returns-then-constant_u c = simp (skip _ c.in_ok-surface_refusal.ensures, skip _ c.in_ok-degrees_refusal.ensures, c.if-constant_u.true) c.along_start.ensures

pub along_start-requires-2 : goal.along_start-requires-2
along_start-requires-2 c = let a = c.args in
    let s =
    valid-surface
    a.surface.u_degree a.surface.v_degree a.surface.u_knots.now a.surface.v_knots.now a.surface.u_count a.surface.v_count a.surface.points.now a.surface.rational a.surface.weights.now
    (let_by _ c.in_ok-surface_refusal.ensures) in
    few-u a.surface.u_degree a.surface.v_degree a.surface.u_knots.now a.surface.v_knots.now a.surface.u_count a.surface.v_count a.surface.points.now a.surface.rational a.surface.weights.now s

pub returns : goal.returns
unfolding iso_start
returns c = simp (skip _ c.in_ok-surface_refusal.ensures, skip _ c.in_ok-degrees_refusal.ensures, c.if-constant_u.false) c.along_start-2.ensures

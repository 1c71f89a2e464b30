use Rattle.std.proofs.lemmas.Result.{err_from_is_err_and}
use mathlib.Core.Path.{ap, ◌∙◌}
use Rattle.bounds.specs.Curve.{span_bound}
use Rattle.bounds.specs.Point.{point_only}
use Rattle.bounds.proofs.Asked.{curve-refused, range-refused, curve-asked, curve-is}
use Rattle.bounds.proofs.Points.{only-bounded, point-promised}
use Rattle.bounds.proofs.point.bound_point.Goals as goal

pub returns-in_err-curve_refusal : goal.returns-in_err-curve_refusal
returns-in_err-curve_refusal c = let a = c.args in
    let p = err_from_is_err_and c.from_residual.result c.from_residual.ensures.1 in
    let all = point-promised a.curve.degree a.curve.knots.now a.curve.points.now a.curve.weights.now a.curve.rational a.lo a.hi c.from_residual.result
    (rw (p.1, p.2) (ap point_only (curve-refused a.curve.degree a.curve.knots.now a.curve.points.now a.curve.weights.now a.curve.rational a.lo a.hi c.in_err-curve_refusal.ensures))) in
    record { value = all.0; point_holds = all.1.0; not_idle = all.1.1 }

pub returns-in_err-range_refusal : goal.returns-in_err-range_refusal
returns-in_err-range_refusal c = let a = c.args in
    let p = err_from_is_err_and c.from_residual-in_err-range_refusal.result c.from_residual-in_err-range_refusal.ensures.1 in
    let all = point-promised a.curve.degree a.curve.knots.now a.curve.points.now a.curve.weights.now a.curve.rational a.lo a.hi c.from_residual-in_err-range_refusal.result
    (rw (p.1, p.2) (ap point_only
    (range-refused a.curve.degree a.curve.knots.now a.curve.points.now a.curve.weights.now a.curve.rational a.lo a.hi c.span_over-s.result c.in_ok-curve_refusal.ensures c.span_over-s.ensures c.in_err-range_refusal.ensures))) in
    record { value = all.0; point_holds = all.1.0; not_idle = all.1.1 }

pub point_on-requires : goal.point_on-requires
point_on-requires c = let a = c.args in
    let k = curve-asked a.curve.degree a.curve.knots.now a.curve.points.now a.curve.weights.now a.curve.rational a.lo a.hi c.span_over-s.result c.in_ok-curve_refusal.ensures c.span_over-s.ensures c.in_ok-range_refusal.ensures in
    record { degree_bound = k.small; degree_le_s = k.first; degree_in_bounds = k.room; s_bound = k.few }

pub returns : goal.returns
returns c = let a = c.args in
    let all = point-promised a.curve.degree a.curve.knots.now a.curve.points.now a.curve.weights.now a.curve.rational a.lo a.hi _
    (c.point_on.ensures ∙ (only-bounded (span_bound a.curve.degree c.span_over-s.result a.curve.knots.now a.curve.points.now a.curve.weights.now a.curve.rational a.lo a.hi)
    ∙ ap point_only (curve-is a.curve.degree a.curve.knots.now a.curve.points.now a.curve.weights.now a.curve.rational a.lo a.hi c.span_over-s.result c.in_ok-curve_refusal.ensures c.span_over-s.ensures c.in_ok-range_refusal.ensures))) in
    record { value = all.0; point_holds = all.1.0; not_idle = all.1.1 }

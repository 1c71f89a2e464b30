use Rattle.std.proofs.lemmas.Result.{err_from_is_err_and}
use mathlib.Core.Path.{ap, ◌∙◌}
use Rattle.bounds.specs.Curve.{span_bound}
use Rattle.bounds.specs.Point.{point_only}
use Rattle.bounds.proofs.Asked.{start-refused, start-asked, start-is}
use Rattle.bounds.proofs.Points.{only-bounded, point-step-promised}
use Rattle.bounds.proofs.point.point_span.Goals as goal

pub returns-in_err-start_refusal : goal.returns-in_err-start_refusal
returns-in_err-start_refusal c = let a = c.args in
    let p = err_from_is_err_and c.from_residual.result c.from_residual.ensures.1 in
    let all = point-step-promised a.curve.degree a.span a.curve.knots.now a.curve.points.now a.curve.weights.now a.curve.rational a.lo a.hi c.from_residual.result
    (rw (p.1, p.2) (ap point_only (start-refused a.curve.degree a.curve.knots.now a.curve.points.now a.curve.weights.now a.curve.rational a.lo a.hi a.span c.in_err-start_refusal.ensures))) in
    record { value = all.0; point_holds_on = all.1.0; not_idle = all.1.1 }

pub point_on-requires : goal.point_on-requires
point_on-requires c = let a = c.args in
    let k = start-asked a.curve.degree a.curve.knots.now a.curve.points.now a.curve.weights.now a.curve.rational a.lo a.hi a.span c.in_ok-start_refusal.ensures in
    record { degree_bound = k.small; degree_le_s = k.first; degree_in_bounds = k.room; s_bound = k.few }

pub returns : goal.returns
returns c = let a = c.args in
    let all = point-step-promised a.curve.degree a.span a.curve.knots.now a.curve.points.now a.curve.weights.now a.curve.rational a.lo a.hi _
    (c.point_on.ensures ∙ (only-bounded (span_bound a.curve.degree a.span a.curve.knots.now a.curve.points.now a.curve.weights.now a.curve.rational a.lo a.hi)
    ∙ ap point_only (start-is a.curve.degree a.curve.knots.now a.curve.points.now a.curve.weights.now a.curve.rational a.lo a.hi a.span c.in_ok-start_refusal.ensures))) in
    record { value = all.0; point_holds_on = all.1.0; not_idle = all.1.1 }

use Rattle.std.proofs.lemmas.Result.{err_from_is_err_and}
use Rattle.std.specs.Prelude.{Ok}
use mathlib.Core.Path.{ap, ◌∙◌}
use Rattle.bounds.specs.Answer.{bounded_of}
use Rattle.bounds.proofs.Asked.{start-refused, start-asked, start-is}
use Rattle.bounds.proofs.Promised.{step-promised}
use Rattle.bounds.proofs.curve.bound_span.Goals as goal

pub returns-in_err-start_refusal : goal.returns-in_err-start_refusal
returns-in_err-start_refusal c = let a = c.args in
    let p = err_from_is_err_and c.from_residual.result c.from_residual.ensures.1 in
    let all = step-promised a.curve.degree a.span a.curve.knots.now a.curve.points.now a.curve.weights.now a.curve.rational a.lo a.hi c.from_residual.result
    (rw (p.1, p.2) (start-refused a.curve.degree a.curve.knots.now a.curve.points.now a.curve.weights.now a.curve.rational a.lo a.hi a.span c.in_err-start_refusal.ensures)) in
    record { value = all.0; holds_on = all.1.0; not_idle = all.1.1 }

pub on_span-requires : goal.on_span-requires
on_span-requires c = let a = c.args in
    let k = start-asked a.curve.degree a.curve.knots.now a.curve.points.now a.curve.weights.now a.curve.rational a.lo a.hi a.span c.in_ok-start_refusal.ensures in
    record { degree_bound = k.small; degree_le_s = k.first; degree_in_bounds = k.room; s_bound = k.few }

pub returns : goal.returns
returns c = let a = c.args in
    let all = step-promised a.curve.degree a.span a.curve.knots.now a.curve.points.now a.curve.weights.now a.curve.rational a.lo a.hi _
    (c.answer_of.ensures ∙ (ap bounded_of c.on_span.ensures ∙ start-is a.curve.degree a.curve.knots.now a.curve.points.now a.curve.weights.now a.curve.rational a.lo a.hi a.span c.in_ok-start_refusal.ensures)) in
    record { value = all.0; holds_on = all.1.0; not_idle = all.1.1 }

-- `evaluate::curve::eval` meets its contract. Refusals are opened down to 43, so that another mode is another refusal and not only another name.
-- Assumes nothing.
use Rattle.std.proofs.lemmas.Result.{err_from_is_err_and}
use Rattle.knots.specs.Span.{refusing, domain_refusal}
use Rattle.knots.proofs.Refusals.{let_by}
use Rattle.evaluate.specs.Curve.{parameter_refusal, eval_refusal}
use Rattle.evaluate.proofs.Steps.{eval-fits}
use Rattle.evaluate.proofs.Curves.{eval-refused, eval-is}
use Rattle.evaluate.proofs.curve.eval.Goals as goal

pub returns-in_err-eval_refusal : goal.returns-in_err-eval_refusal
unfolding eval_refusal parameter_refusal domain_refusal
returns-in_err-eval_refusal c = let a = c.args in
    let p = err_from_is_err_and c.from_residual.result c.from_residual.ensures.1 in rw (p.1, p.2) (eval-refused refusing a.curve.degree a.curve.knots.now a.curve.points.now a.curve.rational a.curve.weights.now a.t c.in_err-eval_refusal.ensures)

pub found_at-requires : goal.found_at-requires
unfolding eval_refusal parameter_refusal domain_refusal
found_at-requires c = let a = c.args in
    let o = eval-fits a.curve.degree a.curve.knots.now a.curve.points.now a.curve.rational a.curve.weights.now refusing a.t (let_by _ c.in_ok-eval_refusal.ensures) in
    record { degree_bound = o.0; weights_value = o.1 }

pub returns : goal.returns
unfolding eval_refusal parameter_refusal domain_refusal
returns c = let a = c.args in
    eval-is refusing a.curve.degree a.curve.knots.now a.curve.points.now a.curve.rational a.curve.weights.now a.t (let_by _ c.in_ok-eval_refusal.ensures) _ c.found_at.ensures

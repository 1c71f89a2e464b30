-- `evaluate::curve2::eval2` meets its contract.
-- Assumes nothing.
use Rattle.std.proofs.Common.{◌∙◌, ap}
use Rattle.std.proofs.lemmas.Result.{err_from_is_err_and}
use Rattle.knots.specs.Span.{refusing}
use Rattle.knots.proofs.Refusals.{let_by}
use Rattle.evaluate.specs.Curve2.{told2}
use Rattle.evaluate.proofs.Steps.{eval-fits}
use Rattle.evaluate.proofs.Curves.{eval2-refused, eval2-is}
use Rattle.evaluate.proofs.curve2.eval2.Goals as goal

pub returns-in_err-eval_refusal : goal.returns-in_err-eval_refusal
returns-in_err-eval_refusal c = let a = c.args in
    let p = err_from_is_err_and c.from_residual.result c.from_residual.ensures.1 in rw (p.1, p.2) (eval2-refused refusing a.curve.degree a.curve.knots.now a.curve.points.now a.curve.rational a.curve.weights.now a.t c.in_err-eval_refusal.ensures)

pub found2_at-requires : goal.found2_at-requires
found2_at-requires c = let a = c.args in
    let o = eval-fits a.curve.degree a.curve.knots.now a.curve.points.now a.curve.rational a.curve.weights.now refusing a.t (let_by _ c.in_ok-eval_refusal.ensures) in
    record { degree_bound = o.0; weights_value = o.1 }

pub returns : goal.returns
returns c = let a = c.args in
    c.told2_of.ensures ∙ (ap told2 c.found2_at.ensures ∙ eval2-is refusing a.curve.degree a.curve.knots.now a.curve.points.now a.curve.rational a.curve.weights.now a.t (let_by _ c.in_ok-eval_refusal.ensures))

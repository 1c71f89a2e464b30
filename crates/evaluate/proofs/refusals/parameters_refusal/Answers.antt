-- `evaluate::refusals::parameters_refusal` meets its contract.
-- Assumes nothing.
use Rattle.std.proofs.lemmas.Result.{err_from_is_err_and}
use Rattle.knots.proofs.Refusals.{skip, refused-first}
use Rattle.evaluate.specs.Surface.{parameters_refusal}
use Rattle.evaluate.proofs.refusals.parameters_refusal.Goals as goal

pub returns-in_err-degrees_refusal : goal.returns-in_err-degrees_refusal
unfolding parameters_refusal
returns-in_err-degrees_refusal c = let p = err_from_is_err_and c.from_residual.result c.from_residual.ensures.1 in rw (p.1, p.2) (refused-first _ _ c.in_err-degrees_refusal.ensures)

pub returns-in_err-domain_refusal : goal.returns-in_err-domain_refusal
unfolding parameters_refusal
returns-in_err-domain_refusal c = let p = err_from_is_err_and c.from_residual-in_err-domain_refusal.result c.from_residual-in_err-domain_refusal.ensures.1 in rw (p.1, p.2) (simp (skip _ c.in_ok-degrees_refusal.ensures) (refused-first _ _ c.in_err-domain_refusal.ensures))

pub returns : goal.returns
unfolding parameters_refusal
returns c = simp (skip _ c.in_ok-degrees_refusal.ensures, skip _ c.in_ok-domain_refusal.ensures) c.domain_refusal-2.ensures

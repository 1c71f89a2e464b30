-- `evaluate::refusals::degrees_refusal` meets its contract.
-- Assumes nothing.
use Rattle.std.proofs.lemmas.Result.{err_from_is_err_and}
use Rattle.knots.proofs.Refusals.{skip, refused-first}
use Rattle.evaluate.specs.Surface.{degrees_refusal}
use Rattle.evaluate.proofs.refusals.degrees_refusal.Goals as goal

pub returns-in_err-degree_refusal : goal.returns-in_err-degree_refusal
unfolding degrees_refusal
returns-in_err-degree_refusal c = let p = err_from_is_err_and c.from_residual.result c.from_residual.ensures.1 in rw (p.1, p.2) (refused-first _ _ c.in_err-degree_refusal.ensures)

pub returns : goal.returns
unfolding degrees_refusal
returns c = simp (skip _ c.in_ok-degree_refusal.ensures) c.degree_refusal-2.ensures

-- `many::start::table_refusal` meets its contract.
-- Assumes nothing.
use Rattle.std.proofs.lemmas.Result.{err_from_is_err_and}
use Rattle.knots.proofs.Refusals.{skip, refused-first}
use Rattle.many.specs.Start.{table_refusal}
use Rattle.many.proofs.start.table_refusal.Goals as goal

pub returns-in_err-curve_refusal : goal.returns-in_err-curve_refusal
unfolding table_refusal
returns-in_err-curve_refusal c = let p = err_from_is_err_and c.from_residual.result c.from_residual.ensures.1 in rw (p.1, p.2) (refused-first _ _ c.in_err-curve_refusal.ensures)

pub returns : goal.returns
unfolding table_refusal
returns c = simp (skip _ c.in_ok-curve_refusal.ensures) c.degree_refusal.ensures

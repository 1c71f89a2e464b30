-- `elevation::start::elevate_start` meets its contract.
-- Assumes nothing.
use Rattle.std.proofs.lemmas.Result.{err_from_is_err_and}
use Rattle.knots.proofs.Refusals.{let_by, skip, refused-first}
use Rattle.elevation.specs.Whole.{elevate_start}
use Rattle.elevation.proofs.Opened.{edit-small}
use Rattle.elevation.proofs.start.elevate_start.Goals as goal

pub returns-in_err-edit_start : goal.returns-in_err-edit_start
unfolding elevate_start
returns-in_err-edit_start c = let p = err_from_is_err_and c.from_residual.result c.from_residual.ensures.1 in
    rw (p.1, p.2) (refused-first _ _ c.in_err-edit_start.ensures)

pub raise_start-requires : goal.raise_start-requires
raise_start-requires c = let a = c.args in
    edit-small a.curve.degree a.curve.knots.now a.curve.points.now a.curve.rational a.curve.weights.now (let_by _ c.in_ok-edit_start.ensures)

pub returns : goal.returns
unfolding elevate_start
returns c = simp (skip _ c.in_ok-edit_start.ensures) c.raise_start.ensures

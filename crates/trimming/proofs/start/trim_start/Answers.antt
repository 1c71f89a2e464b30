-- `trimming::start::trim_start` meets its contract.
-- Assumes nothing.
use Rattle.std.proofs.lemmas.Result.{err_from_is_err_and}
use Rattle.knots.proofs.Refusals.{let_by, skip, refused-first}
use Rattle.edits.proofs.Starting.{edit-open}
use Rattle.trimming.specs.Trim.{trim_start}
use Rattle.trimming.proofs.start.trim_start.Goals as goal

pub returns-in_err-edit_start : goal.returns-in_err-edit_start
unfolding trim_start
returns-in_err-edit_start c = let p = err_from_is_err_and c.from_residual.result c.from_residual.ensures.1 in
    rw (p.1, p.2) (refused-first _ _ c.in_err-edit_start.ensures)

pub range_refusal-requires : goal.range_refusal-requires
range_refusal-requires c = let a = c.args in
    let o = (edit-open a.curve.degree a.curve.knots.now a.curve.points.now a.curve.rational a.curve.weights.now (let_by _ c.in_ok-edit_start.ensures)).0 in
    record {
      valid_knots = o.knots;
      knots_len_bound = o.short.knots;
    }

pub returns : goal.returns
unfolding trim_start
returns c = simp (skip _ c.in_ok-edit_start.ensures) c.range_refusal.ensures

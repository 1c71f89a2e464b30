use Rattle.std.proofs.lemmas.Result.{err_from_is_err_and}
use Rattle.bounds.specs.Start.{row_of}
use Rattle.bounds.proofs.start.row_of.Goals as goal

pub returns-in_err-r : goal.returns-in_err-r
unfolding row_of
returns-in_err-r c = let p = err_from_is_err_and c.from_residual.result c.from_residual.ensures.1 in rw (p.1, p.2, ← c.point.ensures, ← c.in_err-r.ensures)

pub returns : goal.returns
unfolding row_of
returns c = rw (← c.point.ensures, ← c.in_ok-r.ensures) c.row_by.ensures

use Rattle.std.proofs.lemmas.Result.{err_from_is_err_and}
use Rattle.bounds.specs.Start.{row_of}
use Rattle.bounds.proofs.flat.flat_row.Goals as goal

pub returns-in_err-r : goal.returns-in_err-r
unfolding row_of
returns-in_err-r c = let p = err_from_is_err_and c.from_residual.result c.from_residual.ensures.1 in rw (p.1, p.2, ← c.point.ensures, ← c.in_err-r.ensures)

pub returns-then-along-le7 : goal.returns-then-along-le7
unfolding row_of
returns-then-along-le7 c = rw (← c.point.ensures, ← c.in_ok-r.ensures) c.flat_small.ensures

pub returns-else-along-le7 : goal.returns-else-along-le7
unfolding row_of
returns-else-along-le7 c = rw (← c.point.ensures, ← c.in_ok-r.ensures) c.flat_large.ensures

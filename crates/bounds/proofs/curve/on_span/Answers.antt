use Rattle.std.proofs.lemmas.Result.{err_from_is_err_and}
use Rattle.bounds.specs.Curve.{span_bound}
use Rattle.bounds.proofs.curve.on_span.Goals as goal

pub returns-in_err-w : goal.returns-in_err-w
unfolding span_bound
returns-in_err-w c = let p = err_from_is_err_and c.from_residual.result c.from_residual.ensures.1 in rw (p.1, p.2, ← c.in_err-w.ensures)

pub returns-in_default : goal.returns-in_default
unfolding span_bound
returns-in_default c = rw (← c.in_ok-w.ensures, ← c.new.ensures, c.in_default.is, c.refuse.ensures)

pub returns : goal.returns
unfolding span_bound
returns c = rw (← c.in_ok-w.ensures, ← c.in-Some.ensures, ← c.parameter-t.ensures, ← c.point_at-o.ensures, ← c.row_of-net.ensures) c.cartesian_of.ensures

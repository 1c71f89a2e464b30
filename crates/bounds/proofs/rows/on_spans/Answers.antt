use Rattle.std.proofs.lemmas.Result.{err_from_is_err_and}
use Rattle.bounds.specs.Surface.{spans_bound, row_at}
use Rattle.bounds.proofs.rows.on_spans.Goals as goal

pub returns-in_err-w : goal.returns-in_err-w
unfolding spans_bound row_at
returns-in_err-w c = let p = err_from_is_err_and c.from_residual.result c.from_residual.ensures.1 in rw (p.1, p.2, ← c.in_err-w.ensures)

pub returns-in_default : goal.returns-in_default
unfolding spans_bound row_at
returns-in_default c = rw (← c.in_ok-w.ensures, ← c.new.ensures, c.in_default.is, c.refuse.ensures)

pub returns-in_default-new : goal.returns-in_default-new
unfolding spans_bound row_at
returns-in_default-new c = rw (← c.in_ok-w.ensures, ← c.in-Some.ensures, ← c.new-2.ensures, c.in_default-new.is, c.refuse-in_default-new.ensures)

pub returns : goal.returns
unfolding spans_bound row_at
returns c = rw (
  ← c.in_ok-w.ensures,
  ← c.in-Some.ensures,
  ← c.in-Some-new.ensures,
  ← c.point_at-o.ensures,
  ← c.second.ensures,
  ← c.parameter.ensures,
  ← c.rows_of-net.ensures,
) c.cartesian_of.ensures

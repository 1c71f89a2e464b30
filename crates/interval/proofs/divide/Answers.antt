use Rattle.std.proofs.Common.{sym, ap, ◌∙◌}
use Rattle.std.specs.Prelude.{Ok}
use Rattle.std.proofs.lemmas.Result.{err_from_is_err_and}
use Rattle.interval.specs.Ops.{divide_of, times_by}
use Rattle.interval.proofs.divide.Goals as goal

pub returns-in_err-r : goal.returns-in_err-r
unfolding divide_of
returns-in_err-r c = let p = err_from_is_err_and c.from_residual.result c.from_residual.ensures.1 in rw (p.1, p.2) (ap (times_by c.args.a) c.in_err-r.ensures)

pub returns : goal.returns
unfolding divide_of
returns c = ap Ok c.mul.ensures ∙ ap (times_by c.args.a) c.in_ok-r.ensures

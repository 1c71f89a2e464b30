use Rattle.std.proofs.lemmas.Result.{err_from_is_err_and}
use Rattle.jets.proofs.net.step.Goals as goal

pub returns-in_err-alpha : goal.returns-in_err-alpha
returns-in_err-alpha c = let p = err_from_is_err_and c.from_residual.result c.from_residual.ensures.1 in rw (p.1, p.2, ← c.in_err-alpha.ensures)

pub returns : goal.returns
returns c = rw (← c.in_ok-alpha.ensures, c.mix.ensures)

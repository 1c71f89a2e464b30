use Rattle.std.proofs.lemmas.Result.{err_from_is_err_and}
use lib.Ieee.{of_bits}
use Rattle.bounds.specs.Start.{range_of}
use Rattle.bounds.proofs.start.range_of.Goals as goal

pub returns-in_err-q : goal.returns-in_err-q
unfolding range_of
returns-in_err-q c = let p = err_from_is_err_and c.from_residual.result c.from_residual.ensures.1 in rw (p.1, p.2, ← c.point.ensures, ← c.point-2.ensures, ← c.in_err-q.ensures)

pub returns-then-lo : goal.returns-then-lo
unfolding range_of of_bits
returns-then-lo c = rw (← c.point.ensures, ← c.point-2.ensures, ← c.in_ok-q.ensures, ← c.lo-lo.ensures, c.if-lo.true, c.refuse.ensures)

pub returns-in_default : goal.returns-in_default
unfolding range_of of_bits
returns-in_default c = rw (← c.point.ensures, ← c.point-2.ensures, ← c.in_ok-q.ensures, ← c.lo-lo.ensures, c.if-lo.false, ← c.new.ensures, c.in_default.is, c.refuse-in_default.ensures)

pub returns : goal.returns
unfolding range_of of_bits
returns c = rw (← c.point.ensures, ← c.point-2.ensures, ← c.in_ok-q.ensures, ← c.lo-lo.ensures, c.if-lo.false, ← c.in-Some.ensures)

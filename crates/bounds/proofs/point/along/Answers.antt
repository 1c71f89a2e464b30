use Rattle.bounds.specs.Point.{along_of}
use Rattle.bounds.proofs.point.along.Goals as goal

pub returns : goal.returns
unfolding along_of
returns c = rw (c.add.ensures, c.point.ensures, c.mul.ensures)

use Rattle.bounds.specs.Start.{moved_of}
use Rattle.bounds.proofs.start.moved.Goals as goal

pub returns : goal.returns
unfolding moved_of
returns c = rw (c.constant.ensures, c.mul.ensures, c.sub.ensures, c.point-2.ensures, c.point.ensures)

use Rattle.ends.specs.Flat.{dot_of}
use Rattle.ends.proofs.flat.dot.Goals as goal

pub returns : goal.returns
unfolding dot_of
returns c = rw (c.sum.ensures, c.times-2.ensures, c.times.ensures)

use Rattle.jets.specs.Jet.{constant_of}
use Rattle.bounds.specs.Start.{moved_of}
use Rattle.bounds.proofs.flat.moved_by.Goals as goal

pub returns : goal.returns
unfolding moved_of constant_of
returns c = rw (c.ends_of.ensures, c.mul.ensures, c.sub.ensures, c.point.ensures, c.point-2.ensures)

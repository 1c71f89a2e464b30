use Rattle.bounds.proofs.flat.flat_moved.Goals as goal

pub returns : goal.returns
returns c = rw (c.times.ensures, c.ends_of.ensures, c.sub.ensures, c.point.ensures, c.point-2.ensures)

use Rattle.ends.proofs.ends.ends_of.Goals as goal

pub returns : goal.returns
returns c = rw (c.lo.ensures, c.hi.ensures)

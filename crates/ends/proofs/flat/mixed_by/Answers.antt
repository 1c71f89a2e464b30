use Rattle.ends.proofs.flat.mixed_by.Goals as goal

pub returns : goal.returns
returns c = rw (c.dot_by.ensures, c.dot_by-2.ensures, c.dot_by-3.ensures, c.dot_by-4.ensures)

use Rattle.jets.proofs.net.dot.Goals as goal

pub returns : goal.returns
returns c = rw (c.add.ensures, c.mul-2.ensures, c.mul.ensures)

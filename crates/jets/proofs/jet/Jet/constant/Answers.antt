use lib.Ieee.{of_bits}
use Rattle.jets.specs.Jet.{constant_of}
use Rattle.jets.proofs.jet.Jet.constant.Goals as goal

pub returns : goal.returns
unfolding constant_of of_bits
returns c = rw (c.point-z.ensures)

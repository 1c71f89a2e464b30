use Rattle.jets.specs.Jet.{second_of}
use lib.Ieee.{of_bits}
use Rattle.jets.proofs.jet.second.Goals as goal

pub returns : goal.returns
unfolding second_of of_bits
returns c = rw (c.point-2.ensures, c.point.ensures)

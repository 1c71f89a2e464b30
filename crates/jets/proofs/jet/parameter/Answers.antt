use lib.Ieee.{of_bits}
use Rattle.jets.specs.Jet.{parameter_of}
use Rattle.jets.proofs.jet.parameter.Goals as goal

pub returns : goal.returns
unfolding parameter_of of_bits
returns c = rw (c.point-2.ensures, c.point.ensures)

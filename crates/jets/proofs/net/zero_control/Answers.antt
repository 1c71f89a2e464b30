use lib.Ieee.{of_bits}
use Rattle.jets.proofs.net.zero_control.Goals as goal

pub returns : goal.returns
unfolding of_bits
returns c = rw (c.constant-zero.ensures, c.point.ensures)

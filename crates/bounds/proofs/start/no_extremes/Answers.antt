use lib.Ieee.{of_bits}
use Rattle.bounds.proofs.start.no_extremes.Goals as goal

pub returns : goal.returns
unfolding of_bits
returns c = rw c.infinity.ensures

use lib.Ieee.{of_bits, nan_bits}
use Rattle.ends.proofs.ends.capped.Goals as goal

pub float_from_bits-top : goal.float_from_bits-top
unfolding nan_bits
float_from_bits-top c = tt

pub returns-then-x-top : goal.returns-then-x-top
unfolding of_bits
returns-then-x-top c = rw c.if-x-top.true

pub returns-else-x-top : goal.returns-else-x-top
unfolding of_bits
returns-else-x-top c = rw c.if-x-top.false

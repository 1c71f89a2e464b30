-- `knots::numbers::is_above` meets its contract.
-- Assumes nothing.
use lib.Ieee.{of_bits}
use Rattle.knots.proofs.numbers.is_above.Goals as goal

pub returns-then-weight : goal.returns-then-weight
unfolding of_bits
returns-then-weight c = simp c.if-weight.true

pub returns : goal.returns
returns c = simp c.if-weight.false

-- `runs::weights::weight_at` meets its contract.
-- Assumes nothing.
use lib.Ieee.{of_bits}
use Rattle.runs.specs.Weight.{weight_at}
use Rattle.runs.proofs.weights.weight_at.Goals as goal

pub returns-then-rational : goal.returns-then-rational
unfolding weight_at
returns-then-rational c = rw c.if-rational.true c.number_at.ensures

pub returns : goal.returns
unfolding weight_at of_bits
returns c = simp c.if-rational.false

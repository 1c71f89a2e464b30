-- `edits::inside::row_of` meets its contract.
-- Assumes nothing.
use lib.Ieee.{of_bits}
use Rattle.edits.proofs.inside.row_of.Goals as goal

pub returns-then-rational : goal.returns-then-rational
returns-then-rational c = simp c.if-rational.true

pub returns : goal.returns
unfolding of_bits
returns c = simp c.if-rational.false

-- `evaluate::controls::scale_at` meets its contract.
-- Assumes nothing.
use lib.Ieee.{of_bits}
use Rattle.evaluate.specs.Controls.{scale_of}
use Rattle.evaluate.proofs.controls.scale_at.Goals as goal

pub returns-then-not-rational : goal.returns-then-not-rational
unfolding scale_of of_bits
returns-then-not-rational c = simp c.if-not-rational.true

pub largest_in-requires : goal.largest_in-requires
largest_in-requires c = c.requires c.if-not-rational.false

pub returns : goal.returns
unfolding scale_of of_bits
returns c = simp c.if-not-rational.false c.largest_in.ensures

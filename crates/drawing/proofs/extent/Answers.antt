-- By the test.
-- Assumes nothing.
use mathlib.Core.Path.{refl}
use lib.Ieee.{of_bits}
use Rattle.drawing.specs.Drawing.{extent_of}
use Rattle.drawing.proofs.extent.Goals as goal

pub returns-then-d : goal.returns-then-d
unfolding extent_of of_bits
returns-then-d c = rw (c.min.ensures, c.next_down.ensures, c.infinity.ensures, c.if-d.true) refl

pub returns : goal.returns
unfolding extent_of of_bits
returns c = rw c.if-d.false refl

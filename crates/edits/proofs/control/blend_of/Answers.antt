-- `edits::control::blend_of` meets its contract.
-- Assumes nothing.
use lib.Ieee.{of_bits}
use borrow.Author.Rules.{rules}
use Rattle.edits.specs.Control.{blend_of}
use Rattle.edits.proofs.control.blend_of.Goals as goal

pub returns : goal.returns
unfolding blend_of of_bits
returns c = search rules

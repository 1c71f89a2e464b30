-- `made::iso::iso_term_of` meets its contract.
-- Assumes nothing.
use mathlib.Core.Path.{refl}
use lib.Ieee.{of_bits}
use Rattle.made.specs.Iso.{iso_term}
use Rattle.made.proofs.iso.iso_term_of.Goals as goal

pub returns : goal.returns
unfolding iso_term of_bits
returns c = refl

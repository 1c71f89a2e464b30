-- `many::store::origin` meets its contract.
-- Assumes nothing.
use lib.Ieee.{of_bits}
use mathlib.Core.Path.{refl}
use Rattle.many.proofs.store.origin.Goals as goal

pub returns : goal.returns
unfolding of_bits
returns c = refl

-- `evaluate::surface::surface_quotient_of` meets its contract.
-- Assumes nothing.
use mathlib.Core.Path.{refl}
use Rattle.evaluate.specs.Surface.{surface_quotient}
use Rattle.evaluate.proofs.surface.surface_quotient_of.Goals as goal

pub returns : goal.returns
unfolding surface_quotient
returns c = refl

-- `elevation::raise::raise_share` meets its contract.
-- Assumes nothing.
use mathlib.Core.Path.{ap₂}
use lib.Ieee.{Float, binary64, div}
use Rattle.elevation.specs.Raise.{raise_share}
use Rattle.elevation.proofs.raise.raise_share.Goals as goal

pub returns : goal.returns
unfolding raise_share
returns c = ap₂ (λ (x y : Float). div binary64 x y) c.as_double.ensures c.as_double-2.ensures

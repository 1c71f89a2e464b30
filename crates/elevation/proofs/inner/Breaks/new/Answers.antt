-- `elevation::inner::Breaks::new` meets its contract: all breaks are still to come.
-- Assumes nothing.
use mathlib.Core.Path.{refl}
use Rattle.elevation.specs.Breaks.{breaks_of}
use Rattle.elevation.proofs.inner.Breaks.new.Goals as goal

pub returns : goal.returns
unfolding breaks_of
returns c = refl

use mathlib.Core.Path.{refl}
use Rattle.bounds.specs.Flat.{flat_at}
use Rattle.bounds.proofs.flat.flat_at.Goals as goal

pub returns : goal.returns
unfolding flat_at
returns c = refl

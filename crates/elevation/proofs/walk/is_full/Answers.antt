-- `elevation::walk::is_full` meets its contract.
-- Assumes nothing.
use Prim.Native.Nat.{ℕ}
use mathlib.Core.Path.{ap}
use lib.Dec.{ltb}
use Rattle.elevation.specs.Breaks.{is_full}
use Rattle.elevation.proofs.walk.is_full.Goals as goal

pub returns : goal.returns
unfolding is_full
returns c = ap (λ (m : ℕ). ltb c.args.p m) c.multiplicity.ensures

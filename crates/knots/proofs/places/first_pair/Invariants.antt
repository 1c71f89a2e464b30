-- `knots::places::first_pair` meets its contract: all numbers before the place reached stand before those a gap further on.
-- Assumes nothing.
use Prim.Native.Nat.{◌+◌}
use mathlib.Core.Path.{◌≡◌}
use mathlib.Core.Bool.{true}
use Rattle.doubles.specs.Run.{at}
use Rattle.knots.specs.Below.{all_below}
use Rattle.knots.specs.Fine.{before as before_of}
use Rattle.knots.proofs.places.first_pair.Given as goal

abbrev pub invariant-loop-k : goal.invariant-loop-k
invariant-loop-k l = all_below (λ i. before_of l.strict (at l.xs i) (at l.xs (i + l.gap))) l.k ≡ true
